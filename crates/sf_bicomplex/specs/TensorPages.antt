-- The lowest row of the tensor bicomplex of two complexes C and D of free modules: its first page is C x N, where N has the map
-- of D to place 0 as relations, and its second page is the homology of that complex, which is Tor where C and D resolve.
-- (Weibel, "An Introduction to Homological Algebra", sections 2.7 and 5.6.)
use Rattle.std.specs.Prelude.{◌≡◌, ◌↔◌, ◌+◌, ℕ, zero, suc, ◌<◌, List, [], ◌∷◌, pos}
use Rattle.sf_algebra.specs.Matrices.{Matrix, IsMatrix}
use Rattle.sf_algebra.specs.MatrixOperations.{degree_sums, identity, kronecker}
use Rattle.sf_algebra.specs.Rings.{IsOverField}
use Rattle.sf_groebner.specs.Homology.{ComplexPlace, IsAny, IsHomology}
use Rattle.sf_groebner.specs.MinimalGenerators.{matrix_of}
use Rattle.sf_groebner.specs.Presentations.{IsPresentation}
use Rattle.sf_groebner.specs.Resolutions.{IsResolution}
use Rattle.sf_groebner.specs.Spans.{InSpan}
use Rattle.sf_homotopy.specs.Exactness.{IsExactPair}
use Rattle.sf_bicomplex.specs.Pages.{IsPage}
use Rattle.sf_bicomplex.specs.TensorBicomplexes.{FreeComplex, IsFreeComplex, complex_of, tensor_of_complexes}

-- the relations of the tensor product of a free module and the module with the relations m, in place p of a complex
abbrev pub tensor_relations : FreeComplex → Matrix → ℕ → Matrix
tensor_relations c m p = kronecker (identity c.ring (c.degrees p)) m

-- the place p of the complex C x N
abbrev pub tensor_beyond : FreeComplex → Matrix → ℕ → Matrix
tensor_beyond c m zero = matrix_of c.ring [] []
tensor_beyond c m (suc p) = tensor_relations c m p

abbrev pub tensor_place : FreeComplex → Matrix → ℕ → ComplexPlace
tensor_place c m p = record {
  arriving = kronecker (c.map (suc p)) (identity c.ring m.target);
  here = tensor_relations c m p;
  out = kronecker (c.map p) (identity c.ring m.target);
  beyond = tensor_beyond c m p;
}

-- page 1 in column p and row 0 is the tensor product there
abbrev pub HasTensorProductsAsFirstPage : Type 0
HasTensorProductsAsFirstPage =
    (c d : FreeComplex) → IsFreeComplex c → IsFreeComplex d → c.ring ≡ d.ring → IsOverField c.ring → (p : ℕ)
    → p < c.places → (g r : Matrix)
    → IsPage (tensor_of_complexes c d) 1 (pos p) p g r
    ↔ IsPresentation c.ring (degree_sums (c.degrees p) (d.degrees 0))
    (IsAny c.ring (degree_sums (c.degrees p) (d.degrees 0))) (InSpan (tensor_relations c (d.map 1) p)) g r

-- page 2 there is the homology of C x N
abbrev pub HasTorAsSecondPage : Type 0
HasTorAsSecondPage =
    (c d : FreeComplex) → IsFreeComplex c → IsFreeComplex d → c.ring ≡ d.ring → IsOverField c.ring → (p : ℕ)
    → p < c.places → (g r : Matrix)
    → IsPage (tensor_of_complexes c d) 2 (pos p) p g r ↔ IsHomology (tensor_place c (d.map 1) p) g r

-- where D is exact but at place 0, page 1 has nothing above row 0
abbrev pub HasNothingAbove : Type 0
HasNothingAbove =
    (c d : FreeComplex) → IsFreeComplex c → IsFreeComplex d → c.ring ≡ d.ring → IsOverField c.ring
    → ((q : ℕ) → IsExactPair (d.map (suc q)) (d.map (suc (suc q)))) → (p q : ℕ) → p < c.places → (g r : Matrix)
    → IsPage (tensor_of_complexes c d) 1 (pos (p + suc q)) p g r → (g.rows ≡ []) × (r.rows ≡ [])

-- resolutions are exact so, where their last step has no rows
abbrev pub EndsWithoutRows : List Matrix → Type 0
EndsWithoutRows [] = ⊥
EndsWithoutRows (m ∷ []) = m.rows ≡ []
EndsWithoutRows (m ∷ n ∷ ms) = EndsWithoutRows (n ∷ ms)

abbrev pub HasExactResolutions : Type 0
HasExactResolutions =
    (relations : Matrix) → IsOverField relations.ring → IsMatrix relations → (steps : List Matrix)
    → IsResolution relations steps → EndsWithoutRows steps → (q : ℕ)
    → IsExactPair ((complex_of relations.ring relations.target steps).map (suc q))
    ((complex_of relations.ring relations.target steps).map (suc (suc q)))
