-- Rows that are equal modulo a module have combinations that are: the combination of the differences is the difference of
-- the combinations.
use Rattle.std.proofs.Common.{◌≡◌, ℕ, zero, suc, List, [], ◌∷◌, map, refl, sym, ◌∙◌, ap, subst, ℤ}
use Rattle.std.specs.List.{AllByRecursion}
use Rattle.sf_algebra.specs.Matrices.{degrees_of}
use Rattle.sf_algebra.specs.MatrixOperations.{negated, row_at, row_combination}
use Rattle.sf_algebra.specs.Rings.{Ring, IsRing}
use Rattle.sf_algebra.specs.VectorOperations.{row_sum, vector_difference}
use Rattle.sf_algebra.specs.Vectors.{Vector, IsHomogeneous}
use Rattle.sf_algebra.proofs.Vectors.RowParts.{HasCanonicalRows, row_combination-negated}
use Rattle.sf_algebra.proofs.Vectors.RowSums.{row_sum-nil}
use Rattle.sf_algebra.proofs.Vectors.Rows.{IsCanonical-row_combination, row_combination-add_rows}
use Rattle.sf_algebra.proofs.GradedMatrices.MatrixRows.{with_terms}
use Rattle.sf_groebner.specs.Maps.{AreEqualModulo}
use Rattle.sf_groebner.specs.MinimalGenerators.{matrix_of}
use Rattle.sf_groebner.specs.Spans.{combined_rows}
use Rattle.sf_groebner.proofs.Spanning.Submodules.{IsSubmodule}

-- vectors that are equal modulo B, one after another
abbrev pub AreEqualRows : Ring → (Vector → Type 0) → List Vector → List Vector → Type 0
AreEqualRows ring B [] [] = Unit {0}
AreEqualRows ring B [] (w ∷ ws) = ⊥
AreEqualRows ring B (v ∷ vs) [] = ⊥
AreEqualRows ring B (v ∷ vs) (w ∷ ws) = AreEqualModulo ring B v w × AreEqualRows ring B vs ws

pub EqualRows-map : (ring : Ring) (B : Vector → Type 0) (f g : Vector → Vector) (vs : List Vector)
    → AllByRecursion (λ v. AreEqualModulo ring B (f v) (g v)) vs → AreEqualRows ring B (map f vs) (map g vs)
EqualRows-map ring B f g [] h = tt
EqualRows-map ring B f g (v ∷ vs) h = (h.0, EqualRows-map ring B f g vs h.1)

-- vectors and their images
pub EqualRows-image : (ring : Ring) (B : Vector → Type 0) (g : Vector → Vector) (vs : List Vector)
    → AllByRecursion (λ v. AreEqualModulo ring B v (g v)) vs → AreEqualRows ring B vs (map g vs)
EqualRows-image ring B g [] h = tt
EqualRows-image ring B g (v ∷ vs) h = (h.0, EqualRows-image ring B g vs h.1)

-- combinations are canonical
pub canonical-with_terms : (ring : Ring) → IsRing ring → (rows vs : List Vector)
    → HasCanonicalRows ring (with_terms (row_combination ring rows) vs)
canonical-with_terms ring positive rows [] = tt
canonical-with_terms ring positive rows (v ∷ vs) =
    (IsCanonical-row_combination ring positive.modulus rows v.terms, canonical-with_terms ring positive rows vs)

module _ (ring : Ring) (positive : IsRing ring) where
  abbrev differences : List Vector → List Vector → List Vector
  differences [] ws = []
  differences (v ∷ vs) [] = []
  differences (v ∷ vs) (w ∷ ws) = vector_difference ring v w ∷ differences vs ws

  abbrev opposite : List Vector → List Vector
  opposite ws = (negated (matrix_of ring [] ws)).rows

  module _ (B : Vector → Type 0) where
    differences-inside : (vs ws : List Vector) → AreEqualRows ring B vs ws → AllByRecursion B (differences vs ws)
    differences-inside [] [] h = tt
    differences-inside [] (w ∷ ws) h = absurd h
    differences-inside (v ∷ vs) [] h = absurd h
    differences-inside (v ∷ vs) (w ∷ ws) h = (h.0.difference, differences-inside vs ws h.1)

    degrees-differences : (vs ws : List Vector) → AreEqualRows ring B vs ws
        → degrees_of (differences vs ws) ≡ degrees_of vs
    degrees-differences [] [] h = refl
    degrees-differences [] (w ∷ ws) h = absurd h
    degrees-differences (v ∷ vs) [] h = absurd h
    degrees-differences (v ∷ vs) (w ∷ ws) h = ap (λ ds. v.degree ∷ ds) (degrees-differences vs ws h.1)

    none : [] ≡ row_sum ring [] []
    none = sym (row_sum-nil ring positive.modulus [] (record { descending = tt; residues = tt }))

    row_at-differences : (vs ws : List Vector) → AreEqualRows ring B vs ws → (i : ℕ)
        → row_at (differences vs ws) i ≡ row_sum ring (row_at vs i) (row_at (opposite ws) i)
    row_at-differences [] [] h i = none
    row_at-differences [] (w ∷ ws) h i = absurd h
    row_at-differences (v ∷ vs) [] h i = absurd h
    row_at-differences (v ∷ vs) (w ∷ ws) h zero = refl
    row_at-differences (v ∷ vs) (w ∷ ws) h (suc i) = row_at-differences vs ws h.1 i

    pub EqualRows-degrees : (vs ws : List Vector) → AreEqualRows ring B vs ws → degrees_of vs ≡ degrees_of ws
    EqualRows-degrees [] [] h = refl
    EqualRows-degrees [] (w ∷ ws) h = absurd h
    EqualRows-degrees (v ∷ vs) [] h = absurd h
    EqualRows-degrees (v ∷ vs) (w ∷ ws) h = λ i. h.0.degrees i ∷ EqualRows-degrees vs ws h.1 i

    pub EqualRows-combined : (degrees : List ℤ) → IsSubmodule ring degrees B → (vs ws : List Vector)
        → HasCanonicalRows ring ws → AreEqualRows ring B vs ws
        → (c : Vector) → IsHomogeneous ring.weights (degrees_of vs) c.degree c.terms
        → AreEqualModulo ring B (combined_rows ring vs c) (combined_rows ring ws c)
    EqualRows-combined degrees b vs ws canonical h c homogeneous = record {
      degrees = refl;
      difference =
          subst (λ ts. B (record { degree = c.degree; terms = ts }))
          (row_combination-add_rows ring positive.modulus (differences vs ws) vs (opposite ws)
          (row_at-differences vs ws h) c.terms
          ∙ ap (row_sum ring (row_combination ring vs c.terms))
          (row_combination-negated (matrix_of ring [] ws) positive.modulus canonical c.terms))
          (b.combinations (differences vs ws) (differences-inside vs ws h) c.degree c.terms
          (subst (λ ds. IsHomogeneous ring.weights ds c.degree c.terms) (sym (degrees-differences vs ws h)) homogeneous));
    }
