-- Modules of homogeneous vectors that are closed under combinations, and what a division leaves of their vectors.
use Rattle.std.proofs.Common.{◌≡◌, List, [], ◌∷◌, map, refl, sym, ◌∙◌, ap, subst, arith, ℤ}
use Rattle.std.proofs.lemmas.Int.{ints}
use Rattle.std.specs.List.{AllByRecursion}
use Rattle.sf_algebra.specs.Matrices.{degrees_of}
use Rattle.sf_algebra.specs.MatrixOperations.{row_combination}
use Rattle.sf_algebra.specs.Monomials.{one}
use Rattle.sf_algebra.specs.Multiples.{place_product, term_product, negative}
use Rattle.sf_algebra.specs.Rings.{Ring, IsRing, IsOverField}
use Rattle.sf_algebra.specs.Terms.{Term, IsNonzeroResidue}
use Rattle.sf_algebra.specs.VectorOperations.{row_sum}
use Rattle.sf_algebra.specs.Vectors.{Place, Vector, IsHomogeneous}
use Rattle.sf_algebra.proofs.Arithmetic.Inverses.{inverse_exists, inverse_nonzero}
use Rattle.sf_algebra.proofs.Arithmetic.Residues.{product_mod-comm}
use Rattle.sf_algebra.proofs.Monomials.Places.{place_product-one}
use Rattle.sf_algebra.proofs.Monomials.Weights.{field_ring}
use Rattle.sf_algebra.proofs.Multiplying.Keys.{place_keys}
use Rattle.sf_algebra.proofs.Multiplying.PrimeMultiples.{multiple-map}
use Rattle.sf_algebra.proofs.Vectors.Rows.{IsCanonical-row_combination, row_combination-one}
use Rattle.sf_groebner.specs.Divisions.{IsDivided}
use Rattle.sf_groebner.proofs.Spanning.Modules.{IsModuleLike}
use Rattle.sf_groebner.proofs.Uniqueness.Subtractions.{add-negative_front}

-- with the combinations of vectors of the module
pub record IsSubmodule (ring : Ring) (target : List ℤ) (N : Vector → Type 0) : Type 0 where
  pub module_like : IsModuleLike ring target N
  pub combinations : (rows : List Vector) → AllByRecursion N rows → (d : ℤ) (c : List (Term Place))
      → IsHomogeneous ring.weights (degrees_of rows) d c
      → N (record { degree = d; terms = row_combination ring rows c })

-- a vector of the module whose lead has the coefficient 1 and stands at k
pub record HasMonicAt (N : Vector → Type 0) (k : Place) : Type 0 where
  pub vector : Vector
  pub inside : N vector
  pub tail : List (Term Place)
  pub terms : vector.terms ≡ record { at = k; coefficient = 1 } ∷ tail

module _ (ring : Ring) (positive : IsRing ring) (target : List ℤ) (N : Vector → Type 0)
    (submodule : IsSubmodule ring target N) where
  -- the rest of a division by vectors of the module
  pub rest_inside : (rows : List Vector) → AllByRecursion N rows → (d : ℤ) (ts rest quotients : List (Term Place))
      → N (record { degree = d; terms = ts })
      → IsDivided ring target rows d ts rest quotients → N (record { degree = d; terms = rest })
  rest_inside rows inside d ts rest quotients h e =
      let v : Vector = record { degree = d; terms = ts } in
      let multiples : Vector = record { degree = d; terms = row_combination ring rows quotients } in
      let back : row_sum ring ts (negative ring.modulus multiples.terms) ≡ rest =
      ap (λ us. row_sum ring us (negative ring.modulus multiples.terms)) (sym e.sum)
      ∙ add-negative_front
      (place_keys ring.weights) ring.modulus positive.modulus rest multiples.terms e.vector.canonical
      (IsCanonical-row_combination ring positive.modulus rows quotients) in
      subst N (λ i. record { degree = d; terms = back i })
      (submodule.module_like.differences v multiples h (submodule.combinations rows inside d quotients e.homogeneous) refl)

module _ (ring : Ring) (prime : IsOverField ring) (target : List ℤ) (N : Vector → Type 0)
    (submodule : IsSubmodule ring target N) where
  -- a nonzero vector, by the inverse of its first coefficient
  pub monic_multiple : (d : ℤ) (t : Term Place) (ts : List (Term Place)) → N (record { degree = d; terms = t ∷ ts })
      → HasMonicAt N t.at
  monic_multiple d t ts h =
      let v : Vector = record { degree = d; terms = t ∷ ts } in
      let vector = submodule.module_like.vectors v h in
      let residue : IsNonzeroResidue ring.modulus t = vector.canonical.residues.0 in
      let inverse = inverse_exists ring.modulus prime.prime t.coefficient residue.0 residue.1 in
      let one_place : Place = record { position = 0; monomial = one } in
      let c : Term Place = record { at = one_place; coefficient = inverse.0 } in
      let s : Term _ = record { at = one; coefficient = inverse.0 } in
      let first : term_product place_product ring.modulus s t ≡ record { at = t.at; coefficient = 1 } =
      λ i. record {
        at =
            place_product-one t.at i;
        coefficient = (product_mod-comm ring.modulus inverse.0 t.coefficient ∙ inverse.2) i;
      } in
      record {
        vector = record { degree = d; terms = row_combination ring (v ∷ []) (c ∷ []) };
        inside = submodule.combinations (v ∷ []) (h, tt) d (c ∷ []) ((omega arith, omega (arith, ints)), tt);
        tail = map (term_product place_product ring.modulus s) ts;
        terms =
            row_combination-one ring (field_ring prime).modulus (v ∷ []) c
            ∙ multiple-map (place_keys ring.weights) ring.modulus s prime.prime
            (inverse_nonzero ring.modulus t.coefficient inverse.0 inverse.2, inverse.1) (t ∷ ts) vector.canonical
            ∙ ap (λ u. u ∷ map (term_product place_product ring.modulus s) ts) first;
      }
