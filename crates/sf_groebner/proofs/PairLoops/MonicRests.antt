-- A rest made monic: the vector of the module by the inverse of its first coefficient, of which the rest is a multiple.
use Rattle.std.proofs.Common.{◌≡◌, ℕ, ◌<◌, List, [], ◌∷◌, map, refl, sym, ◌∙◌, ap, subst, arith, ℤ}
use Rattle.std.proofs.lemmas.Int.{ints}
use Rattle.sf_algebra.specs.Monomials.{product, one}
use Rattle.sf_algebra.specs.Multiples.{place_product, term_product}
use Rattle.sf_algebra.specs.Residues.{product_mod}
use Rattle.sf_algebra.specs.Rings.{Ring, IsOverField}
use Rattle.sf_algebra.specs.Terms.{Term}
use Rattle.sf_algebra.specs.VectorOperations.{row_multiple}
use Rattle.sf_algebra.specs.Vectors.{Place, Vector}
use Rattle.sf_algebra.proofs.Arithmetic.Inverses.{inverse_nonzero}
use Rattle.sf_algebra.proofs.Arithmetic.Residues.{product_mod-comm}
use Rattle.sf_algebra.proofs.Monomials.Places.{place_product-one}
use Rattle.sf_algebra.proofs.Monomials.Products.{product-one_first}
use Rattle.sf_algebra.proofs.Monomials.Weights.{field_ring}
use Rattle.sf_algebra.proofs.Multiplying.Keys.{place_keys}
use Rattle.sf_algebra.proofs.Multiplying.MultipleLaws.{multiple-multiple, multiple-one}
use Rattle.sf_algebra.proofs.Multiplying.PrimeMultiples.{multiple-map}
use Rattle.sf_algebra.proofs.Vectors.Rows.{row_combination-one}
use Rattle.sf_groebner.specs.Criterion.{lead_place}
use Rattle.sf_groebner.specs.ReducedBases.{IsMonic}
use Rattle.sf_groebner.proofs.PairTheorems.Multiplied.{constant_term}
use Rattle.sf_groebner.proofs.Spanning.Submodules.{IsSubmodule}

-- v is monic, with the degree and the lead of the terms t and ts, and these are a multiple of v by a constant
pub record IsMonicRest (ring : Ring) (N : Vector → Type 0) (d : ℤ) (t : Term Place) (ts : List (Term Place))
    (v : Vector) : Type 0 where
  pub inside : N v
  pub degree : v.degree ≡ d
  pub monic : IsMonic v.terms
  pub lead : lead_place v.terms ≡ t.at
  pub back : t ∷ ts ≡ row_multiple ring (constant_term t.coefficient) v.terms

-- the multiple by an inverse of the first coefficient
pub monic_rest : (ring : Ring) → IsOverField ring → (target : List ℤ) (N : Vector → Type 0) → IsSubmodule ring target N
    → (d : ℤ) (t : Term Place) (ts : List (Term Place)) → N (record { degree = d; terms = t ∷ ts })
    → (y : ℕ) → y < ring.modulus → product_mod ring.modulus t.coefficient y ≡ 1
    → IsMonicRest ring N d t ts (record { degree = d; terms = row_multiple ring (constant_term y) (t ∷ ts) })
monic_rest ring prime target N submodule d t ts h y residue inverse =
    let p : ℕ = ring.modulus in
    let v : Vector = record { degree = d; terms = t ∷ ts } in
    let canonical = (submodule.module_like.vectors v h).canonical in
    let c : Term Place = record { at = record { position = 0; monomial = one }; coefficient = y } in
    let first : term_product place_product p (constant_term y) t ≡ record { at = t.at; coefficient = 1 } =
    λ i. record { at = place_product-one t.at i; coefficient = (product_mod-comm p y t.coefficient ∙ inverse) i } in
    let terms : row_multiple ring (constant_term y) (t ∷ ts) ≡ record { at = t.at; coefficient = 1 } ∷ map (term_product place_product p (constant_term y)) ts =
    multiple-map (place_keys ring.weights) p (constant_term y) prime.prime (inverse_nonzero p t.coefficient y inverse, residue) (t ∷ ts) canonical
    ∙ ap (λ u. u ∷ map (term_product place_product p (constant_term y)) ts) first in
    let both : term_product product p (constant_term t.coefficient) (constant_term y) ≡ constant_term 1 =
    λ i. record { at = product-one_first one i; coefficient = inverse i } in
    record {
      inside =
          subst (λ us. N (record { degree = d; terms = us }))
          (row_combination-one ring (field_ring prime).modulus (v ∷ []) c)
          (submodule.combinations (v ∷ []) (h, tt) d (c ∷ []) ((omega arith, omega (arith, ints)), tt));
      degree = refl;
      monic = subst IsMonic (sym terms) refl;
      lead = ap lead_place terms;
      back = sym
          (multiple-multiple (place_keys ring.weights) p (field_ring prime).modulus (constant_term t.coefficient) (constant_term y) (t ∷ ts)
          ∙ ap (λ s. row_multiple ring s (t ∷ ts)) both
          ∙ multiple-one (place_keys ring.weights) p (field_ring prime).modulus (t ∷ ts) canonical);
    }
