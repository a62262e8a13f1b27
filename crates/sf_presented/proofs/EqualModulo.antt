-- Equality modulo a module is an equivalence of canonical vectors.
use Rattle.std.proofs.Common.{◌≡◌, List, [], refl, sym, ◌∙◌, subst, ℤ}
use Rattle.sf_algebra.specs.Multiples.{negative}
use Rattle.sf_algebra.specs.Rings.{Ring, IsRing}
use Rattle.sf_algebra.specs.Terms.{Term}
use Rattle.sf_algebra.specs.VectorOperations.{vector_difference}
use Rattle.sf_algebra.specs.Vectors.{Place, Vector, place_cmp, IsCanonicalRow}
use Rattle.sf_algebra.proofs.Multiplying.Keys.{place_keys}
use Rattle.sf_algebra.proofs.Operators.Groups.{minus-difference, difference-difference}
use Rattle.sf_algebra.proofs.Terms.Negatives.{IsCanonical-negative, add-negative}
use Rattle.sf_algebra.proofs.Vectors.RowSums.{row_sum-nil_first}
use Rattle.sf_algebra.proofs.Vectors.VectorGroups.{vectors}
use Rattle.sf_groebner.specs.Maps.{AreEqualModulo}
use Rattle.sf_groebner.proofs.Spanning.SpanCombinations.{zero-inside, submodule_closed}
use Rattle.sf_groebner.proofs.Spanning.Submodules.{IsSubmodule}

module _ (ring : Ring) (positive : IsRing ring) (degrees : List ℤ) (B : Vector → Type 0)
    (b : IsSubmodule ring degrees B) where
  negative-inside : (d : ℤ) (ts : List (Term Place)) → B (record { degree = d; terms = ts })
      → B (record { degree = d; terms = negative ring.modulus ts })
  negative-inside d ts h =
      let canonical = (b.module_like.vectors (record { degree = d; terms = ts }) h).canonical in
      subst (λ us. B (record { degree = d; terms = us }))
      (row_sum-nil_first ring positive.modulus (negative ring.modulus ts)
      (IsCanonical-negative (place_cmp ring.weights) ring.modulus ts canonical))
      (b.module_like.differences (record { degree = d; terms = [] }) (record { degree = d; terms = ts })
      (zero-inside ring positive degrees B b d) h refl)

  pub AreEqualModulo-refl : (v : Vector) → IsCanonicalRow ring v.terms → AreEqualModulo ring B v v
  AreEqualModulo-refl v h = record {
    degrees = refl;
    difference =
        subst (λ us. B (record { degree = v.degree; terms = us }))
        (sym (add-negative (place_keys ring.weights) ring.modulus positive.modulus v.terms h))
        (zero-inside ring positive degrees B b v.degree);
  }

  -- equal vectors
  pub AreEqualModulo-equal : (u v : Vector) → IsCanonicalRow ring u.terms → u ≡ v → AreEqualModulo ring B u v
  AreEqualModulo-equal u v h same = subst (AreEqualModulo ring B u) same (AreEqualModulo-refl u h)

  pub AreEqualModulo-sym : (u v : Vector) → IsCanonicalRow ring u.terms → IsCanonicalRow ring v.terms
      → AreEqualModulo ring B u v → AreEqualModulo ring B v u
  AreEqualModulo-sym u v h k same = record {
    degrees = sym same.degrees;
    difference =
        subst B
        (λ i. record {
          degree = same.degrees i;
          terms =
              (minus-difference (vectors ring positive.modulus) (u.terms, h) (v.terms, k) i).0;
        })
        (negative-inside u.degree (vector_difference ring u v).terms same.difference);
  }

  pub AreEqualModulo-trans : (u v w : Vector) → IsCanonicalRow ring u.terms → IsCanonicalRow ring v.terms
      → IsCanonicalRow ring w.terms → AreEqualModulo ring B u v → AreEqualModulo ring B v w → AreEqualModulo ring B u w
  AreEqualModulo-trans u v w h k l first second = record {
    degrees = first.degrees ∙ second.degrees;
    difference =
        subst (λ us. B (record { degree = u.degree; terms = us }))
        (λ i. (difference-difference (vectors ring positive.modulus) (u.terms, h) (v.terms, k) (w.terms, l) i).0)
        ((submodule_closed ring positive degrees B b).sums u.degree (vector_difference ring u v).terms
        (vector_difference ring v w).terms
        first.difference
        (subst (λ d. B (record { degree = d; terms = (vector_difference ring v w).terms }))
        (sym first.degrees) second.difference));
  }
