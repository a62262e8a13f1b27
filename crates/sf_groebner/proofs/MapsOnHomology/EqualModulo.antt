-- Vectors that are equal modulo a module.
use Rattle.std.proofs.Common.{◌≡◌, List, refl, ◌∙◌, ap, subst, ℤ}
use Rattle.sf_algebra.specs.Groups.{Group}
use Rattle.sf_algebra.specs.Matrices.{Matrix}
use Rattle.sf_algebra.specs.Multiples.{negative}
use Rattle.sf_algebra.specs.Rings.{Ring, IsRing}
use Rattle.sf_algebra.specs.Terms.{Term}
use Rattle.sf_algebra.specs.VectorOperations.{row_sum, vector_difference}
use Rattle.sf_algebra.specs.Vectors.{Place, Vector, IsCanonicalRow}
use Rattle.sf_algebra.proofs.Operators.Groups.{left, minus-difference, difference-plus}
use Rattle.sf_algebra.proofs.Vectors.VectorGroups.{vectors}
use Rattle.sf_groebner.specs.Maps.{AreEqualModulo}
use Rattle.sf_groebner.specs.Spans.{combined}
use Rattle.sf_groebner.proofs.Spanning.Modules.{IsModuleLike}
use Rattle.sf_groebner.proofs.Spanning.Spans.{combined-difference}

-- a difference taken away
difference-back : {R : Type 0} (G : Group R) (u v : G.V) → G.plus u (G.minus (G.plus u (G.minus v))) ≡ v
difference-back G u v =
    ap (G.plus u) (minus-difference G u v) ∙ left G u v (G.minus u) ∙ ap (G.plus v) (G.inverse u) ∙ G.unit v

module _ (ring : Ring) (positive : IsRing ring) where
  module _ (us vs : List (Term Place)) (u : IsCanonicalRow ring us) (v : IsCanonicalRow ring vs) where
    add-negative_back : row_sum ring us (negative ring.modulus (row_sum ring us (negative ring.modulus vs))) ≡ vs
    add-negative_back = λ i. (difference-back (vectors ring positive.modulus) (us, u) (vs, v) i).0

    -- a difference and what was taken away
    pub add-negative_again : row_sum ring (row_sum ring us (negative ring.modulus vs)) vs ≡ us
    add-negative_again = λ i. (difference-plus (vectors ring positive.modulus) (us, u) (vs, v) i).0

  -- a vector that is equal to one of the module is in it
  pub AreEqualModulo-inside : (degrees : List ℤ) (N : Vector → Type 0) → IsModuleLike ring degrees N → (u v : Vector)
      → IsCanonicalRow ring v.terms → AreEqualModulo ring N u v → N u → N v
  AreEqualModulo-inside degrees N module_like u v canonical same inside =
      let terms = add-negative_back u.terms v.terms (module_like.vectors u inside).canonical canonical in
      subst N (λ i. record { degree = same.degrees i; terms = terms i })
      (module_like.differences u (vector_difference ring u v) inside same.difference refl)

-- a matrix that sends B into A sends what is equal modulo B to what is equal modulo A
pub combined-AreEqualModulo : (map : Matrix) → IsRing map.ring → (B A : Vector → Type 0)
    → ((v : Vector) → B v → A (combined map v))
    → (u v : Vector) → IsCanonicalRow map.ring v.terms → AreEqualModulo map.ring B u v
    → AreEqualModulo map.ring A (combined map u) (combined map v)
combined-AreEqualModulo map positive B A zeros u v canonical same = record {
  degrees = same.degrees;
  difference = subst A (combined-difference map positive u v canonical) (zeros _ same.difference);
}
