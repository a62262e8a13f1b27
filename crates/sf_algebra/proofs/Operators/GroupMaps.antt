-- Maps of commutative groups: the map that keeps each element, maps one after the other, sums and negatives of maps.
use Rattle.std.proofs.Common.{refl, sym, ◌∙◌, ap}
use Rattle.sf_algebra.specs.Groups.{Group, IsMap}
use Rattle.sf_algebra.proofs.Operators.Groups.{exchange, minus-plus, act-minus, act-zero}

pub IsMap-id : {R : Type 0} (G : Group R) → IsMap G G (λ u. u)
IsMap-id G = record { to_plus = λ u v. refl; to_act = λ r u. refl }

pub IsMap-after : {R : Type 0} (G H K : Group R) (f : G.V → H.V) (g : H.V → K.V) → IsMap G H f → IsMap H K g
    → IsMap G K (λ u. g (f u))
IsMap-after G H K f g m n = record {
  to_plus = λ u v. ap g (m.to_plus u v) ∙ n.to_plus (f u) (f v);
  to_act = λ r u. ap g (m.to_act r u) ∙ n.to_act r (f u);
}

module _ {R : Type 0} (G H : Group R) where
  pub IsMap-zero : IsMap G H (λ u. H.zero)
  IsMap-zero = record { to_plus = λ u v. sym (H.unit H.zero); to_act = λ r u. sym (act-zero H r) }

  pub IsMap-plus : (f g : G.V → H.V) → IsMap G H f → IsMap G H g → IsMap G H (λ u. H.plus (f u) (g u))
  IsMap-plus f g m n = record {
    to_plus = λ u v. (λ i. H.plus (m.to_plus u v i) (n.to_plus u v i)) ∙ exchange H (f u) (f v) (g u) (g v);
    to_act = λ r u. (λ i. H.plus (m.to_act r u i) (n.to_act r u i)) ∙ sym (H.act_plus r (f u) (g u));
  }

  pub IsMap-minus : (f : G.V → H.V) → IsMap G H f → IsMap G H (λ u. H.minus (f u))
  IsMap-minus f m = record {
    to_plus = λ u v. ap H.minus (m.to_plus u v) ∙ minus-plus H (f u) (f v);
    to_act = λ r u. ap H.minus (m.to_act r u) ∙ sym (act-minus H r (f u));
  }
