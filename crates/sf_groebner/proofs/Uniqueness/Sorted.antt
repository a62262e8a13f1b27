-- Sorted lists of vectors with the same items are equal.
use Rattle.std.proofs.Common.{◌≡◌, inl, inr, List, [], ◌∷◌, refl, sym, ◌∙◌, ap}
use Rattle.std.specs.declared.cmp.Ordering.{Ordering}
use Rattle.std.specs.declared.cmp.Ordering.TheVariants.{Less, Equal, Greater}
use Rattle.std.specs.Ordering.{int_cmp, ordering_reverse, ordering_then}
use Rattle.std.proofs.lemmas.Cmp.{int_cmp_total}
use Rattle.sf_algebra.specs.Rings.{Weights}
use Rattle.sf_algebra.specs.Terms.{Term}
use Rattle.sf_algebra.specs.Vectors.{Place, Vector}
use Rattle.sf_algebra.proofs.Monomials.Orders.{place_cmp_total}
use Rattle.sf_groebner.specs.ReducedBases.{lead_cmp, row_cmp, IsSorted}
use Rattle.sf_groebner.proofs.Basics.Items.{IsItem, AllByRecursion-item}

ordering_reverse-then : (o p : Ordering)
    → ordering_then (ordering_reverse o) (ordering_reverse p) ≡ ordering_reverse (ordering_then o p)
ordering_reverse-then Less p = refl
ordering_reverse-then Equal p = refl
ordering_reverse-then Greater p = refl

lead_cmp-antisymm : (weights : Weights) (ts us : List (Term Place))
    → lead_cmp weights ts us ≡ ordering_reverse (lead_cmp weights us ts)
lead_cmp-antisymm weights [] [] = refl
lead_cmp-antisymm weights [] (u ∷ us) = refl
lead_cmp-antisymm weights (t ∷ ts) [] = refl
lead_cmp-antisymm weights (t ∷ ts) (u ∷ us) = (place_cmp_total weights).antisymm t.at u.at

pub row_cmp-antisymm : (weights : Weights) (v w : Vector) → row_cmp weights v w ≡ ordering_reverse (row_cmp weights w v)
row_cmp-antisymm weights v w =
    (λ i. ordering_then (int_cmp_total.antisymm v.degree w.degree i) (lead_cmp-antisymm weights w.terms v.terms i))
    ∙ ordering_reverse-then (int_cmp w.degree v.degree) (lead_cmp weights v.terms w.terms)

-- of two rows only one comes before the other
pub row_cmp-asymm : (weights : Weights) (v w : Vector) → row_cmp weights v w ≡ Less → row_cmp weights w v ≡ Less → ⊥
row_cmp-asymm weights v w h k = let e = row_cmp-antisymm weights v w ∙ ap ordering_reverse k in cc

pub same_sorted : (weights : Weights) (vs ws : List Vector) → IsSorted weights vs → IsSorted weights ws
    → ((v : Vector) → IsItem v vs → IsItem v ws) → ((w : Vector) → IsItem w ws → IsItem w vs) → vs ≡ ws
same_sorted weights [] [] h k to from = refl
same_sorted weights [] (w ∷ ws) h k to from = absurd (from w (inl refl))
same_sorted weights (v ∷ vs) [] h k to from = absurd (to v (inl refl))
same_sorted weights (v ∷ vs) (w ∷ ws) h k to from =
    let first : v ≡ w = heads (to v (inl refl)) (from w (inl refl)) in
    let rest : vs ≡ ws =
    same_sorted weights vs ws h.1 k.1
    (λ x item. behind x v w ws (AllByRecursion-item _ vs x h.0 item) first (to x (inr item)))
    (λ x item. behind x w v vs (AllByRecursion-item _ ws x k.0 item) (sym first) (from x (inr item))) in
    λ i. first i ∷ rest i
  where
    heads : IsItem v (w ∷ ws) → IsItem w (v ∷ vs) → v ≡ w
    heads (inl same) there = same
    heads (inr item) (inl same) = sym same
    heads (inr item) (inr other) =
        absurd (row_cmp-asymm weights w v (AllByRecursion-item _ ws v k.0 item) (AllByRecursion-item _ vs w h.0 other))

    -- what comes behind the first of one list isn't the first of the other
    behind : (x y z : Vector) (zs : List Vector) → row_cmp weights y x ≡ Less → y ≡ z → IsItem x (z ∷ zs) → IsItem x zs
    behind x y z zs less first (inl same) =
        let e : row_cmp weights y y ≡ Less = ap (row_cmp weights y) (first ∙ sym same) ∙ less in
        absurd (row_cmp-asymm weights y y e e)
    behind x y z zs less first (inr item) = item
