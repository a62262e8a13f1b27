-- Rows are inserted one by one, the last first.
use Rattle.std.proofs.Common.{◌≡◌, ◌≢◌, ℕ, zero, suc, ◌+◌, ◌<◌, ◌≤◌, List, [], ◌∷◌, ◌++◌, length, slice_index_or, take, drop, refl, ◌∙◌, ap, sym, add-one, arith}
use Rattle.std.proofs.lemmas.List.{drop_all}
use Rattle.std.specs.declared.cmp.Ordering.TheVariants.{Greater}
use Rattle.std.specs.Ordering.{match_ordering}
use Rattle.sf_algebra.specs.Rings.{Weights}
use Rattle.sf_algebra.specs.Vectors.{Vector}
use Rattle.sf_algebra.proofs.Monomials.Orders.{match_ordering_cases}
use Rattle.sf_groebner.specs.ReducedBases.{row_cmp}
use Rattle.sf_groebner.proofs.Constructions.SortedRows.{insert_row, sort_rows}

-- rows inserted one by one, the last first, among others
abbrev pub sort_onto : Weights → List Vector → List Vector → List Vector
sort_onto weights [] sorted = sorted
sort_onto weights (v ∷ vs) sorted = insert_row weights v (sort_onto weights vs sorted)

pub sort_onto-push : (weights : Weights) (vs : List Vector) (v : Vector) (sorted : List Vector)
    → sort_onto weights (vs ++ v ∷ []) sorted ≡ sort_onto weights vs (insert_row weights v sorted)
sort_onto-push weights [] v sorted = refl
sort_onto-push weights (w ∷ ws) v sorted = ap (insert_row weights w) (sort_onto-push weights ws v sorted)

pub sort_onto-nil : (weights : Weights) (vs : List Vector) → sort_onto weights vs [] ≡ sort_rows weights vs
unfolding sort_rows
sort_onto-nil weights [] = refl
sort_onto-nil weights (v ∷ vs) = ap (insert_row weights v) (sort_onto-nil weights vs)

insert_row-greater : (weights : Weights) (v w : Vector) (ws : List Vector) → row_cmp weights v w ≡ Greater
    → insert_row weights v (w ∷ ws) ≡ w ∷ insert_row weights v ws
unfolding insert_row
insert_row-greater weights v w ws e =
    ap (λ o. match_ordering o (v ∷ w ∷ ws) (v ∷ w ∷ ws) (w ∷ insert_row weights v ws)) e

insert_row-first : (weights : Weights) (v w : Vector) (ws : List Vector) → row_cmp weights v w ≢ Greater
    → insert_row weights v (w ∷ ws) ≡ v ∷ w ∷ ws
unfolding insert_row
insert_row-first weights v w ws e =
    match_ordering_cases (row_cmp weights v w) _ _ _ (λ (l : List Vector). l ≡ v ∷ w ∷ ws)
    (λ less. refl) (λ equal. refl) (λ greater. absurd (e greater))

insert_row-nil : (weights : Weights) (v : Vector) → insert_row weights v [] ≡ v ∷ []
unfolding insert_row
insert_row-nil weights v = refl

-- a row goes in front of the first that isn't before it
pub insert_at : (weights : Weights) (v w : Vector) (ws : List Vector) (i : ℕ) → i < length ws
    → w ≡ slice_index_or ws i w → row_cmp weights v w ≢ Greater
    → take i ws ++ insert_row weights v (drop i ws) ≡ take i ws ++ v ∷ drop i ws
insert_at weights v w [] i within e far = absurd (omega arith)
insert_at weights v w (x ∷ xs) zero within e far =
    insert_row-first weights v x xs (λ greater. far (ap (row_cmp weights v) e ∙ greater))
insert_at weights v w (x ∷ xs) (suc i) within e far = ap (λ l. x ∷ l) (insert_at weights v w xs i (omega arith) e far)

insert_past : (weights : Weights) (v w : Vector) (ws : List Vector) (i : ℕ) → i < length ws
    → w ≡ slice_index_or ws i w → row_cmp weights v w ≡ Greater
    → take (suc i) ws ++ insert_row weights v (drop (suc i) ws) ≡ take i ws ++ insert_row weights v (drop i ws)
insert_past weights v w [] i within e far = absurd (omega arith)
insert_past weights v w (x ∷ xs) zero within e far =
    sym (insert_row-greater weights v x xs (ap (row_cmp weights v) (sym e) ∙ far))
insert_past weights v w (x ∷ xs) (suc i) within e far =
    ap (λ l. x ∷ l) (insert_past weights v w xs i (omega arith) e far)

-- and past one that is
pub insert_later : (weights : Weights) (v w : Vector) (ws : List Vector) (i : ℕ) → i < length ws
    → w ≡ slice_index_or ws i w → row_cmp weights v w ≡ Greater
    → take (i + 1) ws ++ insert_row weights v (drop (i + 1) ws) ≡ take i ws ++ insert_row weights v (drop i ws)
insert_later weights v w ws i within e far = rw add-one (insert_past weights v w ws i within e far)

-- past all others it goes to the end
pub insert_end : (weights : Weights) (v : Vector) (ws : List Vector) (i : ℕ) → length ws ≤ i
    → take i ws ++ insert_row weights v (drop i ws) ≡ take i ws ++ v ∷ drop i ws
insert_end weights v ws i past =
    let over = drop_all i ws past in rw over (ap (λ l. take i ws ++ l) (insert_row-nil weights v))
