-- A row behind the last of sorted rows.
use Rattle.std.proofs.Common.{◌≡◌, ℕ, zero, suc, ◌-◌, ◌==◌, Bool, IsTrue, List, [], ◌∷◌, ◌++◌, length, Some, slice_get, refl, sym, ◌∙◌, ap, arith}
use Rattle.std.specs.List.{AllByRecursion}
use Rattle.std.specs.declared.cmp.Ordering.{Ordering}
use Rattle.std.specs.declared.cmp.Ordering.TheVariants.{Less, Equal, Greater}
use Rattle.std.specs.Ordering.{ordering_index}
use Rattle.sf_algebra.specs.Rings.{Weights}
use Rattle.sf_algebra.specs.Vectors.{Vector}
use Rattle.sf_algebra.proofs.Basics.Lists.{AllByRecursion-append, AllByRecursion-get}
use Rattle.sf_groebner.specs.ReducedBases.{IsSorted, row_cmp}
use Rattle.sf_groebner.proofs.Constructions.SortedRows.{row_cmp-trans}

-- where the last row comes before another one, all do
sorted_all : (weights : Weights) (rows : List Vector) (u v : Vector) (i : ℕ) → slice_get rows i ≡ Some u → length rows ≡ suc i
    → row_cmp weights u v ≡ Less → IsSorted weights rows → AllByRecursion (λ w. row_cmp weights w v ≡ Less) rows
sorted_all weights [] u v i last size less sorted = tt
sorted_all weights (w ∷ []) u v zero last size less sorted =
    let same : w ≡ u = cc in (ap (λ x. row_cmp weights x v) same ∙ less, tt)
sorted_all weights (w ∷ x ∷ xs) u v zero last size less sorted = absurd (omega arith)
sorted_all weights (w ∷ ws) u v (suc i) last size less sorted = (
  row_cmp-trans weights w u v (AllByRecursion-get (λ x. row_cmp weights w x ≡ Less) ws i u sorted.0 last) less,
  sorted_all weights ws u v i last (omega arith) less sorted.1,
)

-- so this one may stand behind them
pub IsSorted-last : (weights : Weights) (rows : List Vector) (v : Vector)
    → AllByRecursion (λ w. row_cmp weights w v ≡ Less) rows → IsSorted weights rows → IsSorted weights (rows ++ v ∷ [])
IsSorted-last weights [] v each sorted = (tt, tt)
IsSorted-last weights (w ∷ ws) v each sorted =
    (AllByRecursion-append _ ws (v ∷ []) sorted.0 (each.0, tt), IsSorted-last weights ws v each.1 sorted.1)

-- what a test for the order decides
is_less : (o : Ordering) → IsTrue (ordering_index o == 0) → o ≡ Less
is_less Less h = refl
is_less Equal h = cc
is_less Greater h = cc

-- so it is where the last row comes before it
pub IsSorted-behind : (weights : Weights) (rows : List Vector) (u v : Vector) (n : ℕ) → n ≡ length rows → (n ≡ 0 → ⊥)
    → slice_get rows (n - 1) ≡ Some u → (o : Ordering) → o ≡ row_cmp weights u v
    → (b : Bool) → b ≡ (ordering_index o == 0) → IsTrue b → IsSorted weights rows → IsSorted weights (rows ++ v ∷ [])
IsSorted-behind weights rows u v n size some last o order b decides answer sorted =
    let less : row_cmp weights u v ≡ Less = sym order ∙ is_less o (sym decides ∙ answer) in
    IsSorted-last weights rows v (sorted_all weights rows u v (n - 1) last (omega arith) less sorted) sorted
