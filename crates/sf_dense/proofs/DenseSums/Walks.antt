-- What the walk along falling places knows: on which side of a place that it has compared another one stands, and that the
-- places of descending terms' multiples come one behind the other.
use Rattle.std.proofs.Common.{◌≡◌, ℕ, zero, suc, ◌+◌, ◌<◌, List, [], ◌∷◌, length, drop, get_or, sym, ◌∙◌, ap, subst, arith, add-one}
use Rattle.std.specs.declared.cmp.Ordering.TheVariants.{Equal, Greater, Less}
use Rattle.std.specs.List.{AllByRecursion}
use Rattle.std.specs.Ordering.{ordering_reverse}
use Rattle.sf_algebra.specs.Monomials.{Monomial}
use Rattle.sf_algebra.specs.Multiples.{place_product}
use Rattle.sf_algebra.specs.Rings.{ones}
use Rattle.sf_algebra.specs.Terms.{Term, IsDescending}
use Rattle.sf_algebra.specs.Vectors.{Place, place_cmp}
use Rattle.sf_algebra.proofs.Basics.Lists.{AllByRecursion-weaken}
use Rattle.sf_algebra.proofs.Monomials.Orders.{place_cmp_linear}
use Rattle.sf_algebra.proofs.Monomials.Places.{place_cmp-place_product}
use Rattle.sf_variables.specs.Columns.{AreFalling}
use Rattle.sf_dense.specs.Entries.{column_at}
use Rattle.sf_dense.specs.Walks.{IsFrom}
use Rattle.sf_dense.proofs.DenseSums.PlacedEntries.{column_at-after, column_at-one}

-- the item that a program reads at a number
pub column_at-item : (ks : List Place) (i : ℕ) (k : Place) → i < length ks → k ≡ get_or ks i k → k ≡ column_at ks i
column_at-item [] i k within item = absurd (omega arith)
column_at-item (l ∷ ks) zero k within item = item
column_at-item (l ∷ ks) (suc i) k within item = column_at-item ks i k (omega arith) item

module _ (ks : List Place) (falling : AreFalling ones ks) (i j : ℕ) (within_i : i < length ks) (within_j : j < length ks)
    (k l : Place) (item : k ≡ get_or ks i k) (stands : column_at ks j ≡ l) where
  at : column_at ks i ≡ k
  at = sym (column_at-item ks i k within_i item)

  -- the place that is looked for is the one that was read, or before it, or behind it
  pub column_at-equal : Equal ≡ place_cmp ones k l → i ≡ j
  column_at-equal equal =
      column_at-one ks falling i j within_i within_j (at ∙ (place_cmp_linear ones).apart k l (sym equal) ∙ sym stands)

  pub column_at-less : Less ≡ place_cmp ones k l → j < i
  column_at-less less =
      column_at-after ks falling j i within_j ((λ n. place_cmp ones (at n) (stands n)) ∙ sym less)

  pub column_at-greater : Greater ≡ place_cmp ones k l → i < j
  column_at-greater greater =
      column_at-after ks falling i j within_i
      ((λ n. place_cmp ones (stands n) (at n)) ∙ (place_cmp_linear ones).total.antisymm l k
      ∙ ap ordering_reverse (sym greater))

-- the places of the terms behind t aren't passed with that of t
pub ahead-next : (ks : List Place) (a : Monomial) (ts : List (Term Place)) (n : ℕ) (t : Term Place) (cell : ℕ)
    → AreFalling ones ks → IsDescending (place_cmp ones) ts → n < length ts → t ≡ get_or ts n t → cell < length ks
    → column_at ks cell ≡ place_product a t.at → AllByRecursion (IsFrom ks a (cell + 1)) (drop (n + 1) ts)
ahead-next ks a ts n t cell falling descending within item inside place = rw (add-one n) (from ts n descending within item)
  where
    passed : (u : Term Place) → place_cmp ones u.at t.at ≡ Less → IsFrom ks a (cell + 1) u
    passed u less i within_i stands =
        let after : cell < i = column_at-after ks falling cell i inside ((λ j. place_cmp ones (stands j) (place j))
        ∙ place_cmp-place_product ones a u.at t.at ∙ less) in
        omega arith

    from : (us : List (Term Place)) (m : ℕ) → IsDescending (place_cmp ones) us → m < length us → t ≡ get_or us m t
        → AllByRecursion (IsFrom ks a (cell + 1)) (drop (suc m) us)
    from [] m descending within item = absurd (omega arith)
    from (u ∷ us) zero descending within item =
        AllByRecursion-weaken _ _ (λ v less. passed v (subst (λ w. place_cmp ones v.at w.at
        ≡ Less) (sym item) less)) us descending.0
    from (u ∷ us) (suc m) descending within item = from us m descending.1 (omega arith) item
