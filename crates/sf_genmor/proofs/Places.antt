-- The generators of a free module in order, as a sort finds them: two lists in one linear order with the same items are equal.
use Rattle.std.proofs.Common.{◌≡◌, Bool, true, false, cond, ℕ, suc, ◌+◌, ◌≤◌, ◌<◌, List, [], ◌∷◌, ◌++◌, length, take, Some, slice_get, refl, sym, ◌∙◌, ap, ℤ, arith}
use Rattle.std.proofs.Math.ListN.{get_or}
use Rattle.std.proofs.lemmas.Cmp.{int_cmp_total, nat_cmp_total}
use Rattle.std.proofs.lemmas.List.Sorted.{sorted_far, sum_by-IsPermutation}
use Rattle.std.proofs.lemmas.List.{length-take}
use Rattle.std.proofs.lemmas.List.Sums.{sum_by-cons}
use Rattle.std.proofs.lemmas.Option.{slice_get_within}
use Rattle.std.specs.declared.cmp.Ordering.{Ordering}
use Rattle.std.specs.declared.cmp.Ordering.TheVariants.{Less, Equal, Greater}
use Rattle.std.specs.Cmp.{IsStrictWeakOrder, IsTotalOrder, on_total, then_total}
use Rattle.std.specs.FinMap.{int_cmp-IsAntisymmetric}
use Rattle.std.specs.List.{AllByRecursion, sum_by}
use Rattle.std.specs.List.Sorted.{IsPermutation, IsSorted}
use Rattle.std.specs.Ordering.{int_cmp, is_lt, nat_cmp, ordering_reverse, ordering_then}
use Rattle.sf_algebra.proofs.Basics.Lists.{AllByRecursion-weaken, take-slice_get}
use Rattle.sf_algebra.proofs.Monomials.Comparisons.{nat_cmp-lt}
use Rattle.sf_algebra.proofs.Monomials.Orders.{match_ordering_cases, nat_cmp-Equal, ordering_then-Equal}
use Rattle.sf_genmor.specs.SortedPlaces.{insert_place, sorted_places}

-- no item is less than one before it
abbrev pub Ascends : {X : Type 0} → (X → X → Ordering) → List X → Type 0
Ascends cmp [] = Unit {0}
Ascends cmp (x ∷ xs) = AllByRecursion (λ y. is_lt (cmp y x) ≡ false) xs × Ascends cmp xs

-- what holds at each place holds of each item
all_at : {X : Type 0} (P : X → Type 0) (xs : List X) → ((j : ℕ) (d : X) → j < length xs → P (get_or xs j d)) → AllByRecursion P xs
all_at P [] at = tt
all_at P (x ∷ xs) at =
    (at 0 x (omega arith), all_at P xs (λ j d within. at (suc j) d (omega (arith, within))))

module _ {X : Type 0} (cmp : X → X → Ordering) (total : IsTotalOrder cmp) where
  reversed : (x y : X) (o : Ordering) → cmp x y ≡ o → cmp y x ≡ ordering_reverse o
  reversed x y o e = total.antisymm y x ∙ ap ordering_reverse e

  not_less : (o : Ordering) → o ≡ Less → is_lt o ≡ false → ⊥
  not_less o e h = clash (sym (ap is_lt e) ∙ h)
    where
      clash : true ≡ false → ⊥
      clash f = cc

  -- what isn't less than what isn't less isn't less
  chained : (x y z : X) → is_lt (cmp x y) ≡ false → is_lt (cmp y z) ≡ false → is_lt (cmp x z) ≡ false
  chained x y z h k = by (cmp x y) (cmp y z) refl refl h k
    where
      by : (o p : Ordering) → cmp x y ≡ o → cmp y z ≡ p → is_lt o ≡ false → is_lt p ≡ false → is_lt (cmp x z) ≡ false
      by Less p e f h k = cc
      by o Less e f h k = cc
      by Equal p e f h k = ap is_lt (total.congr x y z e ∙ f) ∙ k
      by Greater Equal e f h k =
          ap is_lt (reversed z x Less (sym (total.congr y z x f) ∙ reversed x y Greater e))
      by Greater Greater e f h k =
          ap is_lt (reversed z x Less (total.trans z y x (reversed y z Greater f) (reversed x y Greater e)))

  pub strict_order : IsStrictWeakOrder (λ x y. is_lt (cmp x y))
  strict_order = record {
    one_way = λ x y e. by x y (cmp x y) refl e;
    chain = chained;
  }
    where
      by : (x y : X) (o : Ordering) → cmp x y ≡ o → is_lt o ≡ true → is_lt (cmp y x) ≡ false
      by x y Less e h = ap is_lt (reversed x y Less e)
      by x y Equal e h = cc
      by x y Greater e h = cc

  -- 1 for what is less than x
  abbrev below : X → X → ℕ
  below x y = cond (is_lt (cmp y x)) 1 0

  none_below : (x : X) (xs : List X) → AllByRecursion (λ y. is_lt (cmp y x) ≡ false) xs → sum_by (below x) xs ≡ 0
  none_below x [] h = refl
  none_below x (y ∷ ys) h =
      let here : below x y ≡ 0 = ap (λ b. cond b 1 0) h.0 in
      let behind = none_below x ys h.1 in
      let sum = sum_by-cons (below x) y ys in
      omega (arith, here, behind, sum)

  itself : (x : X) → is_lt (cmp x x) ≡ false
  itself x = by (cmp x x) refl
    where
      by : (o : Ordering) → cmp x x ≡ o → is_lt (cmp x x) ≡ false
      by Less e = absurd (clash (sym e ∙ reversed x x Less e))
        where
          clash : Less ≡ Greater → ⊥
          clash f = cc
      by Equal e = ap is_lt e
      by Greater e = ap is_lt e

  -- the first of one list isn't below the first of the other
  first_not_below : (x y : X) (xs ys : List X) → ((f : X → ℕ) → sum_by f (x ∷ xs) ≡ sum_by f (y ∷ ys)) → Ascends cmp (x ∷ xs)
      → is_lt (cmp y x) ≡ false
  first_not_below x y xs ys same up = by (is_lt (cmp y x)) refl
    where
      none : sum_by (below x) (x ∷ xs) ≡ 0
      none = none_below x (x ∷ xs) (itself x, up.0)

      by : (b : Bool) → is_lt (cmp y x) ≡ b → is_lt (cmp y x) ≡ false
      by false e = e
      by true e =
          let here : below x y ≡ 1 = ap (λ b. cond b 1 0) e in
          let sums = same (below x) in
          let sum = sum_by-cons (below x) y ys in
          absurd (omega (arith, none, here, sums, sum))

  module _ (apart : (x y : X) → cmp x y ≡ Equal → x ≡ y) where
    neither : (x y : X) → is_lt (cmp x y) ≡ false → is_lt (cmp y x) ≡ false → x ≡ y
    neither x y h k = by (cmp x y) refl h k
      where
        by : (o : Ordering) → cmp x y ≡ o → is_lt o ≡ false → is_lt (cmp y x) ≡ false → x ≡ y
        by Less e h k = cc
        by Equal e h k = apart x y e
        by Greater e h k = absurd (not_less (cmp y x) (reversed x y Greater e) k)

    none_more : (z : X) (zs : List X) → sum_by (λ (w : X). 1) (z ∷ zs) ≡ 0 → ⊥
    none_more z zs e = let sum = sum_by-cons (λ (w : X). 1) z zs in omega (arith, e, sum)

    -- lists in order with the same sums of each number that an item may have are equal
    pub same_order : (xs ys : List X) → ((f : X → ℕ) → sum_by f xs ≡ sum_by f ys) → Ascends cmp xs → Ascends cmp ys → xs ≡ ys
    same_order [] [] same up rises = refl
    same_order [] (y ∷ ys) same up rises = absurd (none_more y ys (sym (same (λ z. 1))))
    same_order (x ∷ xs) [] same up rises = absurd (none_more x xs (same (λ z. 1)))
    same_order (x ∷ xs) (y ∷ ys) same up rises =
        let first : x ≡ y =
        neither x y (first_not_below y x ys xs (λ f. sym (same f)) rises) (first_not_below x y xs ys same up) in
        λ i. first i ∷ same_order xs ys (λ f. tails f x y xs ys first (same f)) up.1 rises.1 i
      where
        tails : (f : X → ℕ) (x y : X) (xs ys : List X) → x ≡ y → sum_by f (x ∷ xs) ≡ sum_by f (y ∷ ys) → sum_by f xs ≡ sum_by f ys
        tails f x y xs ys e same =
            let heads = ap f e in
            let first = sum_by-cons f x xs in
            let second = sum_by-cons f y ys in
            omega (arith, heads, same, first, second)

  -- a sorted list ascends
  ascends_far : (xs : List X)
      → ((i j : ℕ) (d : X) → i ≤ j → j < length xs → is_lt (cmp (get_or xs j d) (get_or xs i d)) ≡ false) → Ascends cmp xs
  ascends_far [] far = tt
  ascends_far (x ∷ xs) far = (
    all_at (λ y. is_lt (cmp y x) ≡ false) xs (λ j d within. far 0 (suc j) d (omega arith) (omega (arith, within))),
    ascends_far xs (λ i j d le within. far (suc i) (suc j) d (omega (arith, le)) (omega (arith, within))),
  )

  pub Ascends-sorted : (xs : List X) → IsSorted cmp xs → Ascends cmp xs
  Ascends-sorted xs h = ascends_far xs (sorted_far (λ x y. is_lt (cmp x y)) strict_order xs h)

-- generators by degree and position
abbrev pub place_order : ℤ × ℕ → ℤ × ℕ → Ordering
place_order p q = ordering_then (int_cmp p.0 q.0) (nat_cmp p.1 q.1)

pub place_order_total : IsTotalOrder place_order
place_order_total = then_total (on_total (λ (p : ℤ × ℕ). p.0) int_cmp_total) (on_total (λ (p : ℤ × ℕ). p.1) nat_cmp_total)

-- generators of these degrees, the first of which stands at position i
abbrev pub placed : ℕ → List ℤ → List (ℤ × ℕ)
placed i [] = []
placed i (d ∷ ds) = (d, i) ∷ placed (suc i) ds

placed-push : (i : ℕ) (ds : List ℤ) (d : ℤ) → placed i (ds ++ d ∷ []) ≡ placed i ds ++ (d, i + length ds) ∷ []
placed-push i [] d = λ j. (d, same j) ∷ []
  where
    same : i ≡ i + 0
    same = omega arith
placed-push i (e ∷ ds) d =
    let later : suc i + length ds ≡ i + length (e ∷ ds) = omega arith in
    ap (λ ps. (e, i) ∷ ps) (placed-push (suc i) ds d ∙ ap (λ n. placed (suc i) ds ++ (d, n) ∷ []) later)

-- one more generator
pub placed-take : (ds : List ℤ) (k : ℕ) (d : ℤ) → slice_get ds k ≡ Some d
    → placed 0 (take (k + 1) ds) ≡ placed 0 (take k ds) ++ (d, k) ∷ []
placed-take ds k d here =
    let within = slice_get_within ds k d here in
    let front : 0 + length (take k ds) ≡ k = let taken = length-take k ds in omega (arith, taken, within) in
    ap (placed 0) (take-slice_get ds k d here) ∙ placed-push 0 (take k ds) d
    ∙ ap (λ n. placed 0 (take k ds) ++ (d, n) ∷ []) front

-- the insertions move generators
sum_by-insert : (f : ℤ × ℕ → ℕ) (p : ℤ × ℕ) (qs : List (ℤ × ℕ)) → sum_by f (insert_place p qs) ≡ f p + sum_by f qs
sum_by-insert f p [] = sum_by-cons f p []
sum_by-insert f p (q ∷ qs) =
    match_ordering_cases (int_cmp p.0 q.0) _ _ _ (λ l. sum_by f l ≡ f p + sum_by f (q ∷ qs)) (λ less. sum_by-cons f p (q ∷ qs))
    (λ equal. sum_by-cons f p (q ∷ qs))
    (λ greater.
    let behind = sum_by-insert f p qs in
    let whole = sum_by-cons f q (insert_place p qs) in
    let tail = sum_by-cons f q qs in
    omega (arith, behind, whole, tail))

pub sum_by-sorted_places : (f : ℤ × ℕ → ℕ) (i : ℕ) (ds : List ℤ) → sum_by f (sorted_places i ds) ≡ sum_by f (placed i ds)
sum_by-sorted_places f i [] = refl
sum_by-sorted_places f i (d ∷ ds) =
    let first = sum_by-insert f (d, i) (sorted_places (suc i) ds) in
    let behind = sum_by-sorted_places f (suc i) ds in
    let whole = sum_by-cons f (d, i) (placed (suc i) ds) in
    omega (arith, first, behind, whole)

-- and put them in order
pub AllByRecursion-insert : (P : ℤ × ℕ → Type 0) (p : ℤ × ℕ) (qs : List (ℤ × ℕ)) → P p → AllByRecursion P qs
    → AllByRecursion P (insert_place p qs)
AllByRecursion-insert P p [] h k = (h, tt)
AllByRecursion-insert P p (q ∷ qs) h k =
    match_ordering_cases (int_cmp p.0 q.0) _ _ _ (AllByRecursion P) (λ less. (h, k)) (λ equal. (h, k))
    (λ greater. (k.0, AllByRecursion-insert P p qs h k.1))

places-behind : (i : ℕ) (ds : List ℤ) → AllByRecursion (λ (q : ℤ × ℕ). i ≤ q.1) (sorted_places i ds)
places-behind i [] = tt
places-behind i (d ∷ ds) =
    AllByRecursion-insert (λ (q : ℤ × ℕ). i ≤ q.1) (d, i) (sorted_places (suc i) ds) (omega arith)
    (AllByRecursion-weaken (λ (q : ℤ × ℕ). suc i ≤ q.1) (λ (q : ℤ × ℕ). i ≤ q.1) (λ q h. omega (arith, h))
    (sorted_places (suc i) ds) (places-behind (suc i) ds))

-- a generator isn't less than one of a smaller degree, nor than one of its degree at an earlier position
not_less-degree : (p q : ℤ × ℕ) → int_cmp p.0 q.0 ≡ Less → is_lt (place_order q p) ≡ false
not_less-degree p q e =
    ap (λ o. is_lt (ordering_then o (nat_cmp q.1 p.1))) (reversed int_cmp int_cmp_total p.0 q.0 Less e)

not_less-position : (p q : ℤ × ℕ) → int_cmp p.0 q.0 ≡ Equal → p.1 < q.1 → is_lt (place_order q p) ≡ false
not_less-position p q e later =
    ap (λ o. is_lt (ordering_then o (nat_cmp q.1 p.1))) (reversed int_cmp int_cmp_total p.0 q.0 Equal e)
    ∙ ap is_lt (reversed nat_cmp nat_cmp_total p.1 q.1 Less (nat_cmp-lt p.1 q.1 later))

not_less-greater : (p q : ℤ × ℕ) → int_cmp p.0 q.0 ≡ Greater → is_lt (place_order p q) ≡ false
not_less-greater p q e = ap (λ o. is_lt (ordering_then o (nat_cmp p.1 q.1))) e

Ascends-insert : (p : ℤ × ℕ) (qs : List (ℤ × ℕ)) → AllByRecursion (λ (q : ℤ × ℕ). p.1 < q.1) qs → Ascends place_order qs
    → Ascends place_order (insert_place p qs)
Ascends-insert p [] h k = (tt, tt)
Ascends-insert p (q ∷ qs) h k =
    let first : is_lt (place_order q p) ≡ false → Ascends place_order (p ∷ q ∷ qs) = λ e.
    ((e, AllByRecursion-weaken _ _ (λ z f. chained place_order place_order_total z q p f e) qs k.0), k) in
    match_ordering_cases (int_cmp p.0 q.0) _ _ _ (Ascends place_order) (λ less. first (not_less-degree p q less))
    (λ equal. first (not_less-position p q equal h.0))
    (λ greater. (
      AllByRecursion-insert (λ z. is_lt (place_order z q) ≡ false) p qs (not_less-greater p q greater) k.0,
      Ascends-insert p qs h.1 k.1,
    ))

pub Ascends-sorted_places : (i : ℕ) (ds : List ℤ) → Ascends place_order (sorted_places i ds)
Ascends-sorted_places i [] = tt
Ascends-sorted_places i (d ∷ ds) =
    Ascends-insert (d, i) (sorted_places (suc i) ds)
    (AllByRecursion-weaken (λ (q : ℤ × ℕ). suc i ≤ q.1) (λ (q : ℤ × ℕ). i < q.1) (λ q h. omega (arith, h))
    (sorted_places (suc i) ds) (places-behind (suc i) ds))
    (Ascends-sorted_places (suc i) ds)

place_order-apart : (p q : ℤ × ℕ) → place_order p q ≡ Equal → p ≡ q
place_order-apart p q e =
    let both = ordering_then-Equal (int_cmp p.0 q.0) (nat_cmp p.1 q.1) e in
    let degrees : p.0 ≡ q.0 = int_cmp-IsAntisymmetric p.0 q.0 both.0 in
    let positions : p.1 ≡ q.1 = nat_cmp-Equal p.1 q.1 both.1 in
    λ i. (degrees i, positions i)

-- so a sort finds them
pub sorted_is : (ds : List ℤ) (xs ys : List (ℤ × ℕ)) → xs ≡ placed 0 ds → IsPermutation xs ys → IsSorted place_order ys
    → ys ≡ sorted_places 0 ds
sorted_is ds xs ys start moved up =
    same_order place_order place_order_total place_order-apart ys (sorted_places 0 ds)
    (λ f. sum_by-IsPermutation f xs ys moved ∙ ap (sum_by f) start ∙ sym (sum_by-sorted_places f 0 ds))
    (Ascends-sorted place_order place_order_total ys up) (Ascends-sorted_places 0 ds)
