-- What a queue that is kept by degrees answers, and how it changes.
use Rattle.std.proofs.Common.{◌≡◌, false, true, ℕ, zero, suc, ◌<◌, ◌≤◌, List, [], ◌∷◌, ◌++◌, length, slice_index_or, take, drop, int_le, append-nil, refl, sym, ◌∙◌, ap, subst, arith, ℤ, ◌≤ℤ◌, ◌<ℤ◌}
use Rattle.std.proofs.lemmas.Int.{ints}
use Rattle.std.proofs.lemmas.List.{take-append-drop}
use Rattle.std.specs.List.{AllByRecursion, remove}
use Rattle.std.specs.List.Sorted.{IsPartitionedBy, IsPartitionPoint}
use Rattle.sf_algebra.proofs.Basics.Lists.{AllByRecursion-back, AllByRecursion-front, AllByRecursion-weaken}
use Rattle.sf_pairs.specs.Queue.{HasLeast, IsTaken, count_least}
use Rattle.sf_pairs.specs.Pushes.{NumberedPair, ComesBefore, AreByDegree, IsKept, in_order}
use Rattle.sf_pairs.proofs.LeastDegrees.{Decides-int_le, count_least-HasLeast}
use Rattle.sf_pairs.proofs.DegreeOrders.{AreByDegree-apart, AreByDegree-insert, AreByDegree-remove, HasLeast-first, IsInFront-counted, IsTaken-front, count_least-front, each_between, each_remove, item_between, remove_between, within_between}
use Rattle.sf_pairs.proofs.PushOrders.{in_order-last, in_order-between}

each_index : (P : NumberedPair → Type 0) (es : List NumberedPair) (k : ℕ) (x : NumberedPair) → AllByRecursion P es
    → k < length es → P (slice_index_or es k x)
each_index P [] k x h within = absurd (omega (arith, within))
each_index P (e ∷ es) zero x h within = h.0
each_index P (e ∷ es) (suc k) x h within = each_index P es k x h.1 (omega (arith, within))

rising : (es : List NumberedPair) (i j : ℕ) (x : NumberedPair) → AreByDegree es → i ≤ j → j < length es
    → (slice_index_or es i x).pair.degree ≤ℤ (slice_index_or es j x).pair.degree
rising [] i j x h order within = absurd (omega (arith, within))
rising (e ∷ es) zero zero x h order within = omega (arith, ints)
rising (e ∷ es) zero (suc j) x h order within = (each_index (ComesBefore e) es j x h.0 (omega (arith, within))).degrees
rising (e ∷ es) (suc i) zero x h order within = absurd (omega (arith, order))
rising (e ∷ es) (suc i) (suc j) x h order within = rising es i j x h.1 (omega (arith, order)) (omega (arith, within))

-- those of at most a degree stand in front
pub IsPartitionedBy-degree : (d : ℤ) (es : List NumberedPair) → AreByDegree es
    → IsPartitionedBy (λ (e : NumberedPair). int_le e.pair.degree d) es
IsPartitionedBy-degree d es h i j x order within low =
    let up = rising es i j x h order within in
    let below = (Decides-int_le (slice_index_or es j x).pair.degree d).0 low in
    (Decides-int_le (slice_index_or es i x).pair.degree d).1 (omega (arith, ints, up, below))

each_take : (P : NumberedPair → Type 0) (i : ℕ) (es : List NumberedPair)
    → ((k : ℕ) (x : NumberedPair) → k < i → P (slice_index_or es k x)) → AllByRecursion P (take i es)
each_take P zero es h = tt
each_take P (suc i) [] h = tt
each_take P (suc i) (e ∷ es) h = (h 0 e (omega arith), each_take P i es (λ k x within. h (suc k) x (omega (arith, within))))

each_drop : (P : NumberedPair → Type 0) (i : ℕ) (es : List NumberedPair)
    → ((k : ℕ) (x : NumberedPair) → i ≤ k → k < length es → P (slice_index_or es k x)) → AllByRecursion P (drop i es)
each_drop P zero [] h = tt
each_drop P (suc i) [] h = tt
each_drop P zero (e ∷ es) h = (h 0 e (omega arith) (omega arith), each_drop P zero es (λ k x past within. h (suc k) x (omega arith) (omega (arith, within))))
each_drop P (suc i) (e ∷ es) h = each_drop P i es (λ k x past within. h (suc k) x (omega (arith, past)) (omega (arith, within)))

-- the pairs behind the place of a degree, and those in front
abbrev pub IsPlaceBehind : ℤ → List NumberedPair → ℕ → Type 0
IsPlaceBehind d es i =
    IsPartitionPoint (λ (e : NumberedPair). int_le e.pair.degree d ≡ true) (λ (e : NumberedPair). int_le e.pair.degree d ≡ false) es i

front_low : (d : ℤ) (es : List NumberedPair) (i : ℕ) → IsPlaceBehind d es i
    → AllByRecursion (λ (e : NumberedPair). e.pair.degree ≤ℤ d) (take i es)
front_low d es i h =
    each_take (λ (e : NumberedPair). e.pair.degree ≤ℤ d) i es
    (λ k x within. (Decides-int_le (slice_index_or es k x).pair.degree d).0 (h.0 k x (omega arith) within))

above : (a b : ℤ) → int_le a b ≡ false → b <ℤ a
above a b e = grind (arith, ints)

behind_high : (d : ℤ) (es : List NumberedPair) (i : ℕ) → IsPlaceBehind d es i
    → AllByRecursion (λ (e : NumberedPair). d <ℤ e.pair.degree) (drop i es)
behind_high d es i h =
    each_drop (λ (e : NumberedPair). d <ℤ e.pair.degree) i es
    (λ k x past within. above (slice_index_or es k x).pair.degree d (h.1 k x past within))

both : (P Q R : NumberedPair → Type 0) → ((e : NumberedPair) → P e → Q e → R e) → (es : List NumberedPair)
    → AllByRecursion P es → AllByRecursion Q es → AllByRecursion R es
both P Q R f [] h k = tt
both P Q R f (e ∷ es) h k = (f e h.0 k.0, both P Q R f es h.1 k.1)

-- a pair is pushed
module _ (n : ℕ) (es : List NumberedPair) (h : IsKept n es) (e : NumberedPair) (number : e.number ≡ n) (i : ℕ)
    (place : IsPlaceBehind e.pair.degree es i) where
  parts : take i es ++ drop i es ≡ es
  parts = take-append-drop i es

  pub IsKept-push : IsKept (suc n) (take i es ++ e ∷ drop i es)
  IsKept-push =
      let whole : IsKept n (take i es ++ drop i es) = subst (IsKept n) (sym parts) h in
      let Early : NumberedPair → Type 0 = λ f. f.number < n in
      record {
        sorted =
            AreByDegree-insert (take i es) (drop i es) e whole.sorted
            (both (λ f. f.pair.degree ≤ℤ e.pair.degree) Early (λ f. ComesBefore f e) (λ f low early. record {
              degrees = low;
              pushes = λ same. omega (arith, number, early);
              apart = λ same. omega (arith, number, early, same);
            }) (take i es) (front_low e.pair.degree es i place) (AllByRecursion-front Early (take i es) (drop i es) whole.numbers))
            (both (λ f. e.pair.degree <ℤ f.pair.degree) Early (ComesBefore e) (λ f high early. record {
              degrees = omega (arith, ints, high);
              pushes = λ same. absurd (omega (arith, ints, high, same));
              apart = λ same. omega (arith, number, early, same);
            }) (drop i es) (behind_high e.pair.degree es i place) (AllByRecursion-back Early (take i es) (drop i es) whole.numbers));
        numbers = each_between (λ f. f.number < suc n) (take i es) (drop i es) e
            (AllByRecursion-weaken Early (λ f. f.number < suc n) (λ f early. omega (arith, early)) (take i es ++ drop i es) whole.numbers)
            (omega (arith, number));
      }

  pub in_order-push : in_order (suc n) (take i es ++ e ∷ drop i es) ≡ in_order n es ++ e.pair ∷ []
  in_order-push =
      let whole : IsKept n (take i es ++ drop i es) = subst (IsKept n) (sym parts) h in
      in_order-last e n (take i es) (drop i es) number
      (AllByRecursion-weaken (λ f. f.number < n) (λ f. f.number ≡ n → ⊥) (λ f early same. omega (arith, early, same)) (take i es ++ drop i es) whole.numbers)
      ∙ ap (λ fs. in_order n fs ++ e.pair ∷ []) parts

-- no pair waits where none is kept
pub in_order-none : (n : ℕ) (es : List NumberedPair) → (0 < length es → ⊥) → in_order n es ≡ []
in_order-none zero es none = refl
in_order-none (suc n) [] none = append-nil (in_order n []) ∙ in_order-none n [] none
in_order-none (suc n) (e ∷ es) none = absurd (none (omega arith))

no_front : {X : Type 0} (xs ys : List X) (x : X) → xs ++ x ∷ ys ≡ [] → ⊥
no_front [] ys x e = cc
no_front (z ∷ xs) ys x e = cc

-- the first that is kept has the least degree
pub least-front : (n : ℕ) (es : List NumberedPair) (e : NumberedPair) → IsKept n es → 0 < length es
    → e ≡ slice_index_or es 0 e
    → HasLeast e.pair.degree (in_order n es) × AllByRecursion (λ (f : NumberedPair). e.pair.degree ≤ℤ f.pair.degree) es
    × (in_order n es ≡ [] → ⊥)
least-front n [] e h some read = absurd (omega (arith, some))
least-front n (f ∷ es) e h some read =
    let same : f ≡ e = sym read in
    subst (λ (g : NumberedPair). HasLeast g.pair.degree (in_order n (f ∷ es)) × AllByRecursion (λ (x : NumberedPair). g.pair.degree ≤ℤ x.pair.degree) (f ∷ es) × (in_order n (f ∷ es) ≡ [] → ⊥)) same (
      HasLeast-first n f es h,
      (omega (arith, ints), AllByRecursion-weaken (ComesBefore f) (λ x. f.pair.degree ≤ℤ x.pair.degree) (λ x k. k.degrees) es h.sorted.0),
      let between = in_order-between f n [] es h.numbers.0 (AreByDegree-apart [] es f h.sorted) in
          λ empty. no_front (in_order f.number es) between.0 f.pair (sym between.1 ∙ empty),
    )

length_take : (i : ℕ) (es : List NumberedPair) → i ≤ length es → length (take i es) ≡ i
length_take zero es within = refl
length_take (suc i) [] within = absurd (omega (arith, within))
length_take (suc i) (e ∷ es) within = ap suc (length_take i es (omega (arith, within)))

-- the place behind the least degree counts those that have it
pub count_least-place : (n : ℕ) (es : List NumberedPair) (d : ℤ) (i : ℕ) → IsKept n es → HasLeast d (in_order n es)
    → AllByRecursion (λ (f : NumberedPair). d ≤ℤ f.pair.degree) es → i ≤ length es → IsPlaceBehind d es i
    → i ≡ count_least (in_order n es)
count_least-place n es d i h least up within place =
    let parts = take-append-drop i es in
    let up_front = AllByRecursion-front (λ f. d ≤ℤ f.pair.degree) (take i es) (drop i es) (subst (AllByRecursion (λ (f : NumberedPair). d ≤ℤ f.pair.degree)) (sym parts) up) in
    let same =
    both (λ f. d ≤ℤ f.pair.degree) (λ f. f.pair.degree ≤ℤ d) (λ f. f.pair.degree ≡ d) (λ f a b. omega (arith, ints, a, b)) (take i es) up_front (front_low d es i place) in
    sym (length_take i es within)
    ∙ sym (count_least-front d n (take i es) (drop i es) (subst (IsKept n) (sym parts) h) (subst (λ fs. HasLeast d (in_order n fs)) (sym parts) least) same (behind_high d es i place))
    ∙ ap (λ fs. count_least (in_order n fs)) parts

-- a pair is taken
pub record IsTakenAt (n : ℕ) (at : ℕ) (es : List NumberedPair) : Type 0 where
  pub within : at < length es
  pub kept : IsKept n (remove es at)
  pub taken : (e : NumberedPair) → e ≡ slice_index_or es at e
      → IsTaken at (in_order n es) e.pair.first e.pair.second (in_order n (remove es at))

pub IsTakenAt-least : (n at : ℕ) (es : List NumberedPair) → IsKept n es → at < count_least (in_order n es)
    → IsTakenAt n at es
IsTakenAt-least n at [] h few =
    let none : count_least (in_order n []) ≡ 0 = ap count_least (in_order-none n [] (λ some. omega (arith, some))) in
    absurd (omega (arith, none, few))
IsTakenAt-least n at (f ∷ es) h few =
    let all : List NumberedPair = f ∷ es in
    let d = f.pair.degree in
    let first = least-front n all f h (omega arith) refl in
    let count = count_least-HasLeast d (in_order n all) first.0 in
    let front = IsInFront-counted d n at all h first.1 (omega (arith, count, few)) in
    let xs = front.before in
    let e = front.taken in
    let ys = front.after in
    let left : remove all at ≡ xs ++ ys = (λ i. remove (front.whole i) (sym front.place i)) ∙ remove_between xs e ys in
    let whole : IsKept n (xs ++ e ∷ ys) = subst (IsKept n) front.whole h in
    let fewer : IsKept n (xs ++ ys) = record {
      sorted = AreByDegree-remove xs ys e whole.sorted;
      numbers = each_remove (λ x. x.number < n) xs ys e whole.numbers;
    } in
    let inside : length xs < length (xs ++ e ∷ ys) = within_between xs e ys in
    record {
      within = subst (λ k. k < length all) front.place (subst (λ fs. length xs < length fs) (sym front.whole) inside);
      kept = subst (IsKept n) (sym left) fewer;
      taken = λ x read.
          let same : x ≡ e = read ∙ (λ i. slice_index_or (front.whole i) (sym front.place i) x) ∙ item_between xs e ys x in
          let result = IsTaken-front d n at all h first.0 front in
          subst (λ (y : NumberedPair). IsTaken at (in_order n all) y.pair.first y.pair.second (in_order n (remove all at)))
          (sym same) (subst (λ fs. IsTaken at (in_order n all) e.pair.first e.pair.second (in_order n fs)) (sym left) result);
    }
