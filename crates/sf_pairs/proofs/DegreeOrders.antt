-- Pairs by their degrees: one more, one less, and how many have the least degree.
use Rattle.std.proofs.Common.{◌≡◌, inl, inr, Bool, true, false, cond, ℕ, zero, suc, ◌+◌, ◌<◌, ◌≤◌, List, [], ◌∷◌, ◌++◌, length, slice_index_or, refl, sym, ◌∙◌, ap, subst, arith, append-nil, ◌==◌, ℤ, ◌≤ℤ◌, ◌<ℤ◌}
use Rattle.std.proofs.lemmas.Bool.{cases_Bool, cases_lt}
use Rattle.std.proofs.lemmas.Bool.Decides.{Decides-int_eq}
use Rattle.std.proofs.lemmas.Int.{ints}
use Rattle.std.proofs.lemmas.List.Elements.{All-from_recursion}
use Rattle.std.proofs.lemmas.List.Sums.{sum_by-append}
use Rattle.std.specs.List.{Any, AllByRecursion, count_by, remove}
use Rattle.sf_algebra.proofs.Basics.Lists.{AllByRecursion-append, AllByRecursion-weaken}
use Rattle.sf_pairs.specs.Queue.{QueuedPair, HasLeast, IsTaken, count_least, is_of_degree}
use Rattle.sf_pairs.specs.Pushes.{NumberedPair, ComesBefore, AreByDegree, IsKept, pushed_at, in_order}
use Rattle.sf_pairs.proofs.Choices.{count_by-cons, one_if}
use Rattle.sf_pairs.proofs.LeastDegrees.{Decides-is_least, count_least-HasLeast, count_least_in-HasLeast, highest}
use Rattle.sf_pairs.proofs.PushOrders.{HasOther, in_order-between, in_order-earlier}

pub each_between : (P : NumberedPair → Type 0) (xs ys : List NumberedPair) (e : NumberedPair)
    → AllByRecursion P (xs ++ ys) → P e → AllByRecursion P (xs ++ e ∷ ys)
each_between P [] ys e h k = (k, h)
each_between P (x ∷ xs) ys e h k = (h.0, each_between P xs ys e h.1 k)

-- one more
pub AreByDegree-insert : (xs ys : List NumberedPair) (e : NumberedPair) → AreByDegree (xs ++ ys)
    → AllByRecursion (λ (f : NumberedPair). ComesBefore f e) xs → AllByRecursion (ComesBefore e) ys
    → AreByDegree (xs ++ e ∷ ys)
AreByDegree-insert [] ys e h before after = (after, h)
AreByDegree-insert (x ∷ xs) ys e h before after =
    (each_between (ComesBefore x) xs ys e h.0 before.0, AreByDegree-insert xs ys e h.1 before.1 after)

-- one less
pub each_remove : (P : NumberedPair → Type 0) (xs ys : List NumberedPair) (e : NumberedPair)
    → AllByRecursion P (xs ++ e ∷ ys) → AllByRecursion P (xs ++ ys)
each_remove P [] ys e h = h.1
each_remove P (x ∷ xs) ys e h = (h.0, each_remove P xs ys e h.1)

pub AreByDegree-remove : (xs ys : List NumberedPair) (e : NumberedPair) → AreByDegree (xs ++ e ∷ ys)
    → AreByDegree (xs ++ ys)
AreByDegree-remove [] ys e h = h.1
AreByDegree-remove (x ∷ xs) ys e h = (each_remove (ComesBefore x) xs ys e h.0, AreByDegree-remove xs ys e h.1)

each_at : (P : NumberedPair → Type 0) (xs ys : List NumberedPair) (e : NumberedPair)
    → AllByRecursion P (xs ++ e ∷ ys) → P e
each_at P [] ys e h = h.0
each_at P (x ∷ xs) ys e h = each_at P xs ys e h.1

-- no other has its number
pub AreByDegree-apart : (xs ys : List NumberedPair) (e : NumberedPair) → AreByDegree (xs ++ e ∷ ys)
    → HasOther e.number (xs ++ ys)
AreByDegree-apart [] ys e h = AllByRecursion-weaken (ComesBefore e) (λ f. f.number ≡ e.number → ⊥) (λ f k same. k.apart (sym same)) ys h.0
AreByDegree-apart (x ∷ xs) ys e h = ((each_at (ComesBefore x) xs ys e h.0).apart, AreByDegree-apart xs ys e h.1)

-- a fact of each pair
each_pushed_at : (P : QueuedPair → Type 0) (n : ℕ) (es : List NumberedPair)
    → AllByRecursion (λ (e : NumberedPair). P e.pair) es → AllByRecursion P (pushed_at n es)
each_pushed_at P n [] h = tt
each_pushed_at P n (e ∷ es) h = either (e.number == n) (each_pushed_at P n es h.1)
  where
    either : (b : Bool) → AllByRecursion P (pushed_at n es)
        → AllByRecursion P (cond b (e.pair ∷ pushed_at n es) (pushed_at n es))
    either true k = (h.0, k)
    either false k = k

pub each_in_order : (P : QueuedPair → Type 0) (n : ℕ) (es : List NumberedPair)
    → AllByRecursion (λ (e : NumberedPair). P e.pair) es → AllByRecursion P (in_order n es)
each_in_order P zero es h = tt
each_in_order P (suc n) es h =
    AllByRecursion-append P (in_order n es) (pushed_at n es) (each_in_order P n es h) (each_pushed_at P n es h)

module _ (d : ℤ) (n : ℕ) where
  -- a pair of one of the pushes counts once
  counted : (e : NumberedPair) (es : List NumberedPair) → e.number < n → HasOther e.number es
      → count_by (is_of_degree d) (in_order n (e ∷ es))
      ≡ one_if (is_of_degree d e.pair) + count_by (is_of_degree d) (in_order n es)
  counted e es early others =
      let h = in_order-between e n [] es early others in
      let p = is_of_degree d in
      let before = in_order e.number es in
      let whole : count_by p (in_order n (e ∷ es)) ≡ count_by p before + count_by p (e.pair ∷ h.0) =
      ap (count_by p) h.1 ∙ sum_by-append (λ f. one_if (p f)) before (e.pair ∷ h.0) in
      let rest : count_by p (in_order n es) ≡ count_by p before + count_by p h.0 =
      ap (count_by p) h.2 ∙ sum_by-append (λ f. one_if (p f)) before h.0 in
      omega (arith, whole, rest, count_by-cons p e.pair h.0)

  not_of_degree : (y : NumberedPair) → (y.pair.degree ≡ d → ⊥) → is_of_degree d y.pair ≡ false
  not_of_degree y different = elim (cases_Bool (is_of_degree d y.pair)) [
    | inl same ↦ absurd (different ((Decides-int_eq y.pair.degree d).0 same))
    | inr none ↦ none
  ]

  none_counted : (ys : List NumberedPair) → AreByDegree ys
      → AllByRecursion (λ (f : NumberedPair). f.pair.degree ≡ d → n ≤ f.number) ys
      → count_by (is_of_degree d) (in_order n ys) ≡ 0
  none_counted [] h later = empty n
    where
      empty : (k : ℕ) → count_by (is_of_degree d) (in_order k []) ≡ 0
      empty zero = refl
      empty (suc k) = ap (count_by (is_of_degree d)) (append-nil (in_order k [])) ∙ empty k
  none_counted (y ∷ ys) h later =
      let rest = none_counted ys h.1 later.1 in
      elim (cases_lt y.number n) [
        | inr past ↦ ap (count_by (is_of_degree d)) (in_order-earlier y n [] ys past) ∙ rest
        | inl early ↦
            let other = not_of_degree y (λ same. let past = later.0 same in omega (arith, past, early)) in
            let once = counted y ys early (AreByDegree-apart [] ys y h) in
            let zero_more : one_if (is_of_degree d y.pair) ≡ 0 = ap one_if other in
            omega (arith, once, zero_more, rest)
      ]

  -- as many as those in front
  pub counted_front : (xs ys : List NumberedPair) → AreByDegree (xs ++ ys)
      → AllByRecursion (λ (f : NumberedPair). (f.pair.degree ≡ d) × (f.number < n)) xs
      → AllByRecursion (λ (f : NumberedPair). f.pair.degree ≡ d → n ≤ f.number) ys
      → count_by (is_of_degree d) (in_order n (xs ++ ys)) ≡ length xs
  counted_front [] ys h front later = none_counted ys h later
  counted_front (x ∷ xs) ys h front later =
      let rest = counted_front xs ys h.1 front.1 later in
      let own : is_of_degree d x.pair ≡ true = (Decides-int_eq x.pair.degree d).1 front.0.0 in
      let once = counted x (xs ++ ys) front.0.1 (AreByDegree-apart [] (xs ++ ys) x h) in
      let one_more : one_if (is_of_degree d x.pair) ≡ 1 = ap one_if own in
      omega (arith, once, one_more, rest)

-- the item between two lists
pub item_between : {X : Type 0} (xs : List X) (x : X) (ys : List X) (d : X)
    → slice_index_or (xs ++ x ∷ ys) (length xs) d ≡ x
item_between [] x ys d = refl
item_between (z ∷ xs) x ys d = item_between xs x ys d

pub within_between : {X : Type 0} (xs : List X) (x : X) (ys : List X) → length xs < length (xs ++ x ∷ ys)
within_between [] x ys = omega arith
within_between (z ∷ xs) x ys = let rest = within_between xs x ys in omega (arith, rest)

-- what is left without it
pub remove_between : {X : Type 0} (xs : List X) (x : X) (ys : List X) → remove (xs ++ x ∷ ys) (length xs) ≡ xs ++ ys
remove_between [] x ys = refl
remove_between (z ∷ xs) x ys = ap (λ l. z ∷ l) (remove_between xs x ys)

-- the first pair has the least degree
pub HasLeast-first : (n : ℕ) (e : NumberedPair) (es : List NumberedPair) → IsKept n (e ∷ es)
    → HasLeast e.pair.degree (in_order n (e ∷ es))
HasLeast-first n e es h =
    let between = in_order-between e n [] es h.numbers.0 (AreByDegree-apart [] es e h.sorted) in (
      subst (Any (λ (f : QueuedPair). f.degree ≡ e.pair.degree)) (sym between.1) (any_between (in_order e.number es) e.pair between.0),
      All-from_recursion (λ (f : QueuedPair). e.pair.degree ≤ℤ f.degree) (in_order n (e ∷ es))
          (each_in_order (λ (f : QueuedPair). e.pair.degree ≤ℤ f.degree) n (e ∷ es) (omega (arith, ints), AllByRecursion-weaken (ComesBefore e) (λ f. e.pair.degree ≤ℤ f.pair.degree) (λ f k. k.degrees) es h.sorted.0)),
    )
  where
    any_between : (xs : List QueuedPair) (x : QueuedPair) (ys : List QueuedPair)
        → Any (λ (f : QueuedPair). f.degree ≡ x.degree) (xs ++ x ∷ ys)
    any_between xs x ys =
        let here = item_between xs x ys x in (length xs, x, within_between xs x ys, here, refl)

-- what has a degree is in front
pub record IsInFront (d : ℤ) (at : ℕ) (es : List NumberedPair) : Type 0 where
  pub before : List NumberedPair
  pub taken : NumberedPair
  pub after : List NumberedPair
  pub whole : es ≡ before ++ taken ∷ after
  pub place : length before ≡ at
  pub degrees : AllByRecursion (λ (f : NumberedPair). f.pair.degree ≡ d) before
  pub degree : taken.pair.degree ≡ d

false_true : false ≡ true → ⊥
false_true e = cc

strictly : {d : ℤ} (e : NumberedPair) → d ≤ℤ e.pair.degree → (e.pair.degree ≡ d → ⊥) → d <ℤ e.pair.degree
strictly e up other = grind (arith, ints)

pub IsInFront-counted : (d : ℤ) (n at : ℕ) (es : List NumberedPair) → IsKept n es
    → AllByRecursion (λ (f : NumberedPair). d ≤ℤ f.pair.degree) es
    → at < count_by (is_of_degree d) (in_order n es) → IsInFront d at es
IsInFront-counted d n at [] h above few = let none = none_counted d n [] tt tt in absurd (omega (arith, none, few))
IsInFront-counted d n at (e ∷ es) h above few = elim (cases_Bool (is_of_degree d e.pair)) [
  | inr other ↦
      let up = above.0 in let higher : d <ℤ e.pair.degree = strictly e up (λ same. false_true (sym other ∙ (Decides-int_eq e.pair.degree d).1 same)) in
      let none = none_counted d n (e ∷ es) h.sorted (
        (λ same. absurd (omega (arith, ints, same, higher))),
        AllByRecursion-weaken (ComesBefore e) (λ f. f.pair.degree ≡ d → n ≤ f.number) (λ f k same. let up = k.degrees in absurd (omega (arith, ints, same, higher, up))) es h.sorted.0,
      ) in
      absurd (omega (arith, none, few))
  | inl own ↦
      let further : (k : ℕ) → k < count_by (is_of_degree d) (in_order n es) → IsInFront d k es =
      λ k less. IsInFront-counted d n k es (record { sorted = h.sorted.1; numbers = h.numbers.1 }) above.1 less in
      step at few ((Decides-int_eq e.pair.degree d).0 own) further
]
  where
    step : (k : ℕ) → k < count_by (is_of_degree d) (in_order n (e ∷ es)) → e.pair.degree ≡ d
        → ((j : ℕ) → j < count_by (is_of_degree d) (in_order n es) → IsInFront d j es) → IsInFront d k (e ∷ es)
    step zero few same further = record {
      before = [];
      taken = e;
      after = es;
      whole = refl;
      place = refl;
      degrees = tt;
      degree = same;
    }
    step (suc k) few same further =
        let once = counted d n e es h.numbers.0 (AreByDegree-apart [] es e h.sorted) in
        let one_more : one_if (is_of_degree d e.pair) ≡ 1 = ap one_if ((Decides-int_eq e.pair.degree d).1 same) in
        let rest = further k (omega (arith, few, once, one_more)) in
        record {
          before = e ∷ rest.before;
          taken = rest.taken;
          after = rest.after;
          whole = ap (λ l. e ∷ l) rest.whole;
          place = ap suc rest.place;
          degrees = (same, rest.degrees);
          degree = rest.degree;
        }

-- those in front come before what is taken, and those behind it after
front_before : (e : NumberedPair) (xs ys : List NumberedPair) (d : ℤ) → AreByDegree (xs ++ e ∷ ys) → e.pair.degree ≡ d
    → AllByRecursion (λ (f : NumberedPair). f.pair.degree ≡ d) xs
    → AllByRecursion (λ (f : NumberedPair). (f.pair.degree ≡ d) × (f.number < e.number)) xs
    × AllByRecursion (λ (f : NumberedPair). f.pair.degree ≡ d → e.number ≤ f.number) ys
front_before e [] ys d h own same =
    (tt, AllByRecursion-weaken (ComesBefore e) (λ f. f.pair.degree ≡ d → e.number ≤ f.number) (λ f k other. let later = k.pushes (own ∙ sym other) in omega (arith, later)) ys h.0)
front_before e (x ∷ xs) ys d h own same =
    let rest = front_before e xs ys d h.1 own same.1 in
    let early = (each_at (ComesBefore x) xs ys e h.0).pushes (same.0 ∙ sym own) in
    (((same.0, early), rest.0), rest.1)

front_above : (e : NumberedPair) (xs ys : List NumberedPair) (d : ℤ) → AreByDegree (xs ++ e ∷ ys) → e.pair.degree ≡ d
    → AllByRecursion (λ (f : NumberedPair). f.pair.degree ≡ d) xs
    → AllByRecursion (λ (f : NumberedPair). d ≤ℤ f.pair.degree) (xs ++ ys)
front_above e [] ys d h own same =
    AllByRecursion-weaken (ComesBefore e) (λ f. d ≤ℤ f.pair.degree) (λ f k. let up = k.degrees in omega (arith, ints, up, own)) ys h.0
front_above e (x ∷ xs) ys d h own same =
    let first = same.0 in (omega (arith, ints, first), front_above e xs ys d h.1 own same.1)

-- what is in front is taken
pub IsTaken-front : (d : ℤ) (n at : ℕ) (es : List NumberedPair) → IsKept n es → HasLeast d (in_order n es)
    → (front : IsInFront d at es)
    → IsTaken at (in_order n es) front.taken.pair.first front.taken.pair.second
    (in_order n (front.before ++ front.after))
IsTaken-front d n at es h least front =
    let e = front.taken in
    let xs = front.before in
    let ys = front.after in
    let kept : IsKept n (xs ++ e ∷ ys) = subst (IsKept n) front.whole h in
    let between = in_order-between e n xs ys (each_at (λ f. f.number < n) xs ys e kept.numbers) (AreByDegree-apart xs ys e kept.sorted) in
    let ordered = front_before e xs ys d kept.sorted front.degree front.degrees in
    let counts = counted_front d e.number xs ys (AreByDegree-remove xs ys e kept.sorted) ordered.0 ordered.1 in
    let whole : in_order n es ≡ in_order e.number (xs ++ ys) ++ e.pair ∷ between.0 = ap (in_order n) front.whole ∙ between.1 in
    record {
      degree = e.pair.degree;
      before = in_order e.number (xs ++ ys);
      after = between.0;
      whole = whole;
      rest = between.2;
      least = (Decides-is_least (in_order n es) e.pair).1 (highest d (in_order n es) least e.pair front.degree);
      place =
          count_least_in-HasLeast d (in_order n es) least (in_order e.number (xs ++ ys))
          (All-from_recursion (λ (f : QueuedPair). d ≤ℤ f.degree) (in_order e.number (xs ++ ys))
          (each_in_order (λ (f : QueuedPair). d ≤ℤ f.degree) e.number (xs ++ ys) (front_above e xs ys d kept.sorted front.degree front.degrees)))
          ∙ counts ∙ front.place;
    }

-- how many have the least degree
pub count_least-front : (d : ℤ) (n : ℕ) (xs ys : List NumberedPair) → IsKept n (xs ++ ys)
    → HasLeast d (in_order n (xs ++ ys))
    → AllByRecursion (λ (f : NumberedPair). f.pair.degree ≡ d) xs
    → AllByRecursion (λ (f : NumberedPair). d <ℤ f.pair.degree) ys
    → count_least (in_order n (xs ++ ys)) ≡ length xs
count_least-front d n xs ys h least same above =
    count_least-HasLeast d (in_order n (xs ++ ys)) least
    ∙ counted_front d n xs ys h.sorted
    (each_both xs ys same h.numbers)
    (AllByRecursion-weaken (λ f. d <ℤ f.pair.degree) (λ f. f.pair.degree ≡ d → n ≤ f.number) (λ f up own. absurd (omega (arith, ints, up, own))) ys above)
  where
    each_both : (xs ys : List NumberedPair) → AllByRecursion (λ (f : NumberedPair). f.pair.degree ≡ d) xs
        → AllByRecursion (λ (f : NumberedPair). f.number < n) (xs ++ ys)
        → AllByRecursion (λ (f : NumberedPair). (f.pair.degree ≡ d) × (f.number < n)) xs
    each_both [] ys same numbers = tt
    each_both (x ∷ xs) ys same numbers = ((same.0, numbers.0), each_both xs ys same.1 numbers.1)
