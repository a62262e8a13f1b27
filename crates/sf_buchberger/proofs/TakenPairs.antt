-- What is taken from a queue that comes first has the least degree of all that waits.
use Rattle.std.proofs.Common.{◌≡◌, Bool, true, false, ℕ, zero, suc, ◌+◌, ◌<◌, ℤ, ◌≤ℤ◌, int_le, cond, List, [], ◌∷◌, ◌++◌, length, slice_index_or, sym, ◌∙◌, ap, subst, arith}
use Rattle.std.specs.List.{All, AllByRecursion, count_by, list_all}
use Rattle.std.proofs.lemmas.Bool.{and_parts}
use Rattle.std.proofs.lemmas.Bool.Decides.{Decides-int_eq}
use Rattle.std.proofs.lemmas.Int.{ints}
use Rattle.std.proofs.lemmas.List.Elements.{All-head, All-tail}
use Rattle.std.proofs.lemmas.List.Sums.{sum_by-cons}
use Rattle.sf_algebra.proofs.Basics.Lists.{AllByRecursion-append, AllByRecursion-back, AllByRecursion-front, AllByRecursion-weaken}
use Rattle.sf_pairs.specs.Queue.{QueuedPair, HasLeast, IsTaken, count_least, is_of_degree, pair_of}
use Rattle.sf_pairs.proofs.LeastDegrees.{count_least-HasLeast}
use Rattle.sf_buchberger.specs.QueuedPairs.{IsFirst}

-- no degree of a queue is below d
abbrev pub IsBelowEach : ℤ → List QueuedPair → Type 0
IsBelowEach d queue = AllByRecursion (λ (e : QueuedPair). d ≤ℤ e.degree) queue

pub AllByRecursion-from_All : {X : Type 0} (P : X → Type 0) (xs : List X) → All P xs → AllByRecursion P xs
AllByRecursion-from_All P [] h = tt
AllByRecursion-from_All P (x ∷ xs) h =
    (All-head P x xs h, AllByRecursion-from_All P xs (All-tail P x xs h))

pub at_most : (a b : ℤ) → int_le a b ≡ true → a ≤ℤ b
at_most a b h = grind (arith, ints)

pub at_least : (a b : ℤ) → int_le a b ≡ false → b ≤ℤ a
at_least a b h = grind (arith, ints)

-- a degree that the test finds least is below none
is_least-below : (d : ℤ) (part : List QueuedPair) → list_all (λ (f : QueuedPair). int_le d f.degree) part ≡ true
    → IsBelowEach d part
is_least-below d [] h = tt
is_least-below d (e ∷ es) h =
    let parts = and_parts (int_le d e.degree) (list_all (λ (f : QueuedPair). int_le d f.degree) es) h in
    (at_most d e.degree parts.0, is_least-below d es parts.1)

-- a place of a list
below_at : (d : ℤ) (queue : List QueuedPair) → IsBelowEach d queue → (k : ℕ) (e : QueuedPair) → k < length queue
    → d ≤ℤ (slice_index_or queue k e).degree
below_at d [] h k e within = absurd (omega arith)
below_at d (f ∷ fs) h zero e within = h.0
below_at d (f ∷ fs) h (suc k) e within = below_at d fs h.1 k e (omega arith)

count_by-cons : (p : QueuedPair → Bool) (x : QueuedPair) (xs : List QueuedPair)
    → count_by p (x ∷ xs) ≡ cond (p x) 1 0 + count_by p xs
count_by-cons p x xs = sum_by-cons (λ (y : QueuedPair). cond (p y) 1 0) x xs

-- a queue that has a least degree has one that is counted
some_of_degree : (d : ℤ) (queue : List QueuedPair) (k : ℕ) (e : QueuedPair) → k < length queue
    → (slice_index_or queue k e).degree ≡ d → 0 < count_by (is_of_degree d) queue
some_of_degree d [] k e within same = absurd (omega arith)
some_of_degree d (f ∷ fs) zero e within same =
    let one : ◌≡◌ {A = ℕ} (cond (is_of_degree d f) 1 0) 1 = ap (λ b. cond b 1 0) ((Decides-int_eq f.degree d).1 same) in
    omega (arith, count_by-cons (is_of_degree d) f fs, one)
some_of_degree d (f ∷ fs) (suc k) e within same =
    omega (arith, count_by-cons (is_of_degree d) f fs, some_of_degree d fs k e (omega arith) same)

module _ (queue other : List QueuedPair) (first : IsFirst queue other) where
  pub some_least : 0 < count_least queue
  some_least =
      let d = first.0 in
      let some = first.1.0 in
      subst (λ n. 0 < n) (sym (count_least-HasLeast d queue first.1))
      (some_of_degree d queue some.0 some.1 some.2 (ap (λ (e : QueuedPair). e.degree) some.3 ∙ some.4))

  module _ (at i j : ℕ) (left : List QueuedPair) (taken : IsTaken at queue i j left) where
    -- no degree in the queue is below that of what is taken
    pub taken_below : IsBelowEach taken.degree queue
    taken_below = is_least-below taken.degree queue taken.least

    -- nor in the other
    pub taken_below_other : IsBelowEach taken.degree other
    taken_below_other =
        let d = first.0 in
        let some = first.1.0 in
        let at_least : taken.degree ≤ℤ d =
        subst (λ (g : ℤ). taken.degree ≤ℤ g) (ap (λ (e : QueuedPair). e.degree) some.3 ∙ some.4)
        (below_at taken.degree queue taken_below some.0 some.1 some.2) in
        AllByRecursion-weaken _ _ (λ e h. through taken.degree d e.degree at_least h) other first.2
      where
        through : (a b c : ℤ) → a ≤ℤ b → b ≤ℤ c → a ≤ℤ c
        through a b c h k = omega (arith, ints)

    -- one less is left
    pub length-taken : length queue ≡ length left + 1
    length-taken =
        rw (taken.whole, taken.rest) (sizes taken.before taken.after (pair_of taken.degree i j))
      where
        sizes : (xs ys : List QueuedPair) (x : QueuedPair) → length (xs ++ x ∷ ys) ≡ length (xs ++ ys) + 1
        sizes [] ys x = omega arith
        sizes (y ∷ xs) ys x = omega (arith, sizes xs ys x)

-- a queue whose least degree is not above that of another comes first
pub IsFirst-before : (queue other : List QueuedPair) (d e : ℤ) → HasLeast d queue → HasLeast e other → d ≤ℤ e
    → IsFirst queue other
IsFirst-before queue other d e h k le = (
  d,
  h,
  AllByRecursion-weaken _ _ (λ x above. through d e x.degree le above) other
      (AllByRecursion-from_All (λ (x : QueuedPair). e ≤ℤ x.degree) other k.1),
)
  where
    through : (a b c : ℤ) → a ≤ℤ b → b ≤ℤ c → a ≤ℤ c
    through a b c h k = omega (arith, ints)

-- what is left of a queue is queued as before, and so is what was taken
pub queued_left : (P : QueuedPair → Type 0) (before after : List QueuedPair) (e : QueuedPair)
    → AllByRecursion P (before ++ e ∷ after) → AllByRecursion P (before ++ after)
queued_left P before after e h =
    AllByRecursion-append P before after (AllByRecursion-front P before (e ∷ after) h)
    (AllByRecursion-back P before (e ∷ after) h).1

pub queued_taken : (P : QueuedPair → Type 0) (before after : List QueuedPair) (e : QueuedPair)
    → AllByRecursion P (before ++ e ∷ after) → P e
queued_taken P before after e h = (AllByRecursion-back P before (e ∷ after) h).0
