-- The pairs whose degree is above that of none are those that have the least degree.
use Rattle.std.proofs.Common.{◌≡◌, ℤ, ◌≤ℤ◌, int_le, List, refl, subst, arith}
use Rattle.std.specs.Bool.{Decides}
use Rattle.std.specs.List.{All, count_by, list_all}
use Rattle.std.proofs.lemmas.Bool.Decides.{Decides-by_and, Decides-int_eq, Decides-like, same_from_decides}
use Rattle.std.proofs.lemmas.Int.{ints}
use Rattle.std.proofs.lemmas.List.Elements.{All-weaker}
use Rattle.sf_pairs.specs.Queue.{QueuedPair, is_of_degree, HasLeast, is_least, count_least, count_least_in}
use Rattle.sf_pairs.proofs.Choices.{count_by-agree}

pub Decides-int_le : (a b : ℤ) → Decides (int_le a b) (a ≤ℤ b)
Decides-int_le a b = (λ h. grind (arith, ints), λ h. grind (arith, ints))

pub Decides-is_least : (queue : List QueuedPair) (e : QueuedPair)
    → Decides (is_least queue e) (All (λ (f : QueuedPair). e.degree ≤ℤ f.degree) queue)
Decides-is_least queue e =
    Decides-by_and (λ (f : QueuedPair). int_le e.degree f.degree) (λ (f : QueuedPair). e.degree ≤ℤ f.degree)
    (list_all (λ (f : QueuedPair). int_le e.degree f.degree)) (λ f. Decides-int_le e.degree f.degree) refl
    (λ _ _. refl) queue

module _ (d : ℤ) (queue : List QueuedPair) (least : HasLeast d queue) where
  -- a degree that is above none is at most the least
  lowest : (e : QueuedPair) → d ≤ℤ e.degree → All (λ (f : QueuedPair). e.degree ≤ℤ f.degree) queue → e.degree ≡ d
  lowest e above each =
      let some = least.0 in
      let below : e.degree ≤ℤ some.1.degree =
      subst (λ (f : QueuedPair). e.degree ≤ℤ f.degree) some.3 (each some.0 some.1 some.2) in
      omega (arith, ints, below, above, some.4)

  pub highest : (e : QueuedPair) → e.degree ≡ d → All (λ (f : QueuedPair). e.degree ≤ℤ f.degree) queue
  highest e same = λ k x below. let above = least.1 k x below in omega (arith, ints, above, same)

  is_least-HasLeast : (e : QueuedPair) → d ≤ℤ e.degree → is_least queue e ≡ is_of_degree d e
  is_least-HasLeast e above =
      same_from_decides _ _ (Decides-like (is_least queue e) (lowest e above) (highest e) (Decides-is_least queue e))
      (Decides-int_eq e.degree d)

  -- those of least degree are counted by their degree
  pub count_least_in-HasLeast : (part : List QueuedPair) → All (λ (e : QueuedPair). d ≤ℤ e.degree) part
      → count_least_in queue part ≡ count_by (is_of_degree d) part
  count_least_in-HasLeast part above =
      count_by-agree (is_least queue) (is_of_degree d) part
      (All-weaker (λ (e : QueuedPair). d ≤ℤ e.degree) (λ e. is_least queue e ≡ is_of_degree d e) is_least-HasLeast part above)

  pub count_least-HasLeast : count_least queue ≡ count_by (is_of_degree d) queue
  count_least-HasLeast = count_least_in-HasLeast queue least.1
