-- Where Buchberger's algorithm starts: there are no rows, and all generators wait.
use Rattle.std.proofs.Common.{◌≡◌, inl, inr, ℕ, zero, suc, ◌+◌, ◌<◌, List, [], ◌∷◌, ◌++◌, length, Some, slice_get, take, refl, sym, ◌∙◌, ap, subst, arith, ℤ}
use Rattle.std.specs.List.{AllByRecursion}
use Rattle.sf_algebra.specs.Matrices.{Matrix, degrees_of}
use Rattle.sf_algebra.specs.Rings.{Ring, plain}
use Rattle.sf_algebra.specs.Terms.{Term}
use Rattle.sf_algebra.specs.VectorOperations.{row_sum}
use Rattle.sf_algebra.specs.Vectors.{Place, Vector, IsVector, generator_degree}
use Rattle.sf_algebra.proofs.Basics.Lists.{AllByRecursion-get, take-slice_get}
use Rattle.sf_algebra.proofs.Vectors.RowSums.{row_sum-nil_first}
use Rattle.sf_groebner.specs.GraphRows.{graph_matrix}
use Rattle.sf_groebner.specs.Spans.{IsGraphVector}
use Rattle.sf_groebner.proofs.Basics.Items.{IsItem}
use Rattle.sf_groebner.proofs.PairLoops.GrowingBases.{IsGrowing-start}
use Rattle.sf_groebner.proofs.Spanning.CombinationSums.{row_vector}
use Rattle.sf_pairs.specs.Queue.{pair_of}
use Rattle.sf_reduce.specs.TermSums.{TermSum, sum_vector}
use Rattle.sf_buchberger.specs.Loops.{IsLooping, started}
use Rattle.sf_buchberger.specs.QueuedPairs.{IsQueuedInput, input_numbers, queued_inputs}
use Rattle.sf_buchberger.proofs.DoneTables.{AreDone-start}

-- the row that is read, with its degree
pub row_vector-read : (rows : List Vector) (k : ℕ) (v : Vector) → slice_get rows k ≡ Some v → row_vector rows k ≡ v
row_vector-read [] k v read = cc
row_vector-read (w ∷ ws) zero v read = let same : w ≡ v = cc in same
row_vector-read (w ∷ ws) (suc k) v read = row_vector-read ws k v read

-- a row that is added to nothing
pub summed_row : (p : ℕ) → 0 < p → (ring : Ring) → ring ≡ plain p → (target : List ℤ) (rows : List Vector)
    → AllByRecursion (IsVector ring target) rows → (k : ℕ) (v : Vector) → slice_get rows k ≡ Some v
    → (d : ℤ) → d ≡ v.degree → (old new : TermSum) → old ≡ record { modulus = p; degree = d; terms = [] }
    → (ts : List (Term Place)) → ts ≡ v.terms → new.degree ≡ old.degree
    → new.terms ≡ row_sum (plain old.modulus) old.terms ts → sum_vector new ≡ row_vector rows k
summed_row p positive ring same target rows matrix k v read d degree old new first ts terms new_degree sum =
    let row = subst (λ (r : Ring). IsVector r target v) same (AllByRecursion-get (IsVector ring target) rows k v matrix read) in
    let all = sum
    ∙ (λ i. row_sum (plain (first i).modulus) (first i).terms (terms i))
    ∙ row_sum-nil_first (plain p) positive v.terms row.canonical in
    let its_degree = new_degree ∙ ap (λ (s : TermSum). s.degree) first ∙ degree in
    (λ i. record { degree = its_degree i; terms = all i }) ∙ sym (row_vector-read rows k v read)

-- one more generator waits
queued_inputs-push : (k : ℕ) (vs : List Vector) (v : Vector)
    → queued_inputs k (vs ++ v ∷ []) ≡ queued_inputs k vs ++ pair_of v.degree (k + length vs) (k + length vs) ∷ []
queued_inputs-push k [] v = let here : k ≡ k + 0 = omega arith in λ i. pair_of v.degree (here i) (here i) ∷ []
queued_inputs-push k (w ∷ ws) v =
    let there : suc k + length ws ≡ k + suc (length ws) = omega arith in
    ap (λ l. pair_of w.degree k k ∷ l)
    (queued_inputs-push (suc k) ws v ∙ (λ i. queued_inputs (suc k) ws ++ pair_of v.degree (there i) (there i) ∷ []))

pub queued_inputs-next : (rows : List Vector) (k : ℕ) (v : Vector) → slice_get rows k ≡ Some v
    → queued_inputs 0 (take (k + 1) rows) ≡ queued_inputs 0 (take k rows) ++ pair_of v.degree k k ∷ []
queued_inputs-next rows k v read =
    let here : 0 + length (take k rows) ≡ k = length_taken rows k v read in
    ap (queued_inputs 0) (take-slice_get rows k v read)
    ∙ queued_inputs-push 0 (take k rows) v
    ∙ (λ i. queued_inputs 0 (take k rows) ++ pair_of v.degree (here i) (here i) ∷ [])
  where
    length_taken : (xs : List Vector) (n : ℕ) (x : Vector) → slice_get xs n ≡ Some x → 0 + length (take n xs) ≡ n
    length_taken [] n x h = cc
    length_taken (y ∷ ys) zero x h = refl
    length_taken (y ∷ ys) (suc n) x h = omega (arith, length_taken ys n x h)

-- all of them wait
waits_input : (k : ℕ) (vs : List Vector) (i : ℕ) → i < length vs → IsItem (k + i) (input_numbers (queued_inputs k vs))
waits_input k [] i h = absurd (omega arith)
waits_input k (v ∷ vs) zero h = inl (omega arith)
waits_input k (v ∷ vs) (suc i) h =
    let there : suc k + i ≡ k + suc i = omega arith in
    inr (subst (λ n. IsItem n (input_numbers (queued_inputs (suc k) vs))) there (waits_input (suc k) vs i (omega arith)))

-- by their degrees
queued_each : (generators : List Vector) (k : ℕ) (vs : List Vector)
    → ((i : ℕ) → i < length vs → (k + i < length generators) × (generator_degree (degrees_of vs) i ≡ generator_degree (degrees_of generators) (k + i)))
    → AllByRecursion (IsQueuedInput generators) (queued_inputs k vs)
queued_each generators k [] f = tt
queued_each generators k (v ∷ vs) f =
    let here : k + 0 ≡ k = omega arith in
    let first = f 0 (omega arith) in (
      record { within = subst (λ n. n < length generators) here first.0; degree = first.1 ∙ ap (generator_degree (degrees_of generators)) here },
      queued_each generators (suc k) vs
          (λ i h.
          let there : k + suc i ≡ suc k + i = omega arith in
          let next = f (suc i) (omega arith) in
          (subst (λ n. n < length generators) there next.0, next.1 ∙ ap (generator_degree (degrees_of generators)) there)),
    )

-- at first there are no rows
pub IsLooping-start : (limit : ℕ) (m : Matrix) → IsLooping limit m (started (graph_matrix m))
IsLooping-start limit m =
    let generators = (graph_matrix m).rows in
    record {
      ring = refl;
      target = refl;
      growing =
          IsGrowing-start m.ring (IsGraphVector m) generators (input_numbers (queued_inputs 0 generators))
          (λ k h. subst (λ n. IsItem n (input_numbers (queued_inputs 0 generators))) (omega arith) (waits_input 0 generators k h));
      queued = tt;
      inputs = queued_each generators 0 generators
          (λ i h.
          let here : i ≡ 0 + i = omega arith in
          (subst (λ n. n < length generators) here h, ap (generator_degree (degrees_of generators)) here));
      few = omega arith;
      low = tt;
      places = refl;
      reduced = AreDone-start m.ring;
    }
