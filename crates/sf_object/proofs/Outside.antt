-- The first vector outside a span: there is at most one, and the plan that reduces one vector after another answers it.
use Rattle.std.proofs.Common.{◌≡◌, Bool, true, false, if◌then◌else◌, ℕ, zero, suc, ◌+◌, List, [], ◌∷◌, take, Option, Some, None, slice_get, Ok, refl, sym, ◌∙◌, ap, subst, arith}
use Rattle.std.proofs.lemmas.Option.{none-some}
use Rattle.std.specs.List.{AllByRecursion}
use Rattle.std.specs.Option.{option_map}
use Rattle.sf_algebra.specs.Matrices.{Matrix, IsMatrix}
use Rattle.sf_algebra.specs.Rings.{IsOverField}
use Rattle.sf_algebra.specs.Vectors.{Vector, IsVector}
use Rattle.sf_algebra.proofs.Basics.Lists.{AllByRecursion-append, AllByRecursion-get, take-slice_get}
use Rattle.sf_algebra.proofs.Monomials.Weights.{field_ring}
use Rattle.sf_groebner.specs.Presentations.{IsZero}
use Rattle.sf_groebner.specs.Reductions.{IsReduction}
use Rattle.sf_groebner.specs.Spans.{InSpan}
use Rattle.sf_groebner.proofs.Constructions.Reductions.{reduction_exists, reduction_zero}
use Rattle.sf_matrix.specs.Plans.{Plan, answer}
use Rattle.sf_matrix.specs.Questions.{rest, is_zero}
use Rattle.sf_matrix.specs.Runs.{Run, ends, asks}
use Rattle.sf_matrix.proofs.Plans.Readings.{answer_is, ask_is}
use Rattle.sf_matrix.proofs.Zeros.{is_zero-tests}
use Rattle.sf_object.specs.Faults.{IsFirstOutside, IsFirstOrNone, outside_plan}

module _ (m : Matrix) where
  -- behind a vector of the span
  first-behind : (v : Vector) (vs : List Vector) → InSpan m v → (found : Option ℕ) → IsFirstOrNone m vs found
      → IsFirstOrNone m (v ∷ vs) (option_map suc found)
  first-behind v vs inside None h = (inside, h)
  first-behind v vs inside (Some k) h =
      record { vector = h.vector; here = h.here; outside = h.outside; before = (inside, h.before) }

  -- a vector outside comes first
  first-here : (v : Vector) (vs : List Vector) → (InSpan m v → ⊥) → IsFirstOrNone m (v ∷ vs) (Some 0)
  first-here v vs outside = record { vector = v; here = refl; outside = outside; before = tt }

  head_of : (v w : Vector) → Some v ≡ Some w → v ≡ w
  head_of v w e = cc

  pub first-unique : (vs : List Vector) (a b : Option ℕ) → IsFirstOrNone m vs a → IsFirstOrNone m vs b → a ≡ b
  first-unique [] None None h k = refl
  first-unique [] None (Some j) h k = absurd (none-some k.vector k.here)
  first-unique [] (Some i) b h k = absurd (none-some h.vector h.here)
  first-unique (v ∷ vs) None None h k = refl
  first-unique (v ∷ vs) None (Some zero) h k =
      absurd (k.outside (subst (InSpan m) (head_of v k.vector k.here) h.0))
  first-unique (v ∷ vs) None (Some (suc j)) h k =
      ap (option_map suc)
      (first-unique vs None (Some j) h.1
      (record { vector = k.vector; here = k.here; outside = k.outside; before = k.before.1 }))
  first-unique (v ∷ vs) (Some zero) None h k =
      absurd (h.outside (subst (InSpan m) (head_of v h.vector h.here) k.0))
  first-unique (v ∷ vs) (Some zero) (Some zero) h k = refl
  first-unique (v ∷ vs) (Some zero) (Some (suc j)) h k =
      absurd (h.outside (subst (InSpan m) (head_of v h.vector h.here) k.before.0))
  first-unique (v ∷ vs) (Some (suc i)) None h k =
      ap (option_map suc)
      (first-unique vs (Some i) None
      (record { vector = h.vector; here = h.here; outside = h.outside; before = h.before.1 }) k.1)
  first-unique (v ∷ vs) (Some (suc i)) (Some zero) h k =
      absurd (k.outside (subst (InSpan m) (head_of v k.vector k.here) h.before.0))
  first-unique (v ∷ vs) (Some (suc i)) (Some (suc j)) h k =
      ap (option_map suc)
      (first-unique vs (Some i) (Some j)
      (record { vector = h.vector; here = h.here; outside = h.outside; before = h.before.1 })
      (record { vector = k.vector; here = k.here; outside = k.outside; before = k.before.1 }))

  module _ (field : IsOverField m.ring) (matrix : IsMatrix m) where
    -- nothing is left exactly of the vectors of the span
    inside_of : (v : Vector) → IsVector m.ring m.target v → (w c : Vector) → IsReduction m v w c → is_zero w ≡ true
        → InSpan m v
    inside_of v vector w c reduction e =
        (reduction_zero m (field_ring field) matrix v vector w c reduction).0 ((is_zero-tests w.terms).0 e)

    outside_of : (v : Vector) → IsVector m.ring m.target v → (w c : Vector) → IsReduction m v w c → is_zero w ≡ false
        → InSpan m v → ⊥
    outside_of v vector w c reduction e inside =
        let none = (reduction_zero m (field_ring field) matrix v vector w c reduction).1 inside in
        let zero = (is_zero-tests w.terms).1 none in
        cc

    -- the numbers count from k
    abbrev from : ℕ → Option ℕ → Option ℕ
    from k found = option_map (λ j. k + j) found

    from_next : (k : ℕ) (found : Option ℕ) → from (suc k) found ≡ from k (option_map suc found)
    from_next k None = refl
    from_next k (Some j) = ap Some (omega arith)

    -- what comes behind a question goes by what is left
    abbrev goes_on : ℕ → List Vector → Bool → Plan (Option ℕ)
    goes_on k vs nothing = if nothing then outside_plan m (suc k) vs else answer (Some k)

    run_behind : (limit k : ℕ) (v : Vector) (vs : List Vector) → IsVector m.ring m.target v
        → ((found : Option ℕ) → IsFirstOrNone m vs found → Run limit (outside_plan m (suc k) vs) [] (Ok (from (suc k) found)))
        → (w c : Vector) → IsReduction m v w c → (found : Option ℕ) → IsFirstOrNone m (v ∷ vs) found → (nothing : Bool)
        → is_zero w ≡ nothing → Run limit (goes_on k vs nothing) [] (Ok (from k found))
    run_behind limit k v vs vector more w c reduction None h true e = more None h.1
    run_behind limit k v vs vector more w c reduction None h false e = absurd (outside_of v vector w c reduction e h.0)
    run_behind limit k v vs vector more w c reduction (Some zero) h true e =
        absurd (h.outside (subst (InSpan m) (head_of v h.vector h.here) (inside_of v vector w c reduction e)))
    run_behind limit k v vs vector more w c reduction (Some zero) h false e =
        subst (λ j. Run limit (answer (Some k)) [] (Ok (Some j))) (omega arith) ends
    run_behind limit k v vs vector more w c reduction (Some (suc j)) h true e =
        subst (λ found. Run limit (outside_plan m (suc k) vs) [] (Ok found)) (from_next k (Some j))
        (more (Some j) (record { vector = h.vector; here = h.here; outside = h.outside; before = h.before.1 }))
    run_behind limit k v vs vector more w c reduction (Some (suc j)) h false e =
        absurd (outside_of v vector w c reduction e h.before.0)

    -- the plan may end with the first that is outside
    pub outside_run : (limit k : ℕ) (vs : List Vector) → AllByRecursion (IsVector m.ring m.target) vs → (found : Option ℕ)
        → IsFirstOrNone m vs found → Run limit (outside_plan m k vs) [] (Ok (from k found))
    outside_run limit k [] vectors None h = ends
    outside_run limit k [] vectors (Some j) h = absurd (none-some h.vector h.here)
    outside_run limit k (v ∷ vs) vectors found h =
        let r = reduction_exists m field matrix v vectors.0 in
        asks (r.0, r.1) (field, matrix, vectors.0) r.2
        (run_behind limit k v vs vectors.0 (outside_run limit (suc k) vs vectors.1) r.0 r.1 r.2 found h (is_zero r.0) refl)

    -- the answer of a run, whose numbers count from k
    abbrev IsAnswerFrom : ℕ → List Vector → Option ℕ → Type 0
    IsAnswerFrom k vs end = (found : Option ℕ) × (end ≡ from k found) × IsFirstOrNone m vs found

    answer_behind : (limit k : ℕ) (v : Vector) (vs : List Vector) (looked : List Matrix) (end : Option ℕ)
        → (Run limit (outside_plan m (suc k) vs) looked (Ok end) → IsAnswerFrom (suc k) vs end) → (w c : Vector)
        → IsVector m.ring m.target v → IsReduction m v w c → (nothing : Bool) → is_zero w ≡ nothing
        → Run limit (goes_on k vs nothing) looked (Ok end) → IsAnswerFrom k (v ∷ vs) end
    answer_behind limit k v vs looked end more w c vector reduction true e run =
        let behind = more run in (
          option_map suc behind.0,
          behind.1 ∙ from_next k behind.0,
          first-behind v vs (inside_of v vector w c reduction e) behind.0 behind.2,
        )
    answer_behind limit k v vs looked end more w c vector reduction false e run = (
      Some 0,
      answer_is limit (Some k) looked end run ∙ ap Some (omega arith),
      first-here v vs (outside_of v vector w c reduction e),
    )

    -- and it ends with nothing else
    pub outside_is : (limit k : ℕ) (vs : List Vector) (looked : List Matrix) (end : Option ℕ)
        → Run limit (outside_plan m k vs) looked (Ok end) → IsAnswerFrom k vs end
    outside_is limit k [] looked end run = (None, answer_is limit None looked end run, tt)
    outside_is limit k (v ∷ vs) looked end run =
        let x = ask_is limit (rest m v) (λ left. goes_on k vs (is_zero left.0)) looked end run in
        answer_behind limit k v vs looked end (outside_is limit (suc k) vs looked end) x.0.0 x.0.1 x.1.2 x.2
        (is_zero x.0.0) refl x.3

    -- one vector after another: those before place i are inside
    module _ (vs : List Vector) (i : ℕ) (v : Vector) (here : slice_get vs i ≡ Some v) (vector : IsVector m.ring m.target v)
        (before : AllByRecursion (InSpan m) (take i vs)) (w c : Vector) (reduction : IsReduction m v w c) where
      pub inside_next : IsZero w → AllByRecursion (InSpan m) (take (i + 1) vs)
      inside_next none =
          subst (AllByRecursion (InSpan m)) (sym (take-slice_get vs i v here))
          (AllByRecursion-append (InSpan m) (take i vs) (v ∷ []) before
          ((reduction_zero m (field_ring field) matrix v vector w c reduction).0 none, tt))

      pub outside_here : (IsZero w → ⊥) → IsFirstOutside m vs i
      outside_here some = record {
        vector = v;
        here = here;
        outside = λ inside. some ((reduction_zero m (field_ring field) matrix v vector w c reduction).1 inside);
        before = before;
      }

-- a row of a matrix over the ring and the target of another one
pub row_stands : (m rows : Matrix) → rows.ring ≡ m.ring → rows.target ≡ m.target → IsMatrix rows → (i : ℕ) (v : Vector)
    → slice_get rows.rows i ≡ Some v → IsVector m.ring m.target v
row_stands m rows ring target matrix i v here =
    subst (λ (x : Matrix). IsVector x.ring x.target v)
    (λ j. record { ring = ring j; target = target j; rows = [] })
    (AllByRecursion-get (IsVector rows.ring rows.target) rows.rows i v matrix here)
