-- Rules for code that meets a plan, one step after another.
use Rattle.std.proofs.Common.{◌≡◌, ℕ, List, [], ◌++◌, Option, Some, None, IsErrAnd, option_and_then, Result, Ok, Err, sym, ◌∙◌, ap, subst}
use Rattle.std.proofs.lemmas.Result.{err_from_is_err_and}
use Rattle.sf_algebra.specs.Matrices.{Matrix}
use Rattle.sf_algebra.specs.Vectors.{Vector, IsVector}
use Rattle.sf_groebner.specs.Reductions.{IsReduction}
use Rattle.sf_matrix.specs.declared.basis.BaseFault.TheVariants.{Memory}
use Rattle.sf_matrix.specs.declared.basis.BaseFault.{BaseFault}
use Rattle.sf_matrix.specs.declared.basis.Graph.{Graph}
use Rattle.sf_matrix.specs.Tables.{Entry, Table, IsGrown, graph_at, graph_of}
use Rattle.sf_matrix.specs.Meets.{Meets, IsEntry, Looked, IsLookOf, without_rows, with_entry, with_fault}
use Rattle.sf_matrix.specs.Plans.{Plan, answer, look, ask, bind, look_plan}
use Rattle.sf_matrix.specs.Questions.{Question, Answer, IsSensible, Holds, rest}
use Rattle.sf_matrix.specs.Runs.{Run, IsLookedAt, ends, stops, skips, looks, outgrows, refuses, asks, strays}
use Rattle.sf_matrix.proofs.Plans.Growth.{grown_none, grown_then, entry_stays}
use Rattle.sf_matrix.proofs.Plans.Readings.{look_plan_is}

module _ {A B : Type 0} (limit : ℕ) (further : A → Plan B) where
  -- a run to an answer, and one of what comes then
  pub run_then : (plan : Plan A) (ms ns : List Matrix) (a : A) (end : Result B BaseFault) → Run limit plan ms (Ok a)
      → Run limit (further a) ns end → Run limit (bind plan further) (ms ++ ns) end
  run_then (answer a) ms ns b end ends then = then
  run_then (look m next) ms ns a end (skips h run) then = skips h (run_then (next []) ms ns a end run then)
  run_then (look m next) ms ns a end (looks {looked = ks} elements fit small run) then =
      looks elements fit small (run_then (next elements) ks ns a end run then)
  run_then (ask q next) ms ns a end (asks x sensible holds run) then =
      asks x sensible holds (run_then (next x) ms ns a end run then)

  -- a run to a fault
  pub run_fails : (plan : Plan A) (ms : List Matrix) (fault : BaseFault) → Run limit plan ms (Err fault)
      → Run limit (bind plan further) ms (Err fault)
  run_fails plan ms fault stops = stops
  run_fails (look m next) ms fault (skips h run) = skips h (run_fails (next []) ms fault run)
  run_fails (look m next) ms fault (looks {looked = ks} elements fit small run) =
      looks elements fit small (run_fails (next elements) ks fault run)
  run_fails (look m next) ms fault (outgrows fit outgrown) = outgrows fit outgrown
  run_fails (look m next) ms fault (refuses some_row unfit) = refuses some_row unfit
  run_fails (ask q next) ms fault (asks x sensible holds run) = asks x sensible holds (run_fails (next x) ms fault run)
  run_fails (ask q next) ms fault (strays fails) = strays fails

-- memory may be wanting after the last look
pub run_cut : {A : Type 0} (limit : ℕ) (plan : Plan A) (ms : List Matrix) (a : A) → Run limit plan ms (Ok a)
    → Run limit plan ms (Err Memory)
run_cut limit (answer a) ms b ends = stops
run_cut limit (look m next) ms a (skips h run) = skips h (run_cut limit (next []) ms a run)
run_cut limit (look m next) ms a (looks {looked = ks} elements fit small run) =
    looks elements fit small (run_cut limit (next elements) ks a run)
run_cut limit (ask q next) ms a (asks x sensible holds run) = asks x sensible holds (run_cut limit (next x) ms a run)

-- an answer takes no look
pub meets_answer : {A : Type 0} {t : Table} {a x : A} → x ≡ a → Meets t (answer a) (Ok x) t
meets_answer {t = t} {a = a} same =
    subst (λ y. Meets t (answer a) (Ok y) t) (sym same) (record { looked = []; run = ends; grown = grown_none t })

-- memory may be wanting at once
pub meets_memory : {A : Type 0} {t : Table} {plan : Plan A} → Meets t plan (Err Memory) t
meets_memory {t = t} = record { looked = []; run = stops; grown = grown_none t }

-- or after the last look
pub meets_cut : {A : Type 0} {t u : Table} {plan : Plan A} {a : A} → Meets t plan (Ok a) u → Meets t plan (Err Memory) u
meets_cut {t = t} {plan = plan} {a = a} h =
    record { looked = h.looked; run = run_cut t.limit plan h.looked a h.run; grown = h.grown }

-- a fault that `?` hands on
pub meets_exit : {A : Type 0} {t u : Table} {plan : Plan A} {r : Result A BaseFault} {fault : BaseFault}
    → IsErrAnd r (λ e. e ≡ fault) → Meets t plan (Err fault) u → Meets t plan r u
meets_exit {t = t} {u = u} {plan = plan} {r = r} h k =
    let p = err_from_is_err_and r h in subst (λ q. Meets t plan q u) (sym (p.1 ∙ ap Err p.2)) k

-- the rest of a plan is met once its first part has its answer
pub meets_then : {A B : Type 0} {t u v : Table} {plan : Plan A} {a : A} {end : Result B BaseFault} (further : A → Plan B)
    → Meets t plan (Ok a) u → Meets u (further a) end v → Meets t (bind plan further) end v
meets_then {t = t} {u = u} {v = v} {plan = plan} {a = a} {end = end} further h k = record {
  looked = h.looked ++ k.looked;
  run =
      run_then t.limit further plan h.looked k.looked a end h.run
      (subst (λ limit. Run limit (further a) k.looked end) h.grown.limit k.run);
  grown = grown_then t u v h.looked k.looked h.grown k.grown;
}

-- a fault of a first part is one of the whole
pub meets_fails : {A B : Type 0} {t u : Table} {plan : Plan A} {fault : BaseFault} (further : A → Plan B)
    → Meets t plan (Err fault) u → Meets t (bind plan further) (Err fault) u
meets_fails {t = t} {plan = plan} {fault = fault} further h =
    record { looked = h.looked; run = run_fails t.limit further plan h.looked fault h.run; grown = h.grown }

-- memory is wanting behind a first part
pub meets_stops : {A B : Type 0} {t u : Table} {plan : Plan A} {a : A} (further : A → Plan B)
    → Meets t plan (Ok a) u → Meets t (bind plan further) (Err Memory) u
meets_stops further h = meets_then further h meets_memory

-- a question that is answered
pub meets_asks : {A : Type 0} {t u : Table} {q : Question} {next : Answer q → Plan A} {end : Result A BaseFault} (x : Answer q)
    → IsSensible q → Holds q x → Meets t (next x) end u → Meets t (ask q next) end u
meets_asks x sensible holds h = record { looked = h.looked; run = asks x sensible holds h.run; grown = h.grown }

-- what entry k is of m tells of entry k
pub graph_at-entry : (t : Table) (k : ℕ) (m : Matrix) (elements : List Vector) → IsEntry t k m elements
    → graph_at t k ≡ Some (graph_of m elements)
graph_at-entry t k m elements h = ap (option_and_then (λ (e : Entry). e.found)) h

same_graph : (g h : Graph) → Some g ≡ Some h → g ≡ h
same_graph g h e = cc

-- what a look found stays found
pub look_of-grown : (t u : Table) (ms : List Matrix) (m : Matrix) (o : Option ℕ) → IsGrown t ms u → IsLookOf t m o
    → IsLookOf u m o
look_of-grown t u ms m None grown h = h
look_of-grown t u ms m (Some k) grown h = (h.0, entry_stays t u ms grown k _ h.1)

pub looked_stays : {A : Type 0} {t u : Table} {plan : Plan A} {end : Result A BaseFault} (m : Matrix) (o : Option ℕ)
    → IsLookOf t m o → Meets t plan end u → IsLookOf u m o
looked_stays {t = t} {u = u} m o h k = look_of-grown t u k.looked m o k.grown h

-- a look as what it found and the run of its plan
record Found (t u : Table) (m : Matrix) (o : Option ℕ) : Type 0 where
  elements : List Vector
  look_of : IsLookOf u m o
  meets : Meets t (look_plan m) (Ok elements) u

found : (t u : Table) (m : Matrix) (o : Option ℕ) → Looked t m (Ok o) u → Found t u m o
found t u m None (without_rows none meets) = record { elements = []; look_of = none; meets = meets }
found t u m (Some k) (with_entry elements entry meets) =
    record { elements = elements; look_of = (elements, entry); meets = meets }

found_none : (t u : Table) (m : Matrix) → Looked t m (Ok None) u → Meets t (look_plan m) (Ok []) u
found_none t u m (without_rows none meets) = meets

found_entry : (t u : Table) (m : Matrix) (k : ℕ) → Looked t m (Ok (Some k)) u
    → (elements : List Vector) × IsEntry u k m elements × Meets t (look_plan m) (Ok elements) u
found_entry t u m k (with_entry elements entry meets) = (elements, entry, meets)

found_fault : (t u : Table) (m : Matrix) (fault : BaseFault) → Looked t m (Err fault) u
    → Meets t (look_plan m) (Err fault) u
found_fault t u m fault (with_fault meets) = meets

module _ {t u : Table} {m : Matrix} {o : Option ℕ} where
  -- what a look found may be used at once, after a further look, and after whatever meets a plan
  pub looked_now : Looked t m (Ok o) u → IsLookOf u m o
  looked_now h = (found t u m o h).look_of

  pub looked_then : {v : Table} {n : Matrix} {p : Option ℕ} → Looked t m (Ok o) u → Looked u n (Ok p) v → IsLookOf v m o
  looked_then {v} {n} {p} h k =
      let meets = (found u v n p k).meets in look_of-grown u v meets.looked m o meets.grown (looked_now h)

  pub looked_grown : Looked t m (Ok o) u → (ms : List Matrix) × IsGrown t ms u
  looked_grown h = let meets = (found t u m o h).meets in (meets.looked, meets.grown)

  -- a graph that is read of a table that has grown since was there at once
  pub graph_earlier : {v : Table} {k : ℕ} {graph : Graph} (ms : List Matrix) → o ≡ Some k → Looked t m (Ok o) u → IsGrown u ms v
      → graph_at v k ≡ Some graph → graph_at u k ≡ Some graph
  graph_earlier {v} {k} ms some h grown read =
      let f = found_entry t u m k (subst (λ p. Looked t m (Ok p) u) some h) in
      graph_at-entry u k m f.0 f.1 ∙ sym (graph_at-entry v k m f.0 (entry_stays u v ms grown k _ f.1)) ∙ read

  -- the matrix is one over a field
  pub looked_at : Looked t m (Ok o) u → (elements : List Vector) × IsLookedAt m elements
  looked_at h =
      let f = found t u m o h in
      (f.elements, look_plan_is t.limit m f.meets.looked f.elements f.meets.run)

  -- so questions on it make sense
  pub asks_rest : {A : Type 0} {r s : Table} {v w c : Vector} {next : Vector × Vector → Plan A} {end : Result A BaseFault}
      → Looked t m (Ok o) u → IsVector m.ring m.target v → IsReduction m v w c → Meets r (next (w, c)) end s
      → Meets r (ask (rest m v) next) end s
  asks_rest {w = w} {c = c} h vector reduction k =
      let at = (looked_at h).1 in meets_asks (w, c) (at.field, at.matrix, vector) reduction k

module _ {A : Type 0} {t u : Table} {m : Matrix} {next : List Vector → Plan A} where
  -- a look that ends in a fault
  pub look_fails : {fault : BaseFault} → Looked t m (Err fault) u → Meets t (look m next) (Err fault) u
  look_fails {fault} h = meets_fails next (found_fault t u m fault h)

  module _ {o : Option ℕ} where
    -- memory is wanting behind a look
    pub look_cut : Looked t m (Ok o) u → Meets t (look m next) (Err Memory) u
    look_cut h = meets_stops next (found t u m o h).meets

    module _ {v : Table} {end : Result A BaseFault} where
      -- whatever it found
      pub look_then : Looked t m (Ok o) u → ((elements : List Vector) → Meets u (next elements) end v)
          → Meets t (look m next) end v
      look_then h k = let f = found t u m o h in meets_then next f.meets (k f.elements)

      -- where there is no row
      pub look_skips : o ≡ None → Looked t m (Ok o) u → Meets u (next []) end v → Meets t (look m next) end v
      look_skips none h k = meets_then next (found_none t u m (subst (λ p. Looked t m (Ok p) u) none h)) k

      -- where it found an entry, of which this is the graph
      pub look_finds : {k : ℕ} {graph : Graph} → o ≡ Some k → Looked t m (Ok o) u → graph_at u k ≡ Some graph
          → ((elements : List Vector) → graph ≡ graph_of m elements → Meets u (next elements) end v)
          → Meets t (look m next) end v
      look_finds {k} {graph} some h read then =
          let f = found_entry t u m k (subst (λ p. Looked t m (Ok p) u) some h) in
          meets_then next f.2
          (then f.0 (same_graph graph (graph_of m f.0) (sym read ∙ graph_at-entry u k m f.0 f.1)))
