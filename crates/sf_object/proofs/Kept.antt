-- What a table keeps: it stays, and to run the plan again adds nothing.
use Rattle.std.proofs.Common.{List, ◌++◌, Ok, Result, sym, subst}
use Rattle.sf_algebra.specs.Matrices.{Matrix}
use Rattle.sf_algebra.proofs.Basics.Lists.{AllByRecursion-append, AllByRecursion-back, AllByRecursion-front}
use Rattle.sf_matrix.specs.declared.basis.BaseFault.{BaseFault}
use Rattle.sf_matrix.specs.Meets.{Meets}
use Rattle.sf_matrix.specs.Plans.{Plan, bind}
use Rattle.sf_matrix.specs.Runs.{Run}
use Rattle.sf_matrix.specs.Tables.{Table, IsGrown, matrices_of}
use Rattle.sf_matrix.proofs.Plans.Growth.{AreAmong, grown_among, grown_stays, grown_there}
use Rattle.sf_matrix.proofs.Plans.Readings.{bind_is}
use Rattle.sf_matrix.proofs.Plans.Rules.{run_then}
use Rattle.sf_object.specs.Kept.{IsKept}

module _ {A : Type 0} {t : Table} {plan : Plan A} {a : A} where
  -- it stays while the table grows
  pub kept_stays : {u : Table} (ms : List Matrix) → IsGrown t ms u → IsKept t plan a → IsKept u plan a
  kept_stays {u} ms grown h = record {
    looked = h.looked;
    run = subst (λ limit. Run limit plan h.looked (Ok a)) (sym grown.limit) h.run;
    there = grown_stays t u ms h.looked grown h.there;
  }

  -- the table stays as it is where the plan is met again
  pub meets_kept : IsKept t plan a → Meets t plan (Ok a) t
  meets_kept h = record { looked = h.looked; run = h.run; grown = grown_there t h.looked h.there }

  -- what a call found is kept
  pub kept_found : {u : Table} → Meets t plan (Ok a) u → IsKept u plan a
  kept_found {u} h = record {
    looked = h.looked;
    run = subst (λ limit. Run limit plan h.looked (Ok a)) (sym h.grown.limit) h.run;
    there = grown_among t u h.looked h.grown;
  }

  -- and stays over whatever meets another plan
  pub kept_over : {B : Type 0} {other : Plan B} {end : Result B BaseFault} {u : Table} → Meets t other end u → IsKept t plan a
      → IsKept u plan a
  kept_over h k = kept_stays h.looked h.grown k

  -- of two plans one after the other both are kept
  pub kept_then : {B : Type 0} {b : B} (further : A → Plan B) → IsKept t plan a → IsKept t (further a) b
      → IsKept t (bind plan further) b
  kept_then {b = b} further h k = record {
    looked = h.looked ++ k.looked;
    run = run_then t.limit further plan h.looked k.looked a (Ok b) h.run k.run;
    there = AllByRecursion-append _ h.looked k.looked h.there k.there;
  }

pub record AreKeptBoth {A B : Type 0} (t : Table) (plan : Plan A) (further : A → Plan B) (b : B) : Type 0 where
  pub first : A
  pub kept : IsKept t plan first
  pub behind : IsKept t (further first) b

pub kept_both : {A B : Type 0} {t : Table} (plan : Plan A) (further : A → Plan B) {b : B} → IsKept t (bind plan further) b
    → AreKeptBoth t plan further b
kept_both {t = t} plan further {b = b} h =
    let parts = bind_is t.limit plan further h.looked b h.run in
    let there = subst (λ ms. AreAmong ms (matrices_of t.entries)) parts.5 h.there in
    record {
      first = parts.0;
      kept = record { looked = parts.1; run = parts.3; there = AllByRecursion-front _ parts.1 parts.2 there };
      behind = record { looked = parts.2; run = parts.4; there = AllByRecursion-back _ parts.1 parts.2 there };
    }
