-- What comes of a line may come: as long as headings are given nothing was looked at, and relations have moderate degrees.
use Rattle.std.proofs.Common.{◌≡◌, ℕ, ◌≤◌, false, List, [], ◌∷◌, Some, None, Result, Ok, Err, refl, sym, ap, ◌∙◌, subst, ◌≤ℤ◌, arith}
use Rattle.std.proofs.lemmas.Int.{ints}
use Rattle.std.specs.List.{AllByRecursion}
use Rattle.sf_algebra.specs.Matrices.{degrees_of}
use Rattle.sf_algebra.specs.Vectors.{Vector}
use Rattle.sf_genmor.specs.PresentationDegrees.{IsDegreeUpTo}
use Rattle.sf_matrix.specs.Meets.{Meets}
use Rattle.sf_matrix.specs.Runs.{Run}
use Rattle.sf_matrix.specs.Tables.{Table, add_all, matrices_of}
use Rattle.sf_matrix.specs.declared.basis.BaseFault.{BaseFault}
use Rattle.sf_script.specs.Headings.{HasLimit, limited}
use Rattle.sf_script.specs.SmallTerms.{HasSmallTerms}
use Rattle.sf_script.specs.declared.checked.Checked.TheVariants as checks
use Rattle.sf_script.specs.declared.checked.Checked.{Checked}
use Rattle.sf_script.specs.declared.heads.Heads.TheVariants.{Unopened, Opened, Within}
use Rattle.sf_script.specs.declared.heads.Heads.{Heads}
use Rattle.sf_session.specs.Outcomes.{outcome}
use Rattle.sf_session.specs.Settling.{IsOutcomeOf, MayCome, Settles}
use Rattle.sf_session.specs.Sound.{GREATEST_RELATION_DEGREE, IsSound}
use Rattle.sf_session.specs.SoundChecks.{IsSoundCheck}
use Rattle.sf_session.specs.State.{State, LooksOnceNoted, limit_of, looking}
use Rattle.sf_session.specs.Tasks.{Found, has_list, map_of, plan_of}
use Rattle.sf_session.specs.declared.outcome.Outcome.{Outcome}
use Rattle.sf_session.proofs.SessionRoom.{defined_low}
use Rattle.sf_session.proofs.SessionSteps.{unlooked}
use Rattle.sf_session.proofs.SoundStates.{map_between, query_sound}

-- the limit is at most 60
limit_high : (heads : Heads) → HasLimit heads → limit_of heads ≤ 60
limit_high Unopened h = omega arith
limit_high Opened h = omega arith
limit_high (Within setting) h = h.1

rows_low : (limit : ℕ) → limit ≤ 60 → (vs : List Vector) → AllByRecursion (IsDegreeUpTo limit) (degrees_of vs)
    → AllByRecursion (λ (v : Vector). v.degree ≤ℤ GREATEST_RELATION_DEGREE) vs
rows_low limit small [] h = tt
rows_low limit small (v ∷ vs) h = let high = h.0.1 in (omega (arith, ints, small, high), rows_low limit small vs h.1)

module _ (c : Checked) (old : State) (t u : Table) (limit : t.limit ≡ limit_of old.env.heads)
    (before : matrices_of t.entries ≡ old.looked) (sound : IsSound old.env) (check : IsSoundCheck old.env c)
    (small : HasSmallTerms c) (once : LooksOnceNoted old.env.heads old.looked) where
  -- a line without a working list leaves what was looked at
  same_looks : (end : Result (Found c) BaseFault) (met : Meets t (plan_of c) end u) → has_list c ≡ false
      → matrices_of u.entries ≡ old.looked
  same_looks end met e =
      let run = subst (λ n. Run n (plan_of c) met.looked end) limit met.run in
      let none = unlooked [] c old t u limit before end met.looked run e in
      met.grown.matrices ∙ ap (λ ks. add_all (matrices_of t.entries) ks) none ∙ before

  pub may_come : (out : Outcome) → Settles c t (Ok out) u
      → MayCome out (looking (has_list c) (record old { looked = matrices_of u.entries }))
  may_come out h = by h.end h.met h.told
    where
      after : State
      after = record old { looked = matrices_of u.entries }

      by : (end : Result (Found c) BaseFault) → Meets t (plan_of c) end u → IsOutcomeOf c end (Ok out)
          → MayCome out (looking (has_list c) (record old { looked = matrices_of u.entries }))
      by (Err fault) met told = absurd told
      by (Ok a) met told =
          subst (λ (o : Outcome). MayCome o (looking (has_list c) (record old { looked = matrices_of u.entries }))) (sym told)
          (comes c check small (same_looks (Ok a) met) a met)
        where
          comes : (c : Checked) → IsSoundCheck old.env c → HasSmallTerms c
              → (has_list c ≡ false → matrices_of u.entries ≡ old.looked) → (a : Found c) → Meets t (plan_of c) (Ok a) u
              → MayCome (outcome c a) (looking (has_list c) (record old { looked = matrices_of u.entries }))
          comes checks.Opens h small same a met =
              let none : LooksOnceNoted Unopened old.looked = rw h at once in
              (same refl ∙ none, ap limit_of h)
          comes (checks.Enters ring) h small same a met =
              let none : LooksOnceNoted Opened old.looked = rw h.opened at once in
              (same refl ∙ none, ap limit_of h.opened)
          comes (checks.Limits n) h small same a met =
              let none : LooksOnceNoted (Within h.setting) old.looked = rw h.within at once in
              let within : limit_of (limited n old.env.heads) ≡ n = rw h.within refl in
              (same refl ∙ none h.early, within, h.least, h.greatest)
          comes (checks.Defines name m) h small same a met = defined_low m h.module_in.generators h.own small
          comes (checks.Maps name f) h small same None met = tt
          comes (checks.Maps name f) h small same (Some k) met = tt
          comes (checks.Chains name c) h small same None met = tt
          comes (checks.Chains name c) h small same (Some k) met = tt
          comes (checks.Lets name q) h small same p met =
              let between = map_between (map_of q).source (map_of q).target (map_of q).matrix h.map_in.map in
              let degrees = (query_sound t.limit q met.looked p between met.run).degrees in
              let high : t.limit ≤ 60 = let low = limit_high old.env.heads sound.limit in omega (arith, limit, low) in
              rows_low t.limit high p.rels.rows degrees.relations
          comes (checks.Asks q) h small same a met = tt
          comes (checks.Shows what) h small same a met = tt
          comes (checks.Basis m) h small same a met = tt
          comes (checks.Syz m) h small same a met = tt
          comes (checks.Member m v) h small same a met = tt
          comes (checks.Lift m v) h small same None met = tt
          comes (checks.Lift m v) h small same (Some row) met = tt
          comes (checks.Resolves m k) h small same a met = tt
