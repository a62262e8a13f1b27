-- The reply to a line that gives no limit is fixed by the accepted headings and the names, and a query changes neither.
use Rattle.std.proofs.Common.{◌≡◌, ℕ, Bool, true, false, List, [], ◌∷◌, ◌++◌, Some, None, Result, Ok, Err, refl, sym, ap, ◌∙◌, subst}
use Rattle.std.specs.List.{AllByRecursion}
use Rattle.std.specs.Prelude.{MatchResult}
use Rattle.sf_algebra.specs.Matrices.{Matrix}
use Rattle.sf_algebra.specs.Vectors.{Vector}
use Rattle.sf_matrix.specs.declared.basis.BaseFault.TheVariants as ends
use Rattle.sf_matrix.specs.declared.basis.BaseFault.{BaseFault}
use Rattle.sf_matrix.specs.Runs.{Run}
use Rattle.sf_script.specs.Grammar.{Reading, Silent, Malformed, Read, line_of}
use Rattle.sf_script.specs.Headings.{limited, noted}
use Rattle.sf_script.specs.Names.{Env}
use Rattle.sf_script.specs.Refusals.{checked, checked_query, checked_name, module_named, checked_vector, checked_resolve}
use Rattle.sf_script.specs.declared.checked.Checked.TheVariants as checks
use Rattle.sf_script.specs.declared.checked.Checked.{Checked}
use Rattle.sf_script.specs.declared.command.Command.TheVariants.{Spectral, Ring, Limit, Module, Map, Complex, Let, Ask, Show, Basis, Syz, Member, Lift, Resolve, Later}
use Rattle.sf_script.specs.declared.command.Command.{Command}
use Rattle.sf_script.specs.declared.fault.LineFault.TheVariants as faults
use Rattle.sf_script.specs.declared.fault.LineFault.{LineFault}
use Rattle.sf_script.specs.declared.heads.Heads.TheVariants.{Unopened, Opened, Within}
use Rattle.sf_script.specs.declared.heads.Heads.{Heads}
use Rattle.sf_script.specs.declared.heads.Setting.{Setting}
use Rattle.sf_session.specs.Agreement.{Agree, with_note, gives_limit, gives_limit_command, is_query, is_query_command}
use Rattle.sf_session.specs.Laws.{IsFixedByNames, ChangesNoAnswer, GivesNoLimit}
use Rattle.sf_session.specs.Outcomes.{outcome, outcome_text, refused, state_after}
use Rattle.sf_session.specs.Replies.{Comes, Given, Executed, Carried, Answered, Step}
use Rattle.sf_session.specs.Scripts.{Answers}
use Rattle.sf_session.specs.State.{State, start, limit_of, noted_state, variables_of, with_looks}
use Rattle.sf_session.specs.Tasks.{Found, plan_of}
use Rattle.sf_session.specs.declared.outcome.Outcome.TheVariants as outs
use Rattle.sf_session.specs.declared.outcome.Outcome.{Outcome}
use Rattle.sf_session.proofs.Checks.{both_ok}
use Rattle.sf_session.proofs.OneOutput.{Answers-append, IsOne-Answers, answers_sound, start_sound}
use Rattle.sf_session.proofs.OneReply.{step_one}

-- headings that agree differ in the note alone
note_of : (h k : Heads) → with_note false h ≡ with_note false k → (b : Bool) × (k ≡ with_note b h)
note_of Unopened Unopened e = (false, refl)
note_of Unopened Opened e = cc
note_of Unopened (Within setting) e = cc
note_of Opened Unopened e = cc
note_of Opened Opened e = (false, refl)
note_of Opened (Within setting) e = cc
note_of (Within setting) Unopened e = cc
note_of (Within setting) Opened e = cc
note_of (Within setting) (Within other) e =
    (other.noted, λ i. Within (record (same (record other { noted = false }) (record setting { noted = false }) (sym e) i) { noted = other.noted }))
  where
    same : (x y : Setting) → Within x ≡ Within y → x ≡ y
    same x y f = cc

note_note : (b c : Bool) (h : Heads) → with_note b (with_note c h) ≡ with_note b h
note_note b c Unopened = refl
note_note b c Opened = refl
note_note b c (Within setting) = refl

noted_agrees : (b : Bool) (h : Heads) → with_note b (noted h) ≡ with_note b h
noted_agrees b Unopened = refl
noted_agrees b Opened = refl
noted_agrees b (Within setting) = refl

variables_agree : (b : Bool) (h : Heads) → variables_of (with_note b h) ≡ variables_of h
variables_agree b Unopened = refl
variables_agree b Opened = refl
variables_agree b (Within setting) = refl

limits_agree : (b : Bool) (h : Heads) → limit_of (with_note b h) ≡ limit_of h
limits_agree b Unopened = refl
limits_agree b Opened = refl
limits_agree b (Within setting) = refl

limited_agrees : (b : Bool) (n : ℕ) (h : Heads) → with_note b (limited n (with_note b h)) ≡ with_note b (limited n h)
limited_agrees b n Unopened = refl
limited_agrees b n Opened = refl
limited_agrees b n (Within setting) = refl

-- the same names, with headings that differ in the note
abbrev noted_env : Bool → Env → Env
noted_env b env = record env { heads = with_note b env.heads }

-- but for a limit the tests of a line don't see the note
checked_over : (b : Bool) (env : Env) (client : List ℕ) (command : Command) → gives_limit_command command ≡ false
    → checked (noted_env b env) client command ≡ checked env client command
checked_over b env client command none = by env.heads command none
  where
    by : (heads : Heads) (command : Command) → gives_limit_command command ≡ false
        → checked (record env { heads = with_note b heads }) client command ≡ checked (record env { heads = heads }) client command
    by Unopened command e = refl
    by Opened command e = refl
    by (Within setting) (Spectral version) e = refl
    by (Within setting) (Ring modulus names) e = refl
    by (Within setting) (Limit limit) e = cc
    by (Within setting) (Module name degrees relations) e = refl
    by (Within setting) (Map name source target matrix) e = refl
    by (Within setting) (Complex name maps) e = refl
    by (Within setting) (Let name query) e = asked query
      where
        asked : (q : _) → checked (record env { heads = with_note b (Within setting) }) client (Let name q)
            ≡ checked (record env { heads = Within setting }) client (Let name q)
        asked q = ap (λ r. r) refl
    by (Within setting) (Ask query) e = refl
    by (Within setting) (Show name) e = refl
    by (Within setting) (Basis name) e = refl
    by (Within setting) (Syz name) e = refl
    by (Within setting) (Member name vector) e = refl
    by (Within setting) (Lift name vector) e = refl
    by (Within setting) (Resolve name steps) e = refl
    by (Within setting) Later e = refl

-- a reply that one state gives the other gives too, and they go on to agree
abbrev CarriesOver : (List ℕ → State → Type 0) → (List ℕ → State → Type 0) → Type 0
CarriesOver P Q = (text : List ℕ) (new : State) → P text new → (other : State) × Q text other × Agree new other

module _ (b : Bool) (s t : State) (heads : t.env.heads ≡ with_note b s.env.heads) (clients : t.env.clients ≡ s.env.clients) where
  same_heads : (ms ns : List Matrix) → Agree (record s { looked = ms }) (record t { looked = ns })
  same_heads ms ns = record {
    heads = sym (ap (with_note false) heads ∙ note_note false b s.env.heads);
    clients = sym clients;
  }

  noted_both : (ms ns : List Matrix) → Agree (noted_state (record s { looked = ms })) (noted_state (record t { looked = ns }))
  noted_both ms ns = record {
    heads = noted_agrees false s.env.heads ∙ (same_heads ms ns).heads ∙ sym (noted_agrees false t.env.heads);
    clients = sym clients;
  }

  limited_both : (n : ℕ) → with_note false (limited n s.env.heads) ≡ with_note false (limited n t.env.heads)
  limited_both n =
      sym (limited_agrees false n s.env.heads)
      ∙ ap (λ h. with_note false (limited n h)) (same_heads [] []).heads
      ∙ limited_agrees false n t.env.heads

  -- the same outcome leaves states that agree
  after_both : (client : List ℕ) (out : Outcome) (ms ns : List Matrix)
      → Agree (state_after client out (record s { looked = ms })) (state_after client out (record t { looked = ns }))
  after_both client (outs.Tells reply) ms ns = noted_both ms ns
  after_both client outs.Opens ms ns = record { heads = refl; clients = sym clients }
  after_both client (outs.Enters ring) ms ns = record { heads = refl; clients = sym clients }
  after_both client (outs.Limits n) ms ns = record { heads = limited_both n; clients = sym clients }
  after_both client (outs.Defines name what) ms ns = record {
    heads = (noted_both ms ns).heads;
    clients = ap (λ cs. (state_after client (outs.Defines name what) (record s { env = record s.env { clients = cs } })).env.clients) (sym clients);
  }
  after_both client (outs.Refuses fault) ms ns = noted_both ms ns
  after_both client (outs.Bars fault) ms ns = same_heads ms ns

  comes_over : (client : List ℕ) (out : Outcome) (ms ns : List Matrix)
      → CarriesOver (Comes client out (record s { looked = ms })) (Comes client out (record t { looked = ns }))
  comes_over client out ms ns text new h = (
    state_after client out (record t { looked = ns }),
    (h.0 ∙ ap (λ names. outcome_text names out) (sym (ap variables_of heads ∙ variables_agree b s.env.heads)), refl),
    subst (λ (u : State). Agree u (state_after client out (record t { looked = ns }))) (sym h.1) (after_both client out ms ns),
  )

  executed_over : (client : List ℕ) (c : Checked) → CarriesOver (Executed client c s) (Executed client c t)
  executed_over client c text new h = by h.end h.run h.given
    where
      limit : limit_of s.env.heads ≡ limit_of t.env.heads
      limit = sym (ap limit_of heads ∙ limits_agree b s.env.heads)

      moved : (end : Result (Found c) BaseFault) → Run (limit_of s.env.heads) (plan_of c) h.looked end
          → Run (limit_of t.env.heads) (plan_of c) h.looked end
      moved end run = subst (λ n. Run n (plan_of c) h.looked end) limit run

      by : (end : Result (Found c) BaseFault) → Run (limit_of s.env.heads) (plan_of c) h.looked end
          → Given client c end (with_looks h.looked s) text new → (other : State) × Executed client c t text other × Agree new other
      by (Ok a) run given =
          let there = comes_over client (outcome c given.0) (with_looks h.looked s).looked (with_looks h.looked t).looked text new given.2 in
          (there.0, record { looked = h.looked; end = Ok a; run = moved (Ok a) run; given = (given.0, given.1, there.1) }, there.2)
      by (Err ends.Memory) run given = absurd given
      by (Err (ends.Large rows cols)) run given =
          let there = comes_over client (outs.Refuses (faults.Large rows cols)) (with_looks h.looked s).looked (with_looks h.looked t).looked text new given in
          (there.0, record { looked = h.looked; end = Err (ends.Large rows cols); run = moved (Err (ends.Large rows cols)) run; given = there.1 }, there.2)

  same_env : t.env ≡ noted_env b s.env
  same_env = λ i. record { heads = heads i; clients = clients i }

  carried_over : (client : List ℕ) (command : Command) → gives_limit_command command ≡ false
      → CarriesOver (Carried client command s) (Carried client command t)
  carried_over client command none text new h =
      by (checked s.env client command)
      (ap (λ env. checked env client command) same_env ∙ checked_over b s.env client command none) h
    where
      by : (r : Result Checked LineFault) → checked t.env client command ≡ r
          → MatchResult r (λ c. Executed client c s text new) (λ fault. Comes client (refused command fault) s text new)
          → (other : State) × Carried client command t text other × Agree new other
      by (Ok c) e k = let there = executed_over client c text new k in (there.0, rw e there.1, there.2)
      by (Err fault) e k =
          let there = comes_over client (refused command fault) s.looked t.looked text new k in (there.0, rw e there.1, there.2)

  answered_over : (line : List ℕ) (r : Reading) → gives_limit r ≡ false → CarriesOver (Answered line r s) (Answered line r t)
  answered_over line Silent none text new h =
      (t, (h.0, refl), subst (λ (u : State). Agree u t) (sym h.1) (same_heads s.looked t.looked))
  answered_over line Malformed none text new h =
      let there = comes_over [] (outs.Refuses (faults.Syntax h.0)) s.looked t.looked text new h.2 in
      (there.0, (h.0, h.1, there.1), there.2)
  answered_over line (Read l) none text new h = carried_over l.client l.command none text new h

pub step_over : (s t : State) → Agree s t → (line : List ℕ) → GivesNoLimit line → CarriesOver (Step s line) (Step t line)
step_over s t agree line none text new h =
    let found = note_of s.env.heads t.env.heads agree.heads in
    answered_over found.0 s t found.1 (sym agree.clients) line (line_of line) none text new h

-- a query tells something or is refused
abbrev IsTold : Outcome → Type 0
IsTold (outs.Tells reply) = Unit {0}
IsTold outs.Opens = ⊥
IsTold (outs.Enters ring) = ⊥
IsTold (outs.Limits limit) = ⊥
IsTold (outs.Defines name what) = ⊥
IsTold (outs.Refuses fault) = Unit {0}
IsTold (outs.Bars fault) = ⊥

abbrev TellsAll : Checked → Type 0
TellsAll c = (a : Found c) → IsTold (outcome c a)

refused_told : (command : Command) → is_query_command command ≡ true → (fault : LineFault) → IsTold (refused command fault)
refused_told (Spectral version) e fault = cc
refused_told (Ring modulus names) e fault = cc
refused_told (Limit limit) e fault = cc
refused_told (Module name degrees relations) e fault = cc
refused_told (Map name source target matrix) e fault = cc
refused_told (Complex name maps) e fault = cc
refused_told (Let name query) e fault = cc
refused_told (Ask query) e fault = tt
refused_told (Show name) e fault = tt
refused_told (Basis name) e fault = tt
refused_told (Syz name) e fault = tt
refused_told (Member name vector) e fault = tt
refused_told (Lift name vector) e fault = tt
refused_told (Resolve name steps) e fault = tt
refused_told Later e fault = tt

lift_told : (m : Matrix) (v : Vector) → TellsAll (checks.Lift m v)
lift_told m v None = tt
lift_told m v (Some c) = tt

-- what a query asks for tells something
asked_told : (env : Env) (client : List ℕ) (command : Command) (c : Checked) → is_query_command command ≡ true
    → checked env client command ≡ Ok c → TellsAll c
asked_told env client (Spectral version) c q e = cc
asked_told env client (Ring modulus names) c q e = cc
asked_told env client (Limit limit) c q e = cc
asked_told env client (Module name degrees relations) c q e = cc
asked_told env client (Map name source target matrix) c q e = cc
asked_told env client (Complex name maps) c q e = cc
asked_told env client (Let name query) c q e = cc
asked_told env client (Ask query) c q e =
    let u = both_ok (checked_query env client query) _ c e in
    let same : checks.Asks u.0 ≡ c = cc in subst TellsAll same (λ a. tt)
asked_told env client (Show name) c q e =
    let u = both_ok (checked_name env client name) _ c e in
    let same : checks.Shows u.0 ≡ c = cc in subst TellsAll same (λ a. tt)
asked_told env client (Basis name) c q e =
    let u = both_ok (module_named env client name) _ c e in
    let same : checks.Basis u.0 ≡ c = cc in subst TellsAll same (λ a. tt)
asked_told env client (Syz name) c q e =
    let u = both_ok (module_named env client name) _ c e in
    let same : checks.Syz u.0 ≡ c = cc in subst TellsAll same (λ a. tt)
asked_told env client (Member name vector) c q e =
    let u = both_ok (checked_vector env client name vector.rows) _ c e in
    let same : checks.Member u.0.0 u.0.1 ≡ c = cc in subst TellsAll same (λ a. tt)
asked_told env client (Lift name vector) c q e =
    let u = both_ok (checked_vector env client name vector.rows) _ c e in
    let same : checks.Lift u.0.0 u.0.1 ≡ c = cc in subst TellsAll same (lift_told u.0.0 u.0.1)
asked_told env client (Resolve name steps) c q e =
    let u = both_ok (checked_resolve env client name steps) _ c e in
    let same : checks.Resolves u.0.0 u.0.1 ≡ c = cc in subst TellsAll same (λ a. tt)
asked_told env client Later c q e = cc

-- a query keeps the headings and the names
module _ (s : State) where
  abbrev Keeps : (List ℕ → State → Type 0) → Type 0
  Keeps P = (text : List ℕ) (new : State) → P text new → Agree s new

  noted_keeps : (ms : List Matrix) → Agree s (noted_state (record s { looked = ms }))
  noted_keeps ms = record { heads = sym (noted_agrees false s.env.heads); clients = refl }

  comes_keep : (client : List ℕ) (out : Outcome) → IsTold out → (ms : List Matrix) → Keeps (Comes client out (record s { looked = ms }))
  comes_keep client (outs.Tells reply) told ms text new h = subst (Agree s) (sym h.1) (noted_keeps ms)
  comes_keep client outs.Opens told ms text new h = absurd told
  comes_keep client (outs.Enters ring) told ms text new h = absurd told
  comes_keep client (outs.Limits limit) told ms text new h = absurd told
  comes_keep client (outs.Defines name what) told ms text new h = absurd told
  comes_keep client (outs.Refuses fault) told ms text new h = subst (Agree s) (sym h.1) (noted_keeps ms)
  comes_keep client (outs.Bars fault) told ms text new h = absurd told

  given_keeps : (client : List ℕ) (c : Checked) → TellsAll c → (ms : List Matrix) (end : Result (Found c) BaseFault)
      → Keeps (Given client c end (record s { looked = ms }))
  given_keeps client c told ms (Ok a) text new h = comes_keep client (outcome c h.0) (told h.0) ms text new h.2
  given_keeps client c told ms (Err ends.Memory) text new h = absurd h
  given_keeps client c told ms (Err (ends.Large rows cols)) text new h =
      comes_keep client (outs.Refuses (faults.Large rows cols)) tt ms text new h

  command_keeps : (client : List ℕ) (command : Command) → is_query_command command ≡ true → Keeps (Carried client command s)
  command_keeps client command q text new h = by (checked s.env client command) refl h
    where
      by : (r : Result Checked LineFault) → checked s.env client command ≡ r
          → MatchResult r (λ c. Executed client c s text new) (λ fault. Comes client (refused command fault) s text new) → Agree s new
      by (Ok c) e k =
          given_keeps client c (asked_told s.env client command c q e) (with_looks k.looked s).looked k.end text new k.given
      by (Err fault) e k = comes_keep client (refused command fault) (refused_told command q fault) s.looked text new k

  line_keeps : (line : List ℕ) (r : Reading) → is_query r ≡ true → Keeps (Answered line r s)
  line_keeps line Silent e text new h = subst (Agree s) (sym h.1) (record { heads = refl; clients = refl })
  line_keeps line Malformed e text new h = comes_keep [] (outs.Refuses (faults.Syntax h.0)) tt s.looked text new h.2
  line_keeps line (Read l) e text new h = command_keeps l.client l.command e text new h

-- some lines carry over as one does
answers_over : (s t : State) → Agree s t → (lines : List (List ℕ)) → AllByRecursion GivesNoLimit lines
    → CarriesOver (Answers s lines) (Answers t lines)
answers_over s t agree [] none out new h = (t, (h.0, refl), subst (λ u. Agree u t) (sym h.1) agree)
answers_over s t agree (line ∷ lines) none out new h =
    let first = step_over s t agree line none.0 h.0 h.2 h.3 in
    let others = answers_over h.2 first.0 first.2 lines none.1 h.1 new h.4 in
    (others.0, (h.0, h.1, first.0, first.1, others.1, h.5), others.2)

pub fixed_by_names : IsFixedByNames
fixed_by_names first others s t out more hs ht agree line none reply h =
    let one = IsOne-Answers start start_sound first in
    let same = (one.only h.0 h.1 h.3).1 ∙ sym (one.only out s hs).1 in
    let step = step_over s t agree line none reply h.2 (subst (λ u. Step u line reply h.2) same h.4) in
    (more, t, step.0, ht, step.1)

turned : (s t : State) → Agree s t → Agree t s
turned s t agree = record { heads = sym agree.heads; clients = sym agree.clients }

pub changes_no_answer : ChangesNoAnswer
changes_no_answer earlier later query line asks none_later none reply =
    let before = IsOne-Answers start start_sound earlier in
    let sound = answers_sound start earlier before.reply before.state start_sound before.met in
    let asked = step_one before.state query sound in
    let kept = line_keeps before.state query (line_of query) asks asked.reply asked.state asked.met in
    let after = IsOne-Answers before.state sound later in
    let over = answers_over before.state asked.state kept later none_later after.reply after.state after.met in
    let without = Answers-append start before.state after.state earlier later before.reply after.reply before.met after.met in
    let with_query =
    Answers-append start before.state over.0 earlier (query ∷ later) before.reply (asked.reply ++ after.reply) before.met
    (asked.reply, after.reply, asked.state, asked.met, over.1, refl) in (
      fixed_by_names (earlier ++ later) (earlier ++ query ∷ later) after.state over.0 _ _ without with_query over.2 line none reply,
      fixed_by_names (earlier ++ query ∷ later) (earlier ++ later) over.0 after.state _ _ with_query without
          (turned after.state over.0 over.2) line none reply,
    )
