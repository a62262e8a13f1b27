use Rattle.std.proofs.Common.{◌≡◌, List, ap, ◌∙◌, sym, subst}
use Rattle.sf_object.specs.Shelves.{Shelved}
use Rattle.sf_script.specs.Headings.{limited, noted}
use Rattle.sf_script.specs.Names.{Env, with_name}
use Rattle.sf_session.specs.Sound.{IsSound}
use Rattle.sf_session.specs.State.{State, limit_of}
use Rattle.sf_session.proofs.Taken.{IsKept, kept_defined, kept_limited, no_entries}
use Rattle.sf_session.proofs.session.Session.take_over.Goals as goal

pub set_limit-requires-in-Limits-clause-none : goal.set_limit-requires-in-Limits-clause-none
set_limit-requires-in-Limits-clause-none g c =
    let early = rw c.in-Limits.is at c.requires.early in
    no_entries c.self.inside.store.entries (ap (λ (s : State). s.looked) c.self.view_is ∙ early.0)

pub invariant_of-self-in-Limits : goal.invariant_of-self-in-Limits
invariant_of-self-in-Limits g c =
    let early = rw c.in-Limits.is at c.requires.early in
    let sound = rw c.in-Limits.is at c.requires.sound in
    let same = ap (λ (s : State). s.env) c.self.view_is in
    let after = c.set_limit.ensures.limited ∙ ap (λ (env : Env). record env { heads = limited c.in-Limits.limit env.heads }) same in
    subst (λ (shelf : List Shelved). IsKept c.set_limit.new.self shelf c.set_limit-in-Limits.new.self) (sym c.new.ensures)
    (kept_limited c.self.inside.env c.self.inside.shelf c.self.inside.store c.set_limit-in-Limits.new.self c.in-Limits.limit
    c.set_limit.new.self c.set_limit.ensures.limited c.set_limit-in-Limits.ensures.empty
    (subst IsSound (sym after) sound)
    (subst (λ (env : Env). limit_of (limited c.in-Limits.limit env.heads) ≡ c.in-Limits.limit) (sym same) early.1)
    c.self.invariant)

pub invariant_of-self-in-Continue-1 : goal.invariant_of-self-in-Continue-1
invariant_of-self-in-Continue-1 g c =
    let low = rw c.in-Defines.is at c.requires.early in
    let sound = rw c.in-Defines.is at c.requires.sound in
    let same = ap (λ (s : State). s.env) c.self.view_is in
    let defined = c.in_ok-define-in-Defines.ensures.defined in
    let after =
    defined
    ∙ ap (λ (env : Env). record (with_name c.args.client c.in-Defines.name c.in-Defines.what env) { heads = noted env.heads }) same in
    kept_defined c.self.inside.env c.self.inside.shelf c.self.inside.store c.args.client c.in-Defines.name c.in-Defines.what c.define.new.env
    defined (subst IsSound (sym after) sound) low c.self.invariant
