use Rattle.std.proofs.Common.{◌≡◌, false, ap, ◌∙◌}
use Rattle.sf_matrix.specs.Tables.{Table, is_among, matrices_of}
use Rattle.sf_store.proofs.Entries.{AreLooks-push, matrices}
use Rattle.sf_store.proofs.looks.Looks.enter.Goals as goal

pub invariant_of-self-2 : goal.invariant_of-self-2
invariant_of-self-2 g c =
    let m = c.args.m.now in
    let missing : is_among m (matrices c.self.inside.items.items) ≡ false =
    ap (λ (t : Table). is_among m (matrices_of t.entries)) c.self.view_is ∙ c.requires.missing in
    rw (c.push_reserved.ensures.items, c.in_ok-reserve.ensures.items, c.in_ok-matrix.ensures.equal, c.in_ok-basis.ensures.ticked)
    (AreLooks-push _ _ _ c.self.invariant m c.in_ok-basis.basis c.in_ok-basis.ensures.found missing)
