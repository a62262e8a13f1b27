use Rattle.std.proofs.Common.{◌≡◌, false, map, Some, IsSome, slice_get, sym, ◌∙◌, ap, subst, rules, refl}
use Rattle.sf_matrix.specs.Tables.{Table, is_among, matrices_of}
use Rattle.sf_store.specs.Looks.{entry_of}
use Rattle.sf_store.proofs.Openings.{Opened-entered, Opened-there, slice_get-entered}
use Rattle.sf_store.proofs.looks.Looks.open.Goals as goal

pub returns-in-Some : goal.returns-in-Some
returns-in-Some g c =
    let m = c.args.m.now in
    let k = c.in-Some.k in
    let there : slice_get (matrices_of c.args.self.now.entries) k ≡ Some m =
    ap (λ (t : Table). slice_get (matrices_of t.entries) k) (sym c.self.view_is)
    ∙ ap (λ ls. slice_get (matrices_of (map entry_of ls)) k) (sym c.deref.ensures.value)
    ∙ c.in-Some.ensures.found in
    record { opened = Opened-there c.args.self.now m k c.told.result there c.told.ensures.told }

pub told-requires-2 : goal.told-requires-2
told-requires-2 g c =
    let h = c.in_ok-k.ensures in
    let there = slice_get-entered c.args.self.now c.enter.new.self c.args.m.now c.in_ok-k.k h.entered h.number in
    record { entry = subst IsSome (sym there) refl }

pub returns : goal.returns
returns g c =
    let missing : is_among c.args.m.now (matrices_of c.args.self.now.entries) ≡ false = search rules in
    record {
      opened = Opened-entered c.args.self.now c.enter.new.self c.args.m.now c.in_ok-k.k c.told-2.result missing
          c.in_ok-k.ensures.entered c.in_ok-k.ensures.number c.told-2.ensures.told;
    }
