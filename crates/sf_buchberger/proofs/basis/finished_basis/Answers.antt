use Rattle.std.proofs.Common.{ap}
use Rattle.sf_algebra.specs.Rings.{IsOverField}
use Rattle.sf_buchberger.proofs.FinishedRows.{field_ones, grown-room, small_rows}
use Rattle.sf_buchberger.proofs.basis.finished_basis.Goals as goal

pub reduced_rows-requires-clause-room : goal.reduced_rows-requires-clause-room
reduced_rows-requires-clause-room c =
    grown-room c.args.limit c.args.m.now c.args.rows.now c.requires.size c.requires.grown c.requires.limit

pub cut_basis-requires : goal.cut_basis-requires
cut_basis-requires c =
    let m = c.args.m.now in
    let prime : IsOverField m.ring = rw c.modulus.ensures.ring (field_ones c.modulus.result c.facts.ensures.prime) in
    let small = small_rows c.args.limit m c.args.rows.now c.requires.size c.requires.grown prime c.requires.matrix c.in_ok-reduced_rows.field-0.items c.in_ok-reduced_rows.ensures.tails in
    let sorted = ap (λ r. r.weights) c.modulus.ensures.ring in
    record { small = rw (c.in_ok-elements.ensures.sorted, ← sorted) small }
