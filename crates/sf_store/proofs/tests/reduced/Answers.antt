use Rattle.std.proofs.Common.{IfSome, sym, subst}
use Rattle.sf_algebra.specs.Matrices.{Matrix}
use Rattle.sf_algebra.specs.Vectors.{IsVector}
use Rattle.sf_store.proofs.Openings.{matrix_at-opened}
use Rattle.sf_store.proofs.tests.reduced.Goals as goal

pub reduce-requires-clause-vector : goal.reduce-requires-clause-vector
reduce-requires-clause-vector g c =
    let m : Matrix = c.in_ok-m.m in
    let t = g.B.Bases.table c.open.new.self in
    let vector : IsVector m.ring m.target c.args.v.now = rw (c.in_ok-m.ensures.ring, c.in_ok-m.ensures.target) c.requires.vector in
    subst (λ o. IfSome o (λ x. IsVector x.ring x.target c.args.v.now)) (sym (matrix_at-opened t c.in-Ok.k m c.in-Ok.ensures.0)) vector
