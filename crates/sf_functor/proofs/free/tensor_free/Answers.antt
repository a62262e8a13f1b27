use Rattle.std.proofs.Common.{sym, subst}
use Rattle.sf_algebra.specs.Matrices.{Matrix, row_degrees}
use Rattle.sf_algebra.specs.Rings.{plain}
use Rattle.sf_matrix.specs.Bounds.{SumsFit}
use Rattle.sf_functor.proofs.Rooms.{fits_first, sums_first}
use Rattle.sf_functor.proofs.free.tensor_free.Goals as goal

pub kron-requires-clause-degrees : goal.kron-requires-clause-degrees
kron-requires-clause-degrees c =
    sums_first c.in_ok-units.units (plain c.modulus.result) c.args.d.now.degrees c.in_ok-units.ensures.identity
    (row_degrees c.relations-relations.result.now)
    (subst (λ (m : Matrix). SumsFit c.args.d.now.degrees (row_degrees m)) (sym c.relations-relations.ensures.relations)
    c.requires.relations)

pub kron-requires-clause-room : goal.kron-requires-clause-room
kron-requires-clause-room c =
    fits_first c.in_ok-units.units (plain c.modulus.result) c.args.d.now.degrees c.in_ok-units.ensures.identity
    c.relations-relations.result.now.rows c.monomials_have_room.ensures.room
