use Rattle.std.proofs.Common.{sym, subst}
use Rattle.sf_algebra.specs.Matrices.{row_degrees}
use Rattle.sf_algebra.specs.Rings.{plain}
use Rattle.sf_matrix.specs.Bounds.{SumsFit}
use Rattle.sf_functor.proofs.Rooms.{fits_second, sums_second}
use Rattle.sf_functor.proofs.maps.tensor_map.Goals as goal

pub kron-requires-clause-degrees : goal.kron-requires-clause-degrees
kron-requires-clause-degrees c =
    sums_second c.in_ok-units.units (plain c.modulus.result) c.free.result.now.degrees c.in_ok-units.ensures.identity
    (row_degrees c.args.a.now)
    (subst (λ ds. SumsFit (row_degrees c.args.a.now) ds) (sym c.free.ensures.degrees) c.requires.source)

pub kron-requires-clause-room : goal.kron-requires-clause-room
kron-requires-clause-room c =
    fits_second c.in_ok-units.units (plain c.modulus.result) c.free.result.now.degrees c.in_ok-units.ensures.identity
    c.args.a.now.rows c.monomials_have_room.ensures.room
