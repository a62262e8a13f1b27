use Rattle.std.proofs.Common.{◌≡◌, take, map}
use Rattle.sf_algebra.specs.Rings.{plain}
use Rattle.sf_groebner.specs.MinimalGenerators.{matrix_of}
use Rattle.sf_genmor.proofs.UnitRows.{unit_at}
use Rattle.sf_genmor.proofs.units.unit_basis.Given as goal

abbrev pub invariant-loop-place : goal.invariant-loop-place
invariant-loop-place l = l.basis ≡ matrix_of (plain l.fn.modulus) l.free.degrees (map unit_at (take l.place-index l.place-items))
