use Rattle.std.proofs.Common.{◌≡◌, ◌≤◌, nat_le, length, filter, take}
use Rattle.sf_algebra.specs.Vectors.{Place}
use Rattle.sf_buchberger.proofs.counted.columns.sources.Given as goal

abbrev pub invariant-loop-place : goal.invariant-loop-place
invariant-loop-place l =
    (l.count ≡ length (filter (λ (k : Place). nat_le l.target k.position) (take l.place-index l.columns)))
    × (l.count ≤ l.place-index)
