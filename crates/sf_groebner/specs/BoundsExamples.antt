-- Both sides of the bounds within which bases are computed. (The examples are this project's own.)
use Rattle.std.specs.Prelude.{ℕ, [], replicate, ℤ, pos, neg_ℤ}
use Rattle.sf_algebra.specs.Bounds.{HasSmallSize}
use Rattle.sf_algebra.specs.Matrices.{Matrix}
use Rattle.sf_algebra.specs.Rings.{plain}
use Rattle.sf_groebner.specs.Small.{IsLarge}

-- so many rows over so many generators, where each row is 0 and all have one degree
abbrev pub zeros : ℕ → ℕ → ℤ → Matrix
zeros rows columns d =
    record { ring = plain 101; target = replicate columns d; rows = replicate rows (record { degree = d; terms = [] }) }

abbrev pub HasSmallSizeAtBounds : Type 0
HasSmallSizeAtBounds =
    HasSmallSize (zeros 4096 4096 (pos 8000)) × HasSmallSize (zeros 4096 4096 (neg_ℤ (pos 8000)))

abbrev pub RefusesOneMoreRow : Type 0
RefusesOneMoreRow = (limit : ℕ) → IsLarge limit (zeros 4097 1 (pos 0))

abbrev pub RefusesOneMoreColumn : Type 0
RefusesOneMoreColumn = (limit : ℕ) → IsLarge limit (zeros 0 4097 (pos 0))

abbrev pub RefusesGreaterDegree : Type 0
RefusesGreaterDegree = (limit : ℕ) → IsLarge limit (zeros 1 1 (pos 8001))

abbrev pub RefusesLesserDegree : Type 0
RefusesLesserDegree = (limit : ℕ) → IsLarge limit (zeros 1 1 (neg_ℤ (pos 8001)))
