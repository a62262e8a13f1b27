-- What holds of horseshoes. (Weibel, "An Introduction to Homological Algebra", 2.2.8.)
use Rattle.std.specs.Prelude.{◌↔◌, ℕ, suc}
use Rattle.sf_algebra.specs.Matrices.{Matrix}
use Rattle.sf_algebra.specs.Rings.{IsRing}
use Rattle.sf_algebra.specs.Vectors.{Vector}
use Rattle.sf_groebner.specs.MinimalGenerators.{IsInSum}
use Rattle.sf_groebner.specs.Spans.{InSpan}
use Rattle.sf_homotopy.specs.Exactness.{IsExactPair}
use Rattle.sf_bidual.specs.Horseshoes.{IsHorseshoe, horseshoe}

-- they are exact
abbrev pub HasExactHorseshoes : Type 0
HasExactHorseshoes =
    (first last sides : ℕ → Matrix) → IsHorseshoe first last sides → (j : ℕ)
    → IsExactPair (horseshoe first last sides j) (horseshoe first last sides (suc j))

-- map 0 spans the sums of what map 0 of the first complex spans and what side 0 spans
abbrev pub HasHorseshoeSpans : Type 0
HasHorseshoeSpans =
    (first last sides : ℕ → Matrix) → IsHorseshoe first last sides → IsRing (first 0).ring → (v : Vector)
    → InSpan (horseshoe first last sides 0) v ↔ IsInSum (first 0).ring (first 0).rows (InSpan (sides 0)) v
