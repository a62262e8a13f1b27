-- That c is the lift of v is met in one way at most: there is one reduced basis of the syzygies.
use Rattle.std.proofs.Common.{◌≡◌}
use Rattle.std.proofs.Props.{props}
use mathlib.Core.HLevel.{is_prop→PathP}
use Rattle.sf_algebra.specs.Matrices.{Matrix, row_degrees}
use Rattle.sf_algebra.specs.Rings.{IsRing}
use Rattle.sf_algebra.specs.Vectors.{Vector}
use Rattle.sf_groebner.specs.Lifts.{IsLift}
use Rattle.sf_groebner.specs.ReducedBases.{IsReducedBy, IsSyzygyBasis}
use Rattle.sf_groebner.specs.Spans.{combined, IsSyzygy}
use Rattle.sf_algebra.proofs.Vectors.VectorProps.{IsVector-prop}
use Rattle.sf_groebner.proofs.Basics.Propositions.{IsReducedBy-prop, syzygy_basis-prop}
use Rattle.sf_groebner.proofs.Spanning.Spans.{syzygy_module}
use Rattle.sf_groebner.proofs.Uniqueness.UniqueBases.{unique_reduced}

same_vectors-prop : (v w : Vector) → IsProp (v ≡ w)
same_vectors-prop v w = hlevel props

pub IsLift-prop : (m : Matrix) → IsRing m.ring → (v c : Vector) → IsProp (IsLift m v c)
IsLift-prop m positive v c h k =
    let bases : h.syzygies ≡ k.syzygies =
    unique_reduced m.ring positive (row_degrees m) (IsSyzygy m)
    (syzygy_module m positive) h.syzygies k.syzygies h.basis k.basis in
    let basis = is_prop→PathP (λ i. IsSyzygyBasis m (bases i)) (λ i. syzygy_basis-prop m (bases i)) h.basis k.basis in
    let reduced =
    is_prop→PathP (λ i. IsReducedBy (bases i) c.terms) (λ i. IsReducedBy-prop (bases i) c.terms) h.reduced k.reduced in
    λ i. record {
      syzygies = bases i;
      basis = basis i;
      coefficients = IsVector-prop m.ring (row_degrees m) c h.coefficients k.coefficients i;
      value = same_vectors-prop (combined m c) v h.value k.value i;
      reduced = reduced i;
    }
