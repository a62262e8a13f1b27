use Rattle.std.proofs.Common.{sym}
use Rattle.sf_algebra.specs.Matrices.{row_degrees}
use Rattle.sf_algebra.specs.Rings.{IsRing}
use Rattle.sf_algebra.proofs.Monomials.Weights.{field_ring}
use Rattle.sf_groebner.specs.Presentations.{IsZero, IsRelation}
use Rattle.sf_groebner.specs.Spans.{InSpan}
use Rattle.sf_groebner.proofs.Spanning.SpanCombinations.{span_submodule, span_submodule_of}
use Rattle.sf_groebner.proofs.Uniqueness.GeneratingBases.{AreMinimal-generate}
use Rattle.sf_groebner.proofs.Uniqueness.Homology.{one_span_basis, one_cycle_basis}
use Rattle.sf_groebner.proofs.Uniqueness.MinimalGenerators.{unique_minimal}
use Rattle.sf_groebner.proofs.minimal.minimal_generators_are_unique.Goals as goal

pub returns : goal.returns
returns c = record {
  span = λ m base positive matrix. unique_minimal m.ring m.target (InSpan m) (InSpan base) (one_span_basis m.ring positive m (λ i. m.ring) matrix);
  relations = λ m base positive rings matrix.
      unique_minimal m.ring (row_degrees m) (IsRelation m (InSpan base)) IsZero
      (one_cycle_basis m.ring positive m base (λ i. m.ring) (sym rings) matrix);
  generate = λ m base prime rings targets matrix other.
      let positive : IsRing m.ring = field_ring prime in
      AreMinimal-generate m.ring prime m.target (InSpan m) (InSpan base) (span_submodule m positive matrix)
      (span_submodule_of m.ring positive m.target base (sym rings) (sym targets) other);
}
