-- Sums of vectors of two spans, in either order, and with a larger module.
use Rattle.std.proofs.Common.{◌≡◌, List, ◌∙◌, ap}
use Rattle.sf_algebra.specs.Matrices.{Matrix}
use Rattle.sf_algebra.specs.Rings.{Ring, IsRing}
use Rattle.sf_algebra.specs.VectorOperations.{row_sum}
use Rattle.sf_algebra.specs.Vectors.{Vector}
use Rattle.sf_algebra.proofs.Vectors.RowSums.{row_sum-comm}
use Rattle.sf_groebner.specs.MinimalGenerators.{IsInSum}
use Rattle.sf_groebner.specs.Spans.{InSpan}

pub sum-swap : (g h : Matrix) → IsRing g.ring → h.ring ≡ g.ring → (v : Vector) → IsInSum g.ring g.rows (InSpan h) v
    → IsInSum h.ring h.rows (InSpan g) v
sum-swap g h positive rings v k = record {
  first = k.second;
  second = k.first;
  in_module = k.in_span;
  in_span = k.in_module;
  first_degree = k.second_degree;
  second_degree = k.first_degree;
  sum = ap (λ q. row_sum q k.second.terms k.first.terms) rings
      ∙ row_sum-comm g.ring positive.modulus k.second.terms k.first.terms
      ∙ k.sum;
}

pub sum-within : (ring : Ring) (rows : List Vector) (B C : Vector → Type 0) → ((v : Vector) → B v → C v) → (v : Vector)
    → IsInSum ring rows B v → IsInSum ring rows C v
sum-within ring rows B C within v k = record {
  first = k.first;
  second = k.second;
  in_module = within k.first k.in_module;
  in_span = k.in_span;
  first_degree = k.first_degree;
  second_degree = k.second_degree;
  sum = k.sum;
}
