-- The reduced basis of a matrix's graph with its elements, by which vectors can be divided, and what it gives. (Cox, Little,
-- O'Shea, "Using Algebraic Geometry", chapter 5, section 3; the bounds are this project's own.)
use Rattle.std.specs.Prelude.{◌≡◌, ℕ}
use Rattle.sf_algebra.specs.Matrices.{Matrix}
use Rattle.sf_groebner.specs.Small.{IsSmall}
use Rattle.sf_groebner.specs.Spans.{graph_degrees}
use Rattle.sf_groebner.proofs.Constructions.LeadDivisors.{lead_places}
use Rattle.sf_matrix.specs.Tables.{graph_of}
use Rattle.sf_buchberger.specs.declared.whole.GraphBasis.{GraphBasis}

-- m is small, and these are the elements of the reduced basis of its graph, their leads, and what they give
pub record IsWholeBasis (limit : ℕ) (m : Matrix) (b : GraphBasis) : Type 0 where
  pub ring : b.elements.ring ≡ m.ring
  pub target : b.elements.target ≡ graph_degrees m
  pub small : IsSmall limit m b.elements.rows
  pub leads : b.leads ≡ lead_places b.elements.rows
  pub graph : b.graph ≡ graph_of m b.elements.rows
