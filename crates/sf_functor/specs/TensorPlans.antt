-- The plan of the tensor product of two presented modules, and what its answer means. (Atiyah, Macdonald, "Introduction to Commutative
-- Algebra", chapter 2. The working list is this project's own.)
use Rattle.sf_algebra.specs.Matrices.{Matrix}
use Rattle.sf_algebra.specs.MatrixOperations.{degree_sums, stacked}
use Rattle.sf_groebner.specs.Homology.{IsAny}
use Rattle.sf_groebner.specs.Presentations.{IsPresentation}
use Rattle.sf_groebner.specs.Spans.{InSpan}
use Rattle.sf_matrix.specs.Plans.{Plan}
use Rattle.sf_genmor.specs.declared.presentation.Presentation.{Presentation}
use Rattle.sf_genmor.specs.LookPlans.{IsBasisMatrix}
use Rattle.sf_genmor.specs.QuotientPlans.{quotient_plan}
use Rattle.sf_functor.specs.Functors.{tensor_matrix, tensor_relations}

-- the relations of the first module with each generator of the second, then those of the second with each generator of the first
abbrev pub relations_between : Matrix → Matrix → Matrix
relations_between m n = stacked (tensor_matrix m n) (tensor_relations m.target n)

-- all pairs of generators modulo the span of these relations
unfoldable pub tensor_plan : Matrix → Matrix → Plan Presentation
tensor_plan m n = quotient_plan (relations_between m n)

-- generators and relations of the tensor product, and the reduced basis of the relations
pub record IsTensorOf (m n : Matrix) (p : Presentation) : Type 0 where
  pub presents : IsPresentation m.ring (degree_sums m.target n.target) (IsAny m.ring (degree_sums m.target n.target))
      (InSpan (relations_between m n)) p.gens p.rels
  pub reduced : IsBasisMatrix p.rels p.reduced_rels
