-- The presentation of a span modulo another one. (Textbook; the choice of generators and relations is this project's own.)
use Rattle.sf_algebra.specs.Matrices.{Matrix}
use Rattle.sf_groebner.specs.Presentations.{IsPresentation}
use Rattle.sf_groebner.specs.Spans.{InSpan}
use Rattle.sf_genmor.specs.declared.presentation.Presentation.{Presentation}
use Rattle.sf_genmor.specs.LookPlans.{IsBasisMatrix}

-- its generators and relations, and the reduced basis of the relations
pub record PresentsSpan (n base : Matrix) (p : Presentation) : Type 0 where
  pub presentation : IsPresentation n.ring n.target (InSpan n) (InSpan base) p.gens p.rels
  pub reduced : IsBasisMatrix p.rels p.reduced_rels
