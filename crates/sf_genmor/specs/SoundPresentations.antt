-- What all that plans of presentations answer has in common. (The bounds are this project's own.)
use Rattle.std.specs.Prelude.{◌≡◌, ℕ}
use Rattle.sf_algebra.specs.Matrices.{row_degrees, IsMatrix}
use Rattle.sf_algebra.specs.Rings.{Ring}
use Rattle.sf_genmor.specs.declared.presentation.Presentation.{Presentation}
use Rattle.sf_genmor.specs.PresentationDegrees.{HasSmallDegrees}

-- generators and relations are matrices over a ring, and their degrees exceed those of small matrices by at most the limit. So
-- the relations, over the free module of the generators' degrees, are those of a module that later lines may take.
pub record IsSoundOver (ring : Ring) (limit : ℕ) (p : Presentation) : Type 0 where
  pub generators : IsMatrix p.gens
  pub relations : IsMatrix p.rels
  pub generators_ring : p.gens.ring ≡ ring
  pub relations_ring : p.rels.ring ≡ ring
  pub relations_target : p.rels.target ≡ row_degrees p.gens
  pub degrees : HasSmallDegrees limit p
