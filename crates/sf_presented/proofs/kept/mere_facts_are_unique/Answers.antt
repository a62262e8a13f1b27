use Rattle.sf_presented.proofs.KeptFacts.{merely-span_basis, merely-minimal_span, merely-minimal_relations, merely-homology, merely-kernel, merely-image, merely-cokernel, merely-first_step, merely-next_step, merely-resolution, merely-coordinates}
use Rattle.sf_presented.proofs.kept.mere_facts_are_unique.Goals as goal

pub returns : goal.returns
returns c = record {
  span_basis = merely-span_basis;
  minimal_span = merely-minimal_span;
  minimal_relations = merely-minimal_relations;
  homology = merely-homology;
  kernel = merely-kernel;
  image = merely-image;
  cokernel = merely-cokernel;
  first_step = merely-first_step;
  next_step = merely-next_step;
  resolution = merely-resolution;
  coordinates = merely-coordinates;
}
