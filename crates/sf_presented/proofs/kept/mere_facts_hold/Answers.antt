use Rattle.sf_presented.proofs.KeptFacts.{kept-span_basis, kept-minimal_span, kept-minimal_relations, kept-InSpan, kept-reduced, kept-homology, kept-kernel, kept-image, kept-cokernel, kept-first_step, kept-next_step, kept-resolution, kept-coordinates, kept-module_map, kept-inverse}
use Rattle.sf_presented.proofs.kept.mere_facts_hold.Goals as goal

pub returns : goal.returns
returns c = record {
  span_basis = kept-span_basis;
  minimal_span = kept-minimal_span;
  minimal_relations = kept-minimal_relations;
  homology = kept-homology;
  kernel = kept-kernel;
  image = kept-image;
  cokernel = kept-cokernel;
  first_step = kept-first_step;
  next_step = kept-next_step;
  resolution = kept-resolution;
  inside = kept-InSpan;
  reduced = kept-reduced;
  coordinates = kept-coordinates;
  maps = kept-module_map;
  inverses = kept-inverse;
}
