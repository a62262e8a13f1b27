use Rattle.sf_bidual.proofs.Examples.EmbeddedPoint.{embedded-bidual, embedded-parts, embedded-submodule, no-embedded_maps, refuses-without_point}
use Rattle.sf_bidual.proofs.embedded.embedded_point.Goals as goal

pub returns : goal.returns
returns c = record {
  bidual = embedded-bidual;
  maps = no-embedded_maps;
  parts = embedded-parts;
  submodule = embedded-submodule;
  line = refuses-without_point;
}
