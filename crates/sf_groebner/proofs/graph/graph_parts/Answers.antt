use Rattle.sf_groebner.proofs.PartsOfBases.GraphVectors.{graph_lifts-each}
use Rattle.sf_groebner.proofs.PartsOfBases.GraphParts.{reduced-span, reduced-syzygies}
use Rattle.sf_groebner.proofs.graph.graph_parts.Goals as goal

pub returns : goal.returns
returns c = record { span = reduced-span; syzygies = reduced-syzygies; lifts = graph_lifts-each }
