use Rattle.sf_groebner.proofs.PartsOfBases.GraphVectors.{graph_vector, graph_vector-coefficients, graph_vector-unique}
use Rattle.sf_groebner.proofs.Spanning.GraphMatrices.{graph_matrix-span}
use Rattle.sf_groebner.proofs.graph.graph_vectors_are_pairs.Goals as goal

pub returns : goal.returns
returns c = record { exists = graph_vector; unique = graph_vector-unique; coefficients = graph_vector-coefficients; rows = graph_matrix-span }
