use Rattle.sf_functor.proofs.Pairs.{adds_degrees, repeats_relations, spreads_entries, spreads_transposed_entries, subtracts_degrees}
use Rattle.sf_functor.proofs.laws.free_functors_have_pairs.Goals as goal

pub returns : goal.returns
returns c = record { tensor_degrees = adds_degrees; hom_degrees = subtracts_degrees; relations = repeats_relations; tensor_entries = spreads_entries; hom_entries = spreads_transposed_entries }
