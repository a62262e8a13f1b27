use Rattle.sf_groebner.proofs.Constructions.Rests.{basis_division, division_exists, reduced_vector_exists, rest_unique, rest_none}
use Rattle.sf_groebner.proofs.existence.each_vector_has_one_rest.Goals as goal

pub returns : goal.returns
returns c = record {
  exists = division_exists;
  by_bases = basis_division;
  unique = rest_unique;
  inside = rest_none;
  reduced = reduced_vector_exists;
}
