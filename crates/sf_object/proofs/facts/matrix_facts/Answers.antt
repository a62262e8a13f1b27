use Rattle.sf_matrix.proofs.Plans.LookRules.{field_of}
use Rattle.sf_object.proofs.facts.matrix_facts.Goals as goal

pub returns-clause-field : goal.returns-clause-field
returns-clause-field c = field_of c.args.m.now.ring c.modulus.result c.modulus.ensures.ring c.facts.ensures.prime
