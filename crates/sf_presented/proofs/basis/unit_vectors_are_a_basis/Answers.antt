use Rattle.sf_presented.proofs.FreeBases.{reduced-identity, reduced-any}
use Rattle.sf_presented.proofs.basis.unit_vectors_are_a_basis.Goals as goal

pub returns : goal.returns
returns c = record { identity = reduced-identity; all = reduced-any }
