use Rattle.std.proofs.Common.{subst}
use Rattle.sf_algebra.specs.Rings.{Ring}
use Rattle.sf_algebra.specs.Terms.{IsCanonical}
use Rattle.sf_algebra.specs.Vectors.{place_cmp}
use Rattle.sf_minimal.proofs.Dividing.{over_plain, span-vector}
use Rattle.sf_minimal.proofs.quotients.quotients_of.Goals as goal

pub quotients-requires-clause-canonical : goal.quotients-requires-clause-canonical
quotients-requires-clause-canonical c =
    let m = c.args.cands.now in
    let facts = c.matrix_facts.ensures in
    subst (λ (r : Ring). IsCanonical (place_cmp r.weights) m.ring.modulus c.args.v.now.terms) facts.weights
    (span-vector m (over_plain m.ring facts.weights facts.prime) facts.matrix c.requires.basis c.args.v.now c.requires.inside).canonical
