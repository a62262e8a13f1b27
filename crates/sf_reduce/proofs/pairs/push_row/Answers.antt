use Rattle.std.proofs.Common.{sym, ap, subst, ◌∙◌}
use Rattle.sf_algebra.specs.MatrixOperations.{row_at}
use Rattle.sf_algebra.specs.Primes.{IsPrime}
use Rattle.sf_algebra.specs.Matrices.{degrees_of}
use Rattle.sf_algebra.specs.Rings.{Ring, plain}
use Rattle.sf_algebra.specs.Terms.{Term}
use Rattle.sf_algebra.specs.VectorOperations.{row_multiple, row_sum}
use Rattle.sf_algebra.specs.Vectors.{IsTermOfDegree, Place}
use Rattle.sf_algebra.proofs.Multiplying.Gathering.{row_at-slice_get}
use Rattle.sf_matrix.specs.Bounds.{HasRoom}
use Rattle.sf_matrix.specs.Places.{factor_of}
use Rattle.sf_reduce.proofs.DivisionLoops.{HasRoom-coefficient}
use Rattle.sf_reduce.proofs.pairs.push_row.Goals as goal

pub push_multiple-requires-clause-room : goal.push_multiple-requires-clause-room
push_multiple-requires-clause-room c =
    let m = c.args.basis.now in
    let t = c.args.coefficient.now in
    let p = c.args.sum.now.modulus in
    let position = ap (λ (u : Term Place). u.at.position) c.coefficient.view_is in
    let row = c.terms.ensures.terms ∙ sym (row_at-slice_get m.rows c.coefficient.inside.position c.row-row.result.now c.row-row.ensures.row) ∙ ap (row_at m.rows) position in
    let prime = subst IsPrime (ap (λ (r : Ring). r.modulus) c.requires.ring) c.basis_facts.ensures.prime in
    let degree = subst (λ (r : Ring). IsTermOfDegree r.weights (degrees_of m.rows) c.args.sum.now.degree t) (sym c.requires.ring) c.requires.degree in
    subst (HasRoom t.at.monomial) (sym row)
    (HasRoom-coefficient m c.basis_facts.ensures.matrix c.requires.monic p prime c.requires.ring c.args.sum.now.degree t c.requires.residue degree c.requires.room)

pub returns-clause-sum : goal.returns-clause-sum
returns-clause-sum c =
    let m = c.args.basis.now in
    let t = c.args.coefficient.now in
    let p = c.args.sum.now.modulus in
    let position = ap (λ (u : Term Place). u.at.position) c.coefficient.view_is in
    let row = c.terms.ensures.terms ∙ sym (row_at-slice_get m.rows c.coefficient.inside.position c.row-row.result.now c.row-row.ensures.row) ∙ ap (row_at m.rows) position in
    c.in_ok-push_multiple.ensures.sum
    ∙ ap (λ us. row_sum (plain p) c.args.sum.now.terms (row_multiple (plain p) (factor_of t) us)) row
