use Rattle.std.proofs.Common.{sym, ap, subst, ◌∙◌}
use Rattle.sf_algebra.specs.Rings.{Ring}
use Rattle.sf_algebra.specs.Terms.{IsCanonical}
use Rattle.sf_algebra.specs.Vectors.{IsVector, place_cmp}
use Rattle.sf_groebner.specs.Divisions.{IsDivided}
use Rattle.sf_matrix.specs.Bounds.{DegreeFits}
use Rattle.sf_reduce.specs.TermSums.{TermSum, sum_vector}
use Rattle.sf_minimal.proofs.Dividing.{no_rest_left, over_plain, row_room, span-vector}
use Rattle.sf_minimal.proofs.quotients.divided.Goals as goal

pub sum_of-requires : goal.sum_of-requires
sum_of-requires c =
    let m = c.args.cands.now in
    let facts = c.matrix_facts.ensures in
    record {
      canonical = subst (λ (r : Ring). IsCanonical (place_cmp r.weights) r.modulus c.args.v.now.terms) c.modulus.ensures.ring
          (span-vector m (over_plain m.ring facts.weights facts.prime) facts.matrix c.requires.basis c.args.v.now c.requires.inside).canonical;
    }

pub rest_of-requires-clause-vector : goal.rest_of-requires-clause-vector
rest_of-requires-clause-vector c =
    let m = c.args.cands.now in
    let facts = c.matrix_facts.ensures in
    subst (λ (s : TermSum). IsVector m.ring m.target (sum_vector s)) (sym c.in_ok-sum.ensures.sum)
    (span-vector m (over_plain m.ring facts.weights facts.prime) facts.matrix c.requires.basis c.args.v.now c.requires.inside)

pub rest_of-requires-clause-room : goal.rest_of-requires-clause-room
rest_of-requires-clause-room c =
    let m = c.args.cands.now in
    let facts = c.matrix_facts.ensures in
    subst (λ (s : TermSum). DegreeFits m.target s.degree) (sym c.in_ok-sum.ensures.sum)
    (row_room m (over_plain m.ring facts.weights facts.prime) facts.matrix c.requires.basis c.args.v.now.degree c.requires.degree)

pub returns : goal.returns
returns c =
    let m = c.args.cands.now in
    let v = c.args.v.now in
    let facts = c.matrix_facts.ensures in
    let sum = c.in_ok-sum.ensures.sum in
    record {
      divided = no_rest_left m (over_plain m.ring facts.weights facts.prime) facts.matrix c.requires.basis v c.in_ok-_rest._rest c.in_ok-_rest.quotients.items c.requires.inside
          (c.in_ok-_rest.ensures.degree ∙ ap (λ (s : TermSum). s.degree) sum)
          (subst (λ (s : TermSum). IsDivided m.ring m.target m.rows s.degree s.terms c.in_ok-_rest._rest.terms c.in_ok-_rest.quotients.items) sum c.in_ok-_rest.ensures.divided);
    }
