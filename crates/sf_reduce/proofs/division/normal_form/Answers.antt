use Rattle.std.proofs.Common.{◌≡◌, to_z, of_z, w32, sym, ap, ◌∙◌, subst, arith, rules}
use Rattle.sf_algebra.specs.Rings.{IsRing, Ring, plain}
use Rattle.sf_algebra.specs.Terms.{IsCanonical}
use Rattle.sf_algebra.specs.Vectors.{IsVector, place_cmp}
use Rattle.sf_algebra.specs.Sums.{normal}
use Rattle.sf_algebra.proofs.Monomials.Weights.{plain_ring}
use Rattle.sf_groebner.specs.Divisions.{IsDivided, IsDivision}
use Rattle.sf_matrix.specs.Bounds.{DegreeFits}
use Rattle.sf_reduce.specs.TermSums.{TermSum, sum_vector}
use Rattle.sf_reduce.proofs.DivisionLoops.{IsDivision-steps}
use Rattle.sf_reduce.proofs.division.normal_form.Goals as goal

pub sum_of-requires : goal.sum_of-requires
sum_of-requires c = record {
  canonical = subst (λ (r : Ring). IsCanonical (place_cmp r.weights) r.modulus c.args.v.now.terms) c.modulus-modulus.ensures.ring c.requires.vector.canonical;
}

pub rest_of-requires : goal.rest_of-requires
rest_of-requires c =
    let same = c.in_ok-sum.ensures.sum in
    record {
      ring = c.modulus-modulus.ensures.ring ∙ ap (λ (s : TermSum). plain s.modulus) (sym same);
      vector = subst (λ (s : TermSum). IsVector c.args.basis.now.ring c.args.basis.now.target (sum_vector s)) (sym same) c.requires.vector;
      monic = c.requires.monic;
      leads = c.in_ok-leads.ensures.leads;
      room = subst (λ (s : TermSum). DegreeFits c.args.basis.now.target s.degree) (sym same) c.requires.room;
    }

pub returns : goal.returns
returns c =
    let m = c.args.basis.now in
    let v = c.args.v.now in
    let rest = c.in_ok-rest.rest in
    let steps = c.in_ok-rest.steps.items in
    let same = c.in_ok-sum.ensures.sum in
    let rings = c.modulus-modulus.ensures.ring in
    let positive = subst IsRing (sym c.basis_facts.ensures.weights) (plain_ring m.ring.modulus (omega (arith, c.basis_facts.ensures.prime.above_one))) in
    let divided = subst (λ (s : TermSum). IsDivided m.ring m.target m.rows s.degree s.terms rest.terms steps) same c.in_ok-rest.ensures.divided in
    let degree = c.in_ok-rest.ensures.degree ∙ ap (λ (s : TermSum). s.degree) same in
    let fits : to_z w32 (of_z w32 c.degree.result) ≡ v.degree = search rules in
    let quotients : c.in_ok-quotients.quotients ≡ record { degree = v.degree; terms = normal (place_cmp m.ring.weights) m.ring.modulus steps } =
    c.in_ok-quotients.ensures.ok
    ∙ (λ i. record { degree = fits i; terms = normal (place_cmp (sym rings i).weights) (sym rings i).modulus (c.deref.ensures.value i) }) in
    record {
      division = subst (IsDivision m.ring m.target m.rows v rest) (sym quotients)
          (IsDivision-steps m.ring positive m.target m.rows v rest steps degree divided);
    }
