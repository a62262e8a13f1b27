use Rattle.std.proofs.Common.{◌≡◌, ℕ, sym, ap, subst, ◌∙◌}
use Rattle.sf_algebra.specs.Divisibility.{Divides, quotient}
use Rattle.sf_algebra.specs.Primes.{IsPrime}
use Rattle.sf_algebra.specs.Residues.{negative_mod}
use Rattle.sf_algebra.specs.Rings.{Ring, ones, plain}
use Rattle.sf_algebra.specs.Terms.{IsCanonical, Term}
use Rattle.sf_algebra.specs.VectorOperations.{row_multiple, row_sum}
use Rattle.sf_algebra.specs.Vectors.{Place, place_cmp}
use Rattle.sf_groebner.specs.Criterion.{lead_at}
use Rattle.sf_groebner.specs.Divisions.{step_factor}
use Rattle.sf_matrix.specs.Bounds.{HasRoom}
use Rattle.sf_reduce.proofs.DivisionLoops.{HasRoom-step, left_over-negative, tail-canonical}
use Rattle.sf_reduce.proofs.division.take_away.Goals as goal

-- the prime by which the sum goes is that of the matrix
prime_of : (p q : ℕ) (ring : Ring) → ring ≡ plain q → ring ≡ plain p → IsPrime q → IsPrime p
prime_of p q ring h k prime = subst IsPrime (ap (λ (r : Ring). r.modulus) (sym h ∙ k)) prime

pub quotient-monomial-requires : goal.quotient-monomial-requires
quotient-monomial-requires c =
    let t = ap (λ (u : Term Place). u.at.monomial) c.first.view_is in
    let lead = ap (λ (u : Term Place). u.at.monomial) c.lead.view_is ∙ ap (λ (k : Place). k.monomial) c.lead_and_tail.ensures.lead in
    record { divisor = subst (λ a. Divides a c.first.inside.monomial) (sym lead) (subst (Divides (lead_at c.args.basis.now.rows c.args.i).monomial) (sym t) c.requires.divides.1) }

pub push_multiple-requires-clause-canonical : goal.push_multiple-requires-clause-canonical
push_multiple-requires-clause-canonical c =
    let m = c.args.basis.now in
    let p = c.args.left.now.modulus in
    let prime = prime_of p c.modulus-modulus.result m.ring c.modulus-modulus.ensures.ring c.requires.ring c.facts.ensures.prime in
    subst (IsCanonical (place_cmp ones) p) (sym c.lead_and_tail.ensures.tail)
    (tail-canonical m c.lead_and_tail.ensures.matrix c.requires.monic p prime c.requires.ring c.args.i c.requires.row c.args.first.now c.requires.residue c.requires.divides)

pub push_multiple-requires-clause-room : goal.push_multiple-requires-clause-room
push_multiple-requires-clause-room c =
    let m = c.args.basis.now in
    let p = c.args.left.now.modulus in
    let prime = prime_of p c.modulus-modulus.result m.ring c.modulus-modulus.ensures.ring c.requires.ring c.facts.ensures.prime in
    let t = ap (λ (u : Term Place). u.at.monomial) c.first.view_is in
    let lead = ap (λ (u : Term Place). u.at.monomial) c.lead.view_is ∙ ap (λ (k : Place). k.monomial) c.lead_and_tail.ensures.lead in
    let monomial : c.quotient-monomial.result ≡ (step_factor m.rows c.args.i c.args.first.now).at =
    c.quotient-monomial.ensures.quotient ∙ (λ j. quotient (t j) (lead j)) in
    subst (λ a. HasRoom a c.lead_and_tail.result.1.now) (sym monomial)
    (subst (HasRoom (step_factor m.rows c.args.i c.args.first.now).at) (sym c.lead_and_tail.ensures.tail)
    (HasRoom-step m c.lead_and_tail.ensures.matrix c.requires.monic p prime c.requires.ring c.args.i c.requires.row c.args.first.now c.requires.residue c.requires.divides c.args.left.now.degree c.requires.degree c.requires.room))

pub returns : goal.returns
returns c =
    let m = c.args.basis.now in
    let p = c.args.left.now.modulus in
    let same = ap (λ (r : Ring). r.modulus) (sym c.modulus-modulus.ensures.ring ∙ c.requires.ring) in
    let prime = prime_of p c.modulus-modulus.result m.ring c.modulus-modulus.ensures.ring c.requires.ring c.facts.ensures.prime in
    let first = c.args.first.now in
    let t = ap (λ (u : Term Place). u.at.monomial) c.first.view_is in
    let coefficient = ap (λ (u : Term Place). u.coefficient) c.first.view_is in
    let lead = ap (λ (u : Term Place). u.at.monomial) c.lead.view_is ∙ ap (λ (k : Place). k.monomial) c.lead_and_tail.ensures.lead in
    let monomial : c.quotient-monomial.result ≡ (step_factor m.rows c.args.i first).at =
    c.quotient-monomial.ensures.quotient ∙ (λ j. quotient (t j) (lead j)) in
    let negative : c.neg.result ≡ negative_mod p first.coefficient =
    c.neg.ensures.negative ∙ (λ j. negative_mod (same j) (coefficient j)) in
    let taken = c.in_ok-push_multiple.ensures in
    record {
      modulus = taken.modulus;
      degree = taken.degree;
      left =
          taken.sum
          ∙ (λ j. row_sum (plain p) c.args.left.now.terms (row_multiple (plain p) (record { at = monomial j; coefficient = negative j }) (c.lead_and_tail.ensures.tail j)))
          ∙ left_over-negative m c.lead_and_tail.ensures.matrix c.requires.monic p prime c.requires.ring c.args.i c.requires.row first c.requires.residue c.requires.divides c.args.left.now.terms;
      step = λ j. record { at = record { position = c.args.i; monomial = monomial j }; coefficient = coefficient j };
    }
