use Rattle.std.proofs.Common.{◌≡◌, [], ◌∷◌, ◌++◌, ap, sym, ◌∙◌, arith, ℤ, pos, ◌≤ℤ◌, ◌+ℤ◌}
use Rattle.std.proofs.lemmas.Int.{ints}
use Rattle.std.proofs.lemmas.List.{map-append}
use Rattle.sf_algebra.specs.Bounds.{GREATEST_SUM}
use Rattle.sf_algebra.specs.Matrices.{Matrix}
use Rattle.sf_algebra.specs.Vectors.{Vector}
use Rattle.sf_algebra.proofs.Basics.Lists.{AllByRecursion-weaken}
use Rattle.sf_algebra.proofs.Monomials.Weights.{field_ring}
use Rattle.sf_groebner.specs.Criterion.{lead_place}
use Rattle.sf_groebner.proofs.Constructions.LeadDivisors.{lead_places}
use Rattle.sf_minimal.proofs.Dividing.{over_plain}
use Rattle.sf_minimal.proofs.Entering.{IsEntered-empty, IsEntered-pivot, IsEntered-spanned}
use Rattle.sf_minimal.proofs.pivots.enter_constants.Goals as goal

pub returns-then-is_empty : goal.returns-then-is_empty
returns-then-is_empty c =
    let m = c.args.pivots.now in
    let positive = field_ring (over_plain m.ring c.matrix_facts.ensures.weights c.matrix_facts.ensures.prime) in
    record { entered = IsEntered-empty m positive c.requires.pivots c.args.constants.now.terms (c.is_empty.ensures.empty.0 c.if-is_empty.true); taken = c.requires.taken }

pub normal_form-requires-clause-room : goal.normal_form-requires-clause-room
normal_form-requires-clause-room c =
    AllByRecursion-weaken (λ (e : ℤ). e ≡ pos 0) (λ (e : ℤ). c.args.constants.now.degree ≤ℤ (e +ℤ pos GREATEST_SUM))
    (λ e zero. let degree = c.requires.degree in omega (arith, ints, zero, degree))
    c.args.pivots.now.target c.requires.pivots.target

pub returns-in_default : goal.returns-in_default
returns-in_default c =
    let m = c.args.pivots.now in
    let positive = field_ring (over_plain m.ring c.matrix_facts.ensures.weights c.matrix_facts.ensures.prime) in
    record {
      entered = IsEntered-spanned m positive c.requires.pivots c.matrix_facts.ensures.matrix c.args.constants.now c.in_ok-rest.rest c.in_ok-rest._quotients c.requires.degree c.in_ok-rest.ensures.division c.in_default.ensures.first;
      taken = c.requires.taken;
    }

pub returns : goal.returns
returns c =
    let m = c.args.pivots.now in
    let positive = field_ring (over_plain m.ring c.matrix_facts.ensures.weights c.matrix_facts.ensures.prime) in
    let lead : lead_place c.in_ok-pivot.pivot.terms ≡ c.in-Some.lead.now.at = c.in_ok-pivot.ensures.multiple.place ∙ ap lead_place c.in-Some.ensures.first in
    record {
      entered = IsEntered-pivot m positive c.requires.pivots c.matrix_facts.ensures.matrix c.args.constants.now c.in_ok-rest.rest c.in_ok-rest._quotients c.requires.degree c.in_ok-rest.ensures.division
          c.in_ok-pivot.pivot c.in_ok-pivot.ensures.multiple (λ e. let clash = sym e ∙ c.in-Some.ensures.first in cc) c.push_row.new.self c.in_ok-push_row.ensures.ok;
      taken = c.in_ok-push.ensures.ok
          ∙ (λ x. c.requires.taken x ++ sym lead x ∷ [])
          ∙ sym (map-append (λ (v : Vector). lead_place v.terms) m.rows (c.in_ok-pivot.pivot ∷ []))
          ∙ sym (ap (λ (x : Matrix). lead_places x.rows) c.in_ok-push_row.ensures.ok);
    }
