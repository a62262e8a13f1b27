use Rattle.std.proofs.Common.{◌≡◌, ◌≤◌, take, Some, slice_get, subst, refl, List, arith}
use Rattle.std.proofs.lemmas.Option.{slice_get_read}
use Rattle.sf_algebra.specs.Terms.{Term}
use Rattle.sf_algebra.specs.Vectors.{Place}
use Rattle.sf_variables.specs.Variables.{IsInVariables}
use Rattle.sf_variables.proofs.Keeping.Monomials.{IsInVariables-more}
use Rattle.sf_buchberger.proofs.DegreeBases.Exponents.{IsRowInVariables-more}
use Rattle.sf_buchberger.proofs.DegreeBases.Taken.{AllByRecursion-next}
use Rattle.sf_buchberger.proofs.counted.checks.variables_with.Goals as goal

pub loop-term-preserved : goal.loop-term-preserved
loop-term-preserved c =
    let ts = c.args.v.now.terms in
    let more : c.loop-term.most ≤ c.max-most.result = omega (arith, c.max-most.ensures) in
    let new : c.last_variable.result ≤ c.max-most.result = omega (arith, c.max-most.ensures) in
    let over : IsInVariables c.max-most.result c.term.inside.monomial =
    IsInVariables-more _ _ new c.term.inside.monomial c.last_variable.ensures.variables in
    let read : slice_get ts c.loop-term.term-index ≡ Some c.term-item.result =
    subst (λ (l : List (Term Place)). slice_get l c.loop-term.term-index ≡ Some c.term-item.result) c.terms-term-items.ensures.terms
    (slice_get_read c.terms-term-items.result.now _ c.loop-term.term-index c.term-item.result refl (omega (arith, c.loop-term-test.true)) c.term-item.is) in
    record {
      few = omega (arith, c.max-most.ensures, c.last_variable.ensures.few, c.loop-term.invariant.few);
      more = omega (arith, more, c.loop-term.invariant.more);
      variables =
          AllByRecursion-next (λ (t : Term Place). IsInVariables c.max-most.result t.at.monomial) ts c.loop-term.term-index c.term-item.result read
          (IsRowInVariables-more _ _ more (take c.loop-term.term-index ts) c.loop-term.invariant.variables)
          (subst (λ (t : Term Place). IsInVariables c.max-most.result t.at.monomial) c.term.view_is over);
    }
