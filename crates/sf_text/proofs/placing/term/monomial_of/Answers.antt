use Rattle.std.proofs.Common.{◌≡◌, ◌≤◌, ◌∙◌, ap, sym, subst, length, arith}
use Rattle.sf_algebra.specs.Monomials.{exponent_sum}
use Rattle.sf_text.specs.Placed.{GREATEST_WRITTEN_SUM, monomial_of}
use Rattle.sf_text.specs.Raw.{RawTerm}
use Rattle.sf_text.proofs.PlacedTerms.{HasSmallExponents, AreExponents_more, AreExponents-fit, AreExponents-monomial, AreExponents-small}
use Rattle.sf_text.proofs.placing.term.monomial_of.Goals as goal

pub loop-place-preserved : goal.loop-place-preserved
loop-place-preserved c =
    rw c.exponent_in.ensures.sum
    (AreExponents_more _ _ _ _ c.loop-place.invariant c.index-names-place.result c.loop-place-test.true c.requires.few c.index-names-place.is)

pub unwrap-requires : goal.unwrap-requires
unwrap-requires c =
    let few : length c.as_slice-factors.result.now ≤ 6 = rw c.as_slice-factors.ensures.items c.term.invariant.few in
    let small : HasSmallExponents c.as_slice-factors.result.now =
    rw c.as_slice-factors.ensures.items c.term.invariant.small in
    c.from_exponents.ensures.fits.1 (AreExponents-fit _ _ _ _ c.loop-place.invariant few small)

pub returns-clause-monomial : goal.returns-clause-monomial
returns-clause-monomial c =
    let all : length c.args.names.now ≡ c.loop-place.place = omega arith in
    let factors = c.as_slice-factors.ensures.items ∙ ap (λ (t : RawTerm). t.factors) c.term.view_is in
    rw c.unwrap.ensures at c.from_exponents.ensures.value ∙ AreExponents-monomial _ _ _ _ c.loop-place.invariant all
    ∙ ap (monomial_of c.args.names.now) factors

pub returns-clause-small : goal.returns-clause-small
returns-clause-small c =
    let few : length c.as_slice-factors.result.now ≤ 6 = rw c.as_slice-factors.ensures.items c.term.invariant.few in
    let small : HasSmallExponents c.as_slice-factors.result.now =
    rw c.as_slice-factors.ensures.items c.term.invariant.small in
    let value = rw c.unwrap.ensures at c.from_exponents.ensures.value in
    subst (λ a. exponent_sum a ≤ GREATEST_WRITTEN_SUM) (sym value)
    (AreExponents-small _ _ _ _ c.loop-place.invariant few small)
