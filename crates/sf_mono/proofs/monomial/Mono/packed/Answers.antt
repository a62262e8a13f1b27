use Rattle.std.proofs.Common.{◌≤◌, rules, subst}
use Rattle.sf_algebra.specs.Bounds.{GREATEST_SUM}
use Rattle.sf_algebra.specs.Monomials.{from_exponents}
use Rattle.sf_algebra.specs.Numbers.{HasDigits}
use Rattle.sf_mono.proofs.Packing.{StandsFor-number}
use Rattle.sf_mono.proofs.monomial.Mono.packed.Goals as goal

pub invariant_of-result : goal.invariant_of-result
invariant_of-result c =
    let h : HasDigits (from_exponents c.args.exponents) = subst (λ n. n ≤ GREATEST_SUM) c.requires.total c.requires.fits in
    (StandsFor-number c.with_digit-4.result (from_exponents c.args.exponents) h (search rules)).packed

pub returns : goal.returns
returns c =
    let h : HasDigits (from_exponents c.args.exponents) = subst (λ n. n ≤ GREATEST_SUM) c.requires.total c.requires.fits in
    (StandsFor-number c.with_digit-4.result (from_exponents c.args.exponents) h (search rules)).monomial
