use Rattle.std.proofs.Common.{◌≡◌, ◌-◌, suc, sym, arith}
use Rattle.sf_algebra.specs.Vectors.{Place}
use Rattle.sf_minimal.specs.Numbers.{pivot_place}
use Rattle.sf_minimal.proofs.FreeNumbers.{is_taken-divisor}
use Rattle.sf_minimal.proofs.degrees.has_pivot.Goals as goal

pub returns-in-Some : goal.returns-in-Some
returns-in-Some c =
    let n = c.args.rows in
    let i = c.args.i in
    let k : Place = record { position = n - 1 - i; monomial = c.one.result } in
    let same : n - 1 - i ≡ n - suc i = omega arith in
    let place : k ≡ pivot_place n i = λ x. record { position = same x; monomial = c.one.ensures.one x } in
    record { taken = sym (is_taken-divisor c.args.taken.now n i k place c.in-Some.field-0 c.in-Some.ensures.within c.in-Some.ensures.divisor) }
