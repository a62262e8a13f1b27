use Rattle.std.proofs.Common.{◌≡◌, ◌++◌, ◌<◌, rules, arith, Some, ap, sym, ◌∙◌, refl, min, length, ◌≤◌}
use Rattle.std.specs.List.{slice_get}
use Rattle.std.proofs.lemmas.Option.{slice_get_read, slice_get-get_or}
use Rattle.sf_algebra.specs.Monomials.{exponents}
use Rattle.sf_algebra.specs.Printing.{star, power_text}
use Rattle.sf_text.specs.Joins.{separator_after}
use Rattle.sf_text.proofs.JoinedItems.{written_all}
use Rattle.sf_text.proofs.PrintedTerms.{factors_from_more, factors_from-end}
use Rattle.sf_text.proofs.printing.term.print_factors.Goals as goal

pub loop-i-preserved : goal.loop-i-preserved
loop-i-preserved c =
    let variable : c.loop-i.i < 6 = omega arith in
    let name =
    slice_get_read c.args.names.now _ c.loop-i.i c.index-names-i.result refl (omega arith) c.index-names-i.is in
    let exponent : slice_get (exponents c.args.a) c.loop-i.i ≡ Some c.exponent-exponent.result =
    slice_get-get_or (exponents c.args.a) c.loop-i.i 0 variable ∙ ap Some (sym c.exponent-exponent.ensures.exponent) in
    let now : c.print_power.new.text.items ≡ c.loop-i.text.items ++ separator_after c.loop-i.follows star ++ power_text c.index-names-i.result c.exponent-exponent.result = search rules in
    factors_from_more c.loop-i.follows c.args.names.now
    (exponents c.args.a) c.loop-i.i _ _ name exponent _ _ _ c.loop-i.invariant (omega arith) now

pub returns : goal.returns
returns c = record {
  ok =
      let all : min (length c.args.names.now) 6 ≤ c.loop-i.i = omega arith in
      written_all _ c.loop-i.text.items _
      (factors_from-end c.loop-i.follows c.args.names.now (exponents c.args.a) c.loop-i.i all) c.loop-i.invariant;
}
