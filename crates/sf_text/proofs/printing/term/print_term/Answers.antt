use Rattle.std.proofs.Common.{◌≡◌, ◌++◌, true, sym, ap, ◌∙◌, append_assoc, rules, arith}
use Rattle.std.specs.Fmt.{decimal}
use Rattle.std.proofs.lemmas.Result.{on_ok_weaker}
use Rattle.sf_algebra.specs.Monomials.{exponents}
use Rattle.sf_algebra.specs.Printing.{star, factor_texts, term_text}
use Rattle.sf_text.specs.Joins.{joined_after}
use Rattle.sf_text.proofs.PrintedTerms.{term_text-bare, term_text-one, term_text-coefficient}
use Rattle.sf_text.proofs.printing.term.print_term.Goals.{else-coefficient-eq1-via-then-coefficient-eq1+else-sum-gt0, else-coefficient-eq1-via-else-coefficient-eq1}
use Rattle.sf_text.proofs.printing.term.print_term.Goals as goal

pub returns-then-sum-gt0 : goal.returns-then-sum-gt0
returns-then-sum-gt0 c = record {
  ok =
      let bare = term_text-bare c.args.names.now c.args.a c.args.coefficient c.if-coefficient-eq1.true (omega arith) in
      on_ok_weaker c.print_factors.result
      (λ e. e ∙ ap (λ t. c.args.text.now.items ++ t) (sym bare)) c.print_factors.ensures.ok;
}

pub returns : goal.returns
returns c = record {
  ok =
      let factors = joined_after true star (factor_texts c.args.names.now (exponents c.args.a)) in
      let shown : term_text c.args.names.now (record { at = c.args.a; coefficient = c.args.coefficient }) ≡ decimal c.args.coefficient ++ factors =
      elim c.else-coefficient-eq1.branch [
        | else-coefficient-eq1-via-then-coefficient-eq1+else-sum-gt0 w ↦ term_text-one c.args.names.now c.args.a c.args.coefficient w.if-coefficient-eq1.true (omega arith)
        | else-coefficient-eq1-via-else-coefficient-eq1 w ↦ term_text-coefficient c.args.names.now c.args.a c.args.coefficient w.if-coefficient-eq1.false
      ] in
      let number : c.extend_from_slice.new.self.items ≡ c.args.text.now.items ++ decimal c.args.coefficient =
      search rules in
      on_ok_weaker c.print_factors-2.result
      (λ e. e ∙ ap (λ t. t ++ factors) number ∙ append_assoc c.args.text.now.items (decimal c.args.coefficient) factors ∙ ap (λ t. c.args.text.now.items ++ t) (sym shown))
      c.print_factors-2.ensures.ok;
}
