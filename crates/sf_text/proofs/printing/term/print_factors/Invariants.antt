use Rattle.std.proofs.Common.{◌≡◌, ◌++◌}
use Rattle.sf_algebra.specs.Monomials.{exponents}
use Rattle.sf_text.proofs.PrintedTerms.{factors_from}
use Rattle.sf_text.proofs.printing.term.print_factors.Given as goal

abbrev pub invariant-loop-i : goal.invariant-loop-i
invariant-loop-i l =
    l.text.items ++ factors_from l.follows l.names
    (exponents l.a) l.i ≡ l.initial.text.items ++ factors_from l.initial.follows l.names (exponents l.a) 0
