use Rattle.sf_text.proofs.PlacedTerms.{AreExponents}
use Rattle.sf_text.proofs.placing.term.monomial_of.Given as goal

abbrev pub invariant-loop-place : goal.invariant-loop-place
invariant-loop-place l = AreExponents l.factors l.names l.place l.exponents
