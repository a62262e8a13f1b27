use Rattle.std.proofs.Common.{◌≡◌, IfSome}
use Rattle.std.specs.List.{AllByRecursion}
use Rattle.std.proofs.lemmas.Result.{IfOk-weaker}
use Rattle.sf_algebra.specs.Printing.{star}
use Rattle.sf_text.specs.MatrixText.{all_of, factor_written}
use Rattle.sf_grammar.specs.Words.{parts}
use Rattle.sf_text.proofs.SmallTerms.{all_of-small, IsSmallFactor}
use Rattle.sf_text.proofs.matrix_text.factors_of.Goals as goal

pub returns-in-Some-clause-small : goal.returns-in-Some-clause-small
returns-in-Some-clause-small c =
    let texts = parts star c.in-Some.text.now in
    IfOk-weaker c.read_parts.result (λ r. r ≡ all_of factor_written texts) (λ r. IfSome r (AllByRecursion IsSmallFactor))
    (λ r e. rw e (all_of-small texts)) c.read_parts.ensures
