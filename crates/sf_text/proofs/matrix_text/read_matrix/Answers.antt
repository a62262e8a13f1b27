use Rattle.std.proofs.Common.{◌≡◌, ◌+◌, sym, ◌∙◌, None, subst}
use Rattle.std.proofs.lemmas.Result.{err_from_is_err_and}
use Rattle.sf_grammar.specs.Reaches.{IsColumn}
use Rattle.sf_text.specs.MatrixText.{matrix_written}
use Rattle.sf_text.specs.MatrixReaches.{is_matrix}
use Rattle.sf_text.proofs.MatrixReached.{matrix_column}
use Rattle.sf_text.proofs.matrix_text.read_matrix.Goals as goal

pub returns-in_err-matrix : goal.returns-in_err-matrix
returns-in_err-matrix c =
    let p = err_from_is_err_and c.from_residual.result c.from_residual.ensures.1 in
    rw (p.1, p.2) tt

pub returns-in-None : goal.returns-in-None
returns-in-None c =
    let text = c.args.text.now in
    let unwritten : matrix_written text ≡ None = sym c.in_ok-matrix.ensures ∙ c.in-None.is in
    let column = subst (λ n. IsColumn is_matrix text (1 + n)) (sym c.matrix_reach.ensures.value) (matrix_column text) in
    (unwritten, column)
