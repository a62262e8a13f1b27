use Rattle.std.proofs.Common.{ℕ, ◌+◌, sym, subst}
use Rattle.sf_grammar.specs.Reaches.{IsColumn}
use Rattle.sf_script.proofs.Lines.{line_column}
use Rattle.sf_script.specs.Grammar.{is_line}
use Rattle.sf_script.proofs.forms.column.Goals as goal

pub returns : goal.returns
returns c =
    subst (λ (n : ℕ). IsColumn is_line c.args.line.now (1 + n)) (sym c.line_reach.ensures.value) (line_column c.args.line.now)
