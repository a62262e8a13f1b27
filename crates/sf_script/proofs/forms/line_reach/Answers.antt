use Rattle.std.proofs.Common.{◌∙◌, sym, ap₂, max}
use Rattle.sf_script.proofs.Lines.{line_reach-forms}
use Rattle.sf_script.proofs.forms.line_reach.Goals as goal

pub returns-clause-value : goal.returns-clause-value
returns-clause-value c =
    c.max-2.ensures
    ∙ (ap₂ max (c.max.ensures ∙ ap₂ max c.form_reach-client.ensures.value c.later_reach.ensures.value)
    c.greatest_reach.ensures.value ∙ sym (line_reach-forms c.args.text.now))
