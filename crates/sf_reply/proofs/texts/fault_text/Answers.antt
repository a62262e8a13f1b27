use Rattle.std.proofs.Common.{◌++◌, ap, sym, ◌∙◌}
use Rattle.sf_reply.specs.Texts.{fault_text}
use Rattle.sf_reply.proofs.texts.fault_text.Goals as goal

pub returns-in_ok-push_number-in-Syntax : goal.returns-in_ok-push_number-in-Syntax
returns-in_ok-push_number-in-Syntax c =
    c.in_ok-push_number-in-Syntax.ensures ∙ ap (λ fault. c.args.out.now.items ++ fault_text fault) (sym c.in-Syntax.is)

pub returns-in_ok-push_name-in-Taken : goal.returns-in_ok-push_name-in-Taken
returns-in_ok-push_name-in-Taken c =
    c.in_ok-push_name-in-Taken.ensures ∙ ap (λ fault. c.args.out.now.items ++ fault_text fault) (sym c.in-Taken.is)
