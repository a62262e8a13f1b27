use Rattle.std.proofs.Common.{rules, ◌≡◌, Some, Err, sym, ap, ◌∙◌}
use Rattle.sf_text.specs.Unknowns.{first_unknown}
use Rattle.sf_script.specs.Refusals.{unless_some}
use Rattle.sf_script.specs.declared.fault.LineFault.TheVariants.{Unknown}
use Rattle.sf_script.specs.declared.fault.LineFault.{LineFault}
use Rattle.sf_script.proofs.check.steps.are_variables.Goals as goal

pub returns-in_ok-copy-in-Some-clause-refused : goal.returns-in_ok-copy-in-Some-clause-refused
returns-in_ok-copy-in-Some-clause-refused c f e =
    let unknown : first_unknown c.args.ring.now.names c.args.rows.now ≡ Some c.in-Some.name.now =
    sym (rw c.as_slice.ensures.items at c.in-Some.ensures) in
    let copied : c.in_ok-copy-in-Some.field-0 ≡ c.in-Some.name.now = search rules in
    let refused : Unknown c.in_ok-copy-in-Some.field-0 ≡ f = cc in
    ap (unless_some Unknown) unknown ∙ ap (λ n. Err (Unknown n)) (sym copied) ∙ ap (λ (g : LineFault). Err g) refused
