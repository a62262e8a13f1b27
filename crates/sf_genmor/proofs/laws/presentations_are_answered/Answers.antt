use Rattle.sf_groebner.specs.Spans.{InSpan}
use Rattle.sf_genmor.specs.PresentedSpans.{PresentsSpan}
use Rattle.sf_genmor.proofs.PresentationAnswers.{generators_matrix, presents_module, reduced-relations, unique_presented_span}
use Rattle.sf_genmor.proofs.laws.presentations_are_answered.Goals as goal

pub returns : goal.returns
returns c = λ limit n base looked p reduced rings targets run.
    let found = presents_module limit n base rings (InSpan n) reduced looked p run in
    let matrix = generators_matrix limit n base rings targets looked p run in
    let answer : PresentsSpan n base p =
    record { presentation = found.presentation; reduced = reduced-relations n base rings (InSpan n) p found } in
    (answer, λ other. unique_presented_span n base found.field matrix found.base_matrix rings p other answer)
