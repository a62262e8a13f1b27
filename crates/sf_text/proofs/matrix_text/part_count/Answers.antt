use Rattle.std.proofs.Common.{ap, sym, ◌∙◌, ◌+◌}
use Rattle.std.proofs.lemmas.List.Splits.{length-slice_split}
use Rattle.sf_text.proofs.matrix_text.part_count.Goals as goal

pub returns : goal.returns
returns c = ap (λ n. n + 1) c.count.ensures.count ∙ sym (length-slice_split _ c.args.text.now)
