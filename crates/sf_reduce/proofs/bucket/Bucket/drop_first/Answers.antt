use Rattle.std.proofs.Common.{drop, sym, ap, ◌∙◌}
use Rattle.std.proofs.lemmas.List.{drop-drop}
use Rattle.sf_reduce.proofs.bucket.Bucket.drop_first.Goals as goal

pub returns : goal.returns
returns c = record {
  rest = sym (drop-drop 1 c.self.inside.taken c.self.inside.terms.items) ∙ ap (drop 1) c.self.view_is;
}
