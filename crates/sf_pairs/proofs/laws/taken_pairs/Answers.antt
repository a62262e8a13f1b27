use Rattle.std.proofs.Common.{sym, ◌∙◌, ap, ◌++◌}
use Rattle.sf_pairs.specs.Queue.{QueuedPair, is_least, pair_of}
use Rattle.sf_pairs.proofs.Choices.{same_choice}
use Rattle.sf_pairs.proofs.laws.taken_pairs.Goals as goal

pub returns : goal.returns
returns c = λ at queue a b u v left other h k.
    let same = same_choice (is_least queue) h.before k.before (pair_of h.degree a b) (pair_of k.degree u v) h.after k.after (sym h.whole ∙ k.whole) h.least k.least (h.place ∙ sym k.place) in (
      ap (λ (e : QueuedPair). e.first) same.1,
      ap (λ (e : QueuedPair). e.second) same.1,
      h.rest ∙ (λ i. same.0 i ++ same.2 i) ∙ sym k.rest,
    )
