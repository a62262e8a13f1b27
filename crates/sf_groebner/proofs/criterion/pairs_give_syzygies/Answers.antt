use Rattle.std.proofs.Common.{ℕ, ◌<◌, arith}
use Rattle.sf_groebner.proofs.PairTheorems.PairSyzygies.{ReducesToZero-IsPairSyzygy, homogeneous_syzygy}
use Rattle.sf_groebner.proofs.PairTheorems.SyzygySpans.{schreyer_homogeneous}
use Rattle.sf_groebner.proofs.criterion.pairs_give_syzygies.Goals as goal

before : (i j n : ℕ) → i < j → j < n → i < n
before i j n h k = omega arith

pub returns : goal.returns
returns c = record {
  syzygies = λ m positive is_matrix monic i j pair. (
    homogeneous_syzygy m is_matrix monic positive i j (before i j _ pair.earlier pair.later) pair.later pair.positions,
    λ found. ReducesToZero-IsPairSyzygy m.ring positive m.rows i j found.0.terms found.2,
  );
  span = λ m positive monic zs syzygies pairs.
      schreyer_homogeneous m positive monic zs syzygies
      (λ i j earlier later positions. pairs i j (record { earlier = earlier; later = later; positions = positions }));
}
