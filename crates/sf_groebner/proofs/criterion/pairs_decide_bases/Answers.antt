use Rattle.std.proofs.Common.{ℕ, ◌<◌, arith}
use Rattle.sf_groebner.proofs.Constructions.MonicVectors.{IsMonicVector-rows}
use Rattle.sf_groebner.proofs.Constructions.NoRests.{no_rest}
use Rattle.sf_groebner.proofs.PairLoops.HomogeneousPairs.{ReducesToZero-division}
use Rattle.sf_groebner.proofs.PairTheorems.BoundedCriterion.{buchberger_up_to}
use Rattle.sf_groebner.proofs.PairTheorems.Buchberger.{ReducesToZero-chain, ReducesToZero-sym, buchberger}
use Rattle.sf_groebner.proofs.PairTheorems.Representations.{ReducesToZero-complete}
use Rattle.sf_groebner.proofs.PairTheorems.SVectors.{s_vector-below}
use Rattle.sf_groebner.proofs.criterion.pairs_decide_bases.Goals as goal

before : (i j n : ℕ) → i < j → j < n → i < n
before i j n h k = omega arith

pub returns : goal.returns
returns c = record {
  criterion = λ ring positive rows monic. (
    λ complete i j pair. ReducesToZero-complete ring positive rows monic complete i j
        (before i j _ pair.earlier pair.later) pair.later pair.positions,
    λ pairs. buchberger ring positive rows monic
        (λ i j earlier later positions. pairs i j (record { earlier = earlier; later = later; positions = positions })),
  );
  up_to_degree = λ m positive is_matrix monic d pairs.
      buchberger_up_to m is_matrix monic positive d
      (λ i j earlier later positions bound. pairs i j (record { earlier = earlier; later = later; positions = positions }) bound);
  leads = λ ring positive rows monic i j pair. s_vector-below ring positive rows monic i j (before i j _ pair.earlier pair.later) pair.later pair.positions;
  either_order = ReducesToZero-sym;
  divisions = λ m positive is_matrix monic i j pair d quotients e.
      ReducesToZero-division m.ring positive m.target m.rows (IsMonicVector-rows m.ring m.target m.rows is_matrix monic)
      i j (before i j _ pair.earlier pair.later) pair.later pair.positions d quotients e;
  rests = no_rest;
  chains = ReducesToZero-chain;
}
