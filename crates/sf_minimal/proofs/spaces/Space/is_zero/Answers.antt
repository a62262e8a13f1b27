use Rattle.std.proofs.Common.{◌≡◌, ◌%◌, ◌<◌, [], ap, sym, subst, arith}
use Rattle.std.specs.Prelude.{IfOk, IsTrue, MatchOption}
use Rattle.std.specs.List.{AllByRecursion}
use Rattle.sf_algebra.specs.Rings.{Ring}
use Rattle.sf_dense.specs.MonicEntries.{AreMonicEntries}
use Rattle.sf_dense.proofs.DenseSums.ReadOut.{dense-none}
use Rattle.sf_minimal.specs.Spaces.{sum_of}
use Rattle.sf_minimal.proofs.spaces.Space.is_zero.Goals as goal
use Rattle.sf_minimal.proofs.spaces.Space.is_zero.Goals.{in-None, in-Some}

pub returns : goal.returns
returns c =
    let m = c.args.m.now in
    let s = c.args.self.now in
    let h = c.requires.space in
    let facts = c.matrix_facts.ensures in
    let positive : 0 < m.ring.modulus = let above = facts.above_one in omega (arith, above) in
    let modulus : c.modulus.result ≡ m.ring.modulus = sym (ap (λ (r : Ring). r.modulus) c.modulus.ensures.ring) in
    elim c.match-branch-2.branch [
      | in-None w ↦
          let zeros : AllByRecursion (λ x. x % m.ring.modulus ≡ 0) s.cells =
          subst (λ q. AllByRecursion (λ x. x % q ≡ 0) s.cells) modulus
          (subst
          (λ found. MatchOption found (AllByRecursion (λ x. x % c.modulus.result ≡ 0) s.cells) (λ es. AreMonicEntries c.modulus.result s.cells es.items))
          w.in-None.is c.in_ok-monic_entries.ensures.entries) in
          record {
            zero = subst (λ r. IfOk r (λ ok. IsTrue ok → sum_of m s ≡ [])) (sym w.result-is)
                (λ e. (dense-none m.ring.modulus positive s.places.items s.cells h.falling (sym h.size)).0 zeros);
          }
      | in-Some w ↦ record { zero = subst (λ r. IfOk r (λ ok. IsTrue ok → sum_of m s ≡ [])) (sym w.result-is) (λ e. cc) }
    ]
