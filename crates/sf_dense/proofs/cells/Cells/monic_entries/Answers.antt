use Rattle.std.proofs.Common.{◌≡◌, ℕ, ◌%◌, List, length, ◌∙◌, subst}
use Rattle.std.specs.List.{AllByRecursion}
use Rattle.sf_dense.specs.MonicEntries.{AreWithin}
use Rattle.sf_dense.proofs.DenseSums.ReadOut.{AreWithin-monic_entries, residue_entries-none}
use Rattle.sf_dense.proofs.cells.Cells.monic_entries.Goals as goal

pub returns-in-None-clause-entries : goal.returns-in-None-clause-entries
returns-in-None-clause-entries c =
    let zeros = residue_entries-none c.args.modulus 0 c.deref.result.now c.in-None.ensures.first in
    subst (AllByRecursion (λ (n : ℕ). n % c.args.modulus ≡ 0)) (c.deref.ensures.value ∙ c.self.view_is) zeros

pub returns-in_ok-entries-in-Some-clause-within : goal.returns-in_ok-entries-in-Some-clause-within
returns-in_ok-entries-in-Some-clause-within c =
    let within = AreWithin-monic_entries c.args.modulus c.deref-in-Some.result.now
    c.in_ok-entries-in-Some.entries.items c.in_ok-entries-in-Some.ensures.monic in
    subst (λ (cs : List ℕ). AreWithin (length cs) c.in_ok-entries-in-Some.entries.items)
    (c.deref-in-Some.ensures.value ∙ c.self.view_is) within
