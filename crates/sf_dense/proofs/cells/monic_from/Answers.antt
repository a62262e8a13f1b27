use Rattle.std.proofs.Common.{◌≡◌, ◌+◌, ◌∷◌, drop, map, sym, ◌∙◌, ap, subst}
use Rattle.sf_algebra.specs.Residues.{product_mod}
use Rattle.sf_dense.specs.Entries.{Entry}
use Rattle.sf_dense.specs.MonicEntries.{residue_entries, scaled_entry}
use Rattle.sf_dense.proofs.DenseSums.Steps.{monic-begun, monic-end, monic-next, monic-skipped}
use Rattle.sf_dense.proofs.cells.monic_from.Goals as goal
use Rattle.sf_dense.proofs.cells.monic_from.Goals.{then-residue-ne0+in_ok-push-2, else-residue-ne0}

pub loop-cell-init : goal.loop-cell-init
loop-cell-init c =
    let p = c.args.modulus in
    let cs = c.args.sums.now in
    let e : Entry = record { cell = c.first.inside.cell; coefficient = c.first.inside.coefficient } in
    let P : Entry → Type 0 = λ v. residue_entries p 0 cs ≡ v ∷ residue_entries p (v.cell + 1) (drop (v.cell + 1) cs) in
    let first : P e = subst P (sym c.first.view_is) c.requires.first in
    rw c.in_ok-push.ensures.items (rw c.new-entries.ensures.items (monic-begun p c.inv-inverse.result cs e first
    c.inv-inverse.ensures.inverse))

pub loop-cell-preserved : goal.loop-cell-preserved
loop-cell-preserved c = elim c.if-residue-ne0.branch [
  | then-residue-ne0+in_ok-push-2 w ↦
      rw (w.entries-is, w.in_ok-push-2.ensures.items, w.mul.ensures.product) (monic-next c.args.modulus
      c.inv-inverse.result c.args.sums.now _ _ c.loop-cell.cell c.loop-cell.invariant c.residue-residue.result
      c.loop-cell-test.true c.residue-residue.ensures.residue w.if-residue-ne0.true)
  | else-residue-ne0 w ↦
      rw w.entries-is (monic-skipped c.args.modulus c.inv-inverse.result c.args.sums.now _ _ c.loop-cell.cell
      c.loop-cell.invariant c.residue-residue.result c.loop-cell-test.true c.residue-residue.ensures.residue
      w.if-residue-ne0.false)
]

pub returns : goal.returns
returns c = record {
  monic = record {
    first = c.args.first;
    others = residue_entries c.args.modulus (c.args.first.cell + 1) (drop (c.args.first.cell + 1) c.args.sums.now);
    residues = c.requires.first;
    inverse = c.inv-inverse.result;
    residue = c.inv-inverse.ensures.below;
    product = ap (λ (v : Entry). product_mod c.args.modulus v.coefficient c.inv-inverse.result) (sym c.first.view_is)
        ∙ c.inv-inverse.ensures.inverse;
    entries =
        monic-end c.args.modulus c.inv-inverse.result c.args.sums.now _ _ c.loop-cell.cell c.loop-cell.invariant
        c.loop-cell-test.false
        ∙ ap (map (scaled_entry c.args.modulus c.inv-inverse.result)) c.requires.first;
  };
}
