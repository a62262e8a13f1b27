use Rattle.std.proofs.Common.{◌∙◌}
use Rattle.sf_dense.proofs.DenseSums.Steps.{residue_entries-end, residue_entries-skipped, residue_entries-some}
use Rattle.sf_dense.proofs.cells.first_entry.Goals as goal

pub returns-then-coefficient-ne0-clause-first : goal.returns-then-coefficient-ne0-clause-first
returns-then-coefficient-ne0-clause-first c =
    c.loop-cell.invariant
    ∙ residue_entries-some c.args.modulus c.args.sums.now c.loop-cell.cell c.residue-coefficient.result
    c.loop-cell-test.true c.residue-coefficient.ensures.residue c.if-coefficient-ne0.true

pub loop-cell-preserved : goal.loop-cell-preserved
loop-cell-preserved c =
    c.loop-cell.invariant
    ∙ residue_entries-skipped c.args.modulus c.args.sums.now c.loop-cell.cell c.residue-coefficient.result
    c.loop-cell-test.true c.residue-coefficient.ensures.residue c.if-coefficient-ne0.false

pub returns-clause-first : goal.returns-clause-first
returns-clause-first c = c.loop-cell.invariant ∙ residue_entries-end _ _ _ _ c.loop-cell-test.false

pub returns-clause-residue : goal.returns-clause-residue
returns-clause-residue c = c.loop-cell.invariant ∙ residue_entries-end _ _ _ _ c.loop-cell-test.false
