use Rattle.std.proofs.Common.{◌≡◌, ◌∷◌, ◌-◌, length, take, drop, sym, ap, ◌∙◌}
use Rattle.sf_algebra.specs.MatrixOperations.{row_at}
use Rattle.sf_algebra.proofs.Basics.Slices.{first_and_rest}
use Rattle.sf_algebra.proofs.Multiplying.Gathering.{row_at-slice_get}
use Rattle.sf_groebner.specs.Criterion.{lead_place}
use Rattle.sf_groebner.specs.Divisions.{tail_of}
use Rattle.sf_reduce.proofs.division.lead_and_tail.Goals as goal

pub returns : goal.returns
returns c =
    let ts = c.terms-row.result.now in
    let rows = c.args.basis.now.rows in
    let shape : row_at rows c.args.i ≡ c.lead-item.result ∷ take (length ts - 1) (drop 1 ts) =
    row_at-slice_get rows c.args.i c.row.result.now c.row.ensures.row
    ∙ sym c.terms-row.ensures.terms
    ∙ first_and_rest ts c.lead-item.result c.in-len1-up.len_at_least c.lead-item.is in
    record { lead = sym (ap lead_place shape); tail = sym (ap tail_of shape); matrix = c.row.ensures.matrix }
