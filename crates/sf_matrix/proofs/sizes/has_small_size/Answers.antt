use Rattle.std.proofs.Common.{◌≡◌, to_z, of_z, w64, rules}
use Rattle.sf_algebra.proofs.GradedMatrices.Sizes.{HasSmallSize-Fits}
use Rattle.sf_matrix.proofs.sizes.has_small_size.Goals as goal

pub returns : goal.returns
returns c =
    let law = HasSmallSize-Fits c.args.m.now _ _ c.degree_range-low.ensures in
    let low : to_z w64 (of_z w64 c.from.result) ≡ c.degree_range-low.result.0 = search rules in
    let high : to_z w64 (of_z w64 c.from-2.result) ≡ c.degree_range-low.result.1 = search rules in
    let fits = rw (low, high, c.rows.ensures.len, c.cols.ensures.len) at c.fits.ensures in
    (λ fit. law.1 (fits.0 fit), λ small. fits.1 (law.0 small))
