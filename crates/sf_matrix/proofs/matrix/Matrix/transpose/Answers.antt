use Rattle.std.proofs.Common.{◌≡◌, ◌<◌, sym, ap, subst, ◌∙◌, length, map, neg_ℤ}
use Rattle.std.specs.List.{AllByRecursion}
use Rattle.sf_algebra.specs.Matrices.{IsMatrix}
use Rattle.sf_algebra.specs.MatrixOperations.{transposed}
use Rattle.sf_algebra.specs.Rings.{plain, ones}
use Rattle.sf_algebra.specs.Terms.{IsDescending, Term}
use Rattle.sf_algebra.specs.Vectors.{place_cmp, Place, Vector}
use Rattle.sf_algebra.proofs.GradedMatrices.Transposes.{IsMatrix-transposed}
use Rattle.sf_matrix.specs.Columns.{column_lists, vectors_of}
use Rattle.sf_matrix.proofs.ColumnVectors.{transposed-parts, IsDescending-column_lists, nonzero-column_lists}
use Rattle.sf_matrix.proofs.Entering.{length-column_lists}
use Rattle.sf_matrix.proofs.matrix.Matrix.transpose.Goals as goal

pub rows_of-requires-clause-length : goal.rows_of-requires-clause-length
rows_of-requires-clause-length c = ap length c.in_ok-columns.ensures ∙ length-column_lists c.deref.result.now 0 c.as_slice-degrees.result.now

pub rows_of-requires-clause-descending : goal.rows_of-requires-clause-descending
rows_of-requires-clause-descending c =
    let columns = c.in_ok-columns.ensures ∙ ap (λ vs. column_lists vs 0 c.as_slice-degrees.result.now) c.deref.ensures.value in
    subst (AllByRecursion (IsDescending (place_cmp ones))) (sym columns) (IsDescending-column_lists (plain c.self.inside.modulus) _ _ c.self.invariant 0 c.as_slice-degrees.result.now)

pub rows_of-requires-clause-nonzero : goal.rows_of-requires-clause-nonzero
rows_of-requires-clause-nonzero c =
    let m = c.args.self.now in
    let rows = c.deref.ensures.value ∙ ap (λ n. n.rows) c.self.view_is in
    let columns = c.in_ok-columns.ensures ∙ ap (λ vs. column_lists vs 0 c.as_slice-degrees.result.now) rows in
    subst (AllByRecursion (AllByRecursion (λ (t : Term Place). 0 < t.coefficient))) (sym columns) (nonzero-column_lists m.ring m.target m.rows (subst IsMatrix c.self.view_is c.self.invariant) 0 c.as_slice-degrees.result.now)

-- what the program puts together
whole : (c : goal.In_ok-negative_degrees)
    → record {
      ring = plain c.self.inside.modulus;
      target = c.in_ok-negative_degrees.field-0;
      rows = c.in_ok-rows.rows.items;
    } ≡ transposed c.args.self.now
whole c =
    let m = c.args.self.now in
    let rows = c.deref.ensures.value ∙ ap (λ n. n.rows) c.self.view_is in
    let degrees = c.as_slice-degrees.ensures.items ∙ ap (λ n. n.target) c.self.view_is in
    let columns = c.in_ok-columns.ensures ∙ (λ l. column_lists (rows l) 0 (degrees l)) in
    let vectors = c.in_ok-rows.ensures ∙ ap (λ ds. vectors_of ds c.in_ok-columns.columns.items) degrees in
    let target = c.in_ok-negative_degrees.ensures ∙ ap (λ vs. map neg_ℤ (map (λ (v : Vector). v.degree) vs)) (c.deref-2.ensures.value ∙ ap (λ n. n.rows) c.self.view_is) in
    transposed-parts m _ _ _ _ (ap (λ n. n.ring) c.self.view_is) target columns vectors

pub invariant_of-result : goal.invariant_of-result
invariant_of-result c =
    subst IsMatrix (sym (whole c))
    (IsMatrix-transposed c.args.self.now (subst IsMatrix c.self.view_is c.self.invariant))

pub returns : goal.returns
returns c = record { transposed = whole c }
