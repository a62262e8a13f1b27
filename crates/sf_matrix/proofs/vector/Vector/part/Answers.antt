use Rattle.std.proofs.Common.{◌<◌, sym, ap, subst, ◌∙◌}
use Rattle.std.specs.List.{AllByRecursion}
use Rattle.sf_algebra.specs.MatrixOperations.{part_terms}
use Rattle.sf_algebra.specs.Rings.{ones}
use Rattle.sf_algebra.specs.Terms.{Term, IsDescending}
use Rattle.sf_algebra.specs.Vectors.{Place, place_cmp}
use Rattle.sf_algebra.proofs.GradedMatrices.PartTerms.{AllByRecursion-part_terms, IsDescending-part_terms}
use Rattle.sf_matrix.proofs.vector.Vector.part.Goals as goal

pub invariant_of-result : goal.invariant_of-result
invariant_of-result c =
    let from = c.args.from in
    let to = c.args.to in
    let ts = c.self.inside.terms.items in
    let terms = c.in_ok-terms.ensures ∙ ap (part_terms from to) c.deref.ensures.value in
    let descending = IsDescending-part_terms ones from to ts c.self.invariant.0 in
    let nonzero = AllByRecursion-part_terms (λ (t : Term Place). 0 < t.coefficient) (λ (t : Term Place). 0 < t.coefficient) from to (λ t a b h. h) ts c.self.invariant.1 in
    subst (λ us. IsDescending (place_cmp ones) us × AllByRecursion (λ (t : Term Place). 0 < t.coefficient) us)
    (sym terms) (descending, nonzero)
