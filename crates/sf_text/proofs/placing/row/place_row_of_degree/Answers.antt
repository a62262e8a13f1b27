use Rattle.std.proofs.Common.{◌≡◌, ◌≤◌, true, length, ◌∙◌, zero-add, rules}
use Rattle.std.specs.List.{AllByRecursion, list_all}
use Rattle.std.specs.Ordering.{int_eq}
use Rattle.sf_algebra.specs.Rings.{ones}
use Rattle.sf_algebra.specs.Vectors.{Place, place_cmp, place_degree}
use Rattle.sf_algebra.specs.Monomials.{exponent_sum}
use Rattle.sf_algebra.proofs.Terms.Normal.{EachPlace-normal}
use Rattle.sf_text.specs.Placed.{GREATEST_WRITTEN_SUM, IsWrittenTerm}
use Rattle.sf_text.proofs.PlacedRows.{IsBeforeColumn, placed_terms-columns, IsVector-tested}
use Rattle.sf_text.proofs.placing.row.place_row_of_degree.Goals as goal

pub returns-then-have_degree-clause-vector : goal.returns-then-have_degree-clause-vector
returns-then-have_degree-clause-vector c =
    let degrees = c.args.degrees.now in
    let columns : IsBeforeColumn (length degrees) c.deref.result.now =
    rw (c.deref.ensures.value, c.in_ok-terms.ensures.terms)
    (placed_terms-columns c.args.ring.now 0 (length degrees) c.args.entries.now (zero-add _ ∙ c.requires.shaped)) in
    let tested : list_all (λ t. int_eq (place_degree ones degrees t.at) c.args.degree) c.in_ok-terms-2.terms.items ≡ true =
    search rules in
    let vector : c.from_canonical.result ≡ record { degree = c.args.degree; terms = c.in_ok-terms-2.terms.items } = search rules in
    rw vector (IsVector-tested _ _ _ _ _ c.in_ok-terms-2.ensures.sum c.in_ok-terms-2.ensures.canonical columns tested)

pub returns-then-have_degree-clause-small : goal.returns-then-have_degree-clause-small
returns-then-have_degree-clause-small c =
    let kept : AllByRecursion IsWrittenTerm c.deref.result.now = rw c.deref.ensures.value c.in_ok-terms.ensures.small in
    let vector : c.from_canonical.result ≡ record { degree = c.args.degree; terms = c.in_ok-terms-2.terms.items } = search rules in
    let summed : AllByRecursion IsWrittenTerm c.in_ok-terms-2.terms.items =
    rw c.in_ok-terms-2.ensures.sum
    (EachPlace-normal (λ (k : Place). exponent_sum k.monomial ≤ GREATEST_WRITTEN_SUM) (place_cmp ones) _ _ kept) in
    rw vector summed
