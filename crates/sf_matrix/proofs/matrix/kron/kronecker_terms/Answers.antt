use Rattle.std.proofs.Common.{◌≡◌, ◌<◌, ◌+◌, ◌++◌, ◌*◌, rules, map, refl, sym, ap, subst, ◌∙◌, IfOk}
use Rattle.std.specs.List.{AllByRecursion}
use Rattle.std.proofs.lemmas.Option.{slice_get_read}
use Rattle.sf_algebra.specs.MatrixOperations.{moved}
use Rattle.sf_algebra.specs.Multiples.{place_product, term_product}
use Rattle.sf_algebra.specs.Rings.{ones}
use Rattle.sf_algebra.specs.Terms.{Term}
use Rattle.sf_algebra.specs.Vectors.{Place, place_cmp}
use Rattle.sf_algebra.proofs.Basics.Lists.{AllByRecursion-get}
use Rattle.sf_algebra.proofs.Multiplying.Gathering.{combination_terms-nil, combination_terms-take, combination-gathered}
use Rattle.sf_matrix.specs.Places.{factor_of}
use Rattle.sf_matrix.proofs.matrix.kron.kronecker_terms.Goals as goal

pub loop-factor-init : goal.loop-factor-init
loop-factor-init c =
    c.in_ok-products.ensures.items
    ∙ sym (combination_terms-nil place_product c.args.modulus (λ k. k.monomial) (λ k. moved (k.position * c.args.columns) c.args.right.now))

pub overflow_mul-by : goal.overflow_mul-by
overflow_mul-by c =
    let read =
    slice_get_read c.args.left.now _ c.loop-factor.factor-index c.factor-item.result refl c.loop-factor-test.true c.factor-item.is in
    let fits =
    AllByRecursion-get _ c.args.left.now c.loop-factor.factor-index c.factor-item.result c.requires.positions read in
    let place = ap (λ t. t.at.position) c.factor.view_is in
    let below : c.factor.inside.position * c.args.columns < 18446744073709551616 =
    subst (λ n. n * c.args.columns < 18446744073709551616) (sym place) fits.0 in
    search rules

pub push_moved_multiple-requires-clause-positions : goal.push_moved_multiple-requires-clause-positions
push_moved_multiple-requires-clause-positions c =
    let read =
    slice_get_read c.args.left.now _ c.loop-factor.factor-index c.factor-item.result refl c.loop-factor-test.true c.factor-item.is in
    let fits =
    AllByRecursion-get _ c.args.left.now c.loop-factor.factor-index c.factor-item.result c.requires.positions read in
    let place = ap (λ t. t.at.position) c.factor.view_is in
    subst (λ n. AllByRecursion (λ (u : Term Place). n * c.args.columns + u.at.position < 18446744073709551616) c.args.right.now) (sym place) fits.1

pub loop-factor-preserved : goal.loop-factor-preserved
loop-factor-preserved c =
    let read =
    slice_get_read c.args.left.now _ c.loop-factor.factor-index c.factor-item.result refl c.loop-factor-test.true c.factor-item.is in
    let place = ap (λ t. t.at.position) c.factor.view_is in
    c.in_ok-push_moved_multiple.ensures.ok
    ∙ (λ l. c.loop-factor.invariant l ++ map (term_product place_product c.args.modulus (factor_of c.factor-item.result)) (moved (place l * c.args.columns) c.args.right.now))
    ∙ sym (combination_terms-take place_product c.args.modulus (λ k. k.monomial) (λ k. moved (k.position * c.args.columns) c.args.right.now) c.args.left.now c.loop-factor.factor-index c.factor-item.result read)

pub returns-clause-terms : goal.returns-clause-terms
returns-clause-terms c =
    let sum = combination-gathered (place_cmp ones) place_product c.args.modulus (λ k. k.monomial) (λ k. moved (k.position * c.args.columns) c.args.right.now) c.args.left.now _ _ c.loop-factor-test.false c.loop-factor.invariant in
    subst (λ l. IfOk c.sum_of_gathered.result (λ v. v.items ≡ l)) sum c.sum_of_gathered.ensures.sum
