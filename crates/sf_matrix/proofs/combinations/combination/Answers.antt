use Rattle.std.proofs.Common.{◌≡◌, ◌++◌, rules, map, sym, ap, subst, ◌∙◌, IfOk}
use Rattle.sf_algebra.specs.Multiples.{place_product, term_product}
use Rattle.sf_algebra.specs.Rings.{ones}
use Rattle.sf_algebra.specs.Vectors.{place_cmp}
use Rattle.sf_algebra.proofs.Basics.Lists.{AllByRecursion-get}
use Rattle.sf_algebra.proofs.Multiplying.Gathering.{combination_terms-nil, combination_terms-take, combination-gathered, read_row}
use Rattle.sf_matrix.specs.Bounds.{HasRoom}
use Rattle.sf_matrix.specs.Places.{factor_of}
use Rattle.sf_matrix.proofs.combinations.combination.Goals as goal

pub loop-factor-init : goal.loop-factor-init
loop-factor-init c = c.new-products.ensures.items ∙ sym (combination_terms-nil place_product _ _ _)

pub push_multiple-requires-clause-room : goal.push_multiple-requires-clause-room
push_multiple-requires-clause-room c =
    let read = read_row c.args.rows.now c.args.c.now c.loop-factor.factor-index c.factor-item.result _ c.index-rows-factor.result c.requires.positions (search rules) c.factor-item.is (ap (λ t. t.at.position) c.factor.view_is) c.index-rows-factor.is in
    let terms = c.deref.ensures.value ∙ ap (λ v. v.terms) c.row.view_is ∙ read.1 in
    subst (HasRoom c.factor-item.result.at.monomial) (sym terms) (AllByRecursion-get _ _ _ _ c.requires.room read.0)

pub loop-factor-preserved : goal.loop-factor-preserved
loop-factor-preserved c =
    let read = read_row c.args.rows.now c.args.c.now c.loop-factor.factor-index c.factor-item.result _ c.index-rows-factor.result c.requires.positions (search rules) c.factor-item.is (ap (λ t. t.at.position) c.factor.view_is) c.index-rows-factor.is in
    let terms = c.deref.ensures.value ∙ ap (λ v. v.terms) c.row.view_is ∙ read.1 in
    c.in_ok-push_multiple.ensures.ok
    ∙ (λ i. c.loop-factor.invariant i ++ map (term_product place_product c.args.modulus (factor_of c.factor-item.result)) (terms i))
    ∙ sym (combination_terms-take place_product c.args.modulus _ _ c.args.c.now c.loop-factor.factor-index c.factor-item.result read.0)

pub returns-clause-combination : goal.returns-clause-combination
returns-clause-combination c =
    let sum =
    combination-gathered
    (place_cmp ones) place_product c.args.modulus _ _ c.args.c.now _ _ c.loop-factor-test.false c.loop-factor.invariant in
    subst (λ l. IfOk c.sum_of_gathered.result (λ v. v.items ≡ l)) sum c.sum_of_gathered.ensures.sum
