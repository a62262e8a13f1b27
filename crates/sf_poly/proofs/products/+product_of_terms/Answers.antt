use Rattle.std.proofs.Common.{◌≡◌, ◌/◌, IfOk, ap, sym, ◌∙◌, arith, length, subst}
use Rattle.std.proofs.lemmas.List.{nil_from_length}
use Rattle.sf_algebra.specs.Monomials.{monomial_cmp}
use Rattle.sf_algebra.specs.Polynomials.{polynomial_product}
use Rattle.sf_algebra.specs.Rings.{plain, ones}
use Rattle.sf_algebra.specs.Sums.{add}
use Rattle.sf_algebra.proofs.Basics.Slices.{only_item}
use Rattle.sf_algebra.proofs.Multiplying.Polynomials.{polynomial_product-nil, polynomial_product-one_term}
use Rattle.sf_poly.proofs.PartProducts.{positive_from_residues, polynomial_product-halves}
use Rattle.sf_poly.proofs.products.+product_of_terms.Goals as goal

pub returns-in-empty-clause-product : goal.returns-in-empty-clause-product
returns-in-empty-clause-product t c =
    let none : length c.args.left.now ≡ 0 = omega arith in
    c.new.ensures.items
    ∙ sym (polynomial_product-nil (plain c.args.modulus) c.args.right.now)
    ∙ ap (λ l. polynomial_product (plain c.args.modulus) l c.args.right.now)
    (sym (nil_from_length c.args.left.now none))

pub returns-in-len1-clause-product : goal.returns-in-len1-clause-product
returns-in-len1-clause-product t c =
    let one : length c.args.left.now ≡ 1 = omega arith in
    let positive = positive_from_residues c.args.modulus c.args.left.now (omega arith) c.requires.left in
    let product =
    sym (polynomial_product-one_term (plain c.args.modulus) positive c.t-item.result c.args.right.now)
    ∙ ap (λ l. polynomial_product (plain c.args.modulus) l c.args.right.now)
    (sym (only_item c.args.left.now c.t-item.result one c.t-item.is)) in
    subst (λ l. IfOk c.multiple_of_terms.result (λ v. v.items ≡ l)) product c.multiple_of_terms.ensures.multiple

pub returns-in_ok-back-in_default-clause-product : goal.returns-in_ok-back-in_default-clause-product
returns-in_ok-back-in_default-clause-product t c =
    let positive = positive_from_residues c.args.modulus c.args.left.now (omega arith) c.requires.left in
    let front = c.deref.ensures.value ∙ c.in_ok-front-in_default.ensures.product ∙ ap (λ l. polynomial_product (plain c.args.modulus) l c.args.right.now) c.split_at.ensures.front in
    let back = c.deref-in_default.ensures.value ∙ c.in_ok-back-in_default.ensures.product ∙ ap (λ l. polynomial_product (plain c.args.modulus) l c.args.right.now) c.split_at.ensures.back in
    let halves =
    (λ i. add (monomial_cmp ones) c.args.modulus (front i) (back i))
    ∙ sym (polynomial_product-halves c.args.modulus positive c.args.right.now (length c.args.left.now / 2) c.args.left.now) in
    subst (λ l. IfOk c.add_terms.result (λ v. v.items ≡ l)) halves c.add_terms.ensures.sum
