use Rattle.std.proofs.Common.{◌≡◌, ◌++◌, map, sym, ap, subst, ◌∙◌, arith}
use Rattle.sf_algebra.specs.Monomials.{Monomial}
use Rattle.sf_algebra.specs.Multiples.{place_product, term_product}
use Rattle.sf_algebra.specs.Rings.{ones, plain}
use Rattle.sf_algebra.specs.Terms.{Term, IsCanonical, IsNonzeroResidue}
use Rattle.sf_algebra.specs.VectorOperations.{row_multiple}
use Rattle.sf_algebra.specs.Vectors.{place_cmp}
use Rattle.sf_algebra.proofs.Multiplying.Keys.{place_keys}
use Rattle.sf_algebra.proofs.Multiplying.MultipleLaws.{multiple-zero}
use Rattle.sf_algebra.proofs.Multiplying.PrimeMultiples.{IsCanonical-map_term_product, multiple-map}
use Rattle.sf_matrix.specs.Places.{factor_of}
use Rattle.sf_reduce.proofs.sum.products_of.Goals as goal

pub returns-then-factor-eq0-clause-products : goal.returns-then-factor-eq0-clause-products
returns-then-factor-eq0-clause-products c =
    let p = c.args.modulus in
    let zero_there : c.args.factor.now.coefficient ≡ 0 = sym (ap (λ t. t.coefficient) c.factor.view_is) ∙ c.if-factor-eq0.true in
    c.new.ensures.items
    ∙ sym
    (ap (λ n. row_multiple (plain p) (record { at = c.args.factor.now.at.monomial; coefficient = n }) c.args.terms.now) zero_there
    ∙ multiple-zero (place_keys ones) p c.facts.ensures.positive c.args.factor.now.at.monomial c.args.terms.now)

pub returns : goal.returns
returns c =
    let p = c.args.modulus in
    let factor : Term Monomial = factor_of c.args.factor.now in
    let ts = c.args.terms.now in
    let same : c.factor.inside.coefficient ≡ factor.coefficient = ap (λ t. t.coefficient) c.factor.view_is in
    let nonzero : IsNonzeroResidue p factor =
    (omega (arith, c.if-factor-eq0.false, same), c.requires.factor) in
    let gathered : c.push_multiple.new.products.items ≡ map (term_product place_product p factor) ts =
    c.in_ok-push_multiple.ensures.ok
    ∙ ap (λ us. us ++ map (term_product place_product p factor) ts) c.in_ok-products.ensures.items in
    record {
      products =
          gathered
          ∙ sym (multiple-map (place_keys ones) p factor c.facts.ensures.prime nonzero ts c.requires.canonical);
      canonical = subst (IsCanonical (place_cmp ones) p) (sym gathered)
          (IsCanonical-map_term_product (place_keys ones) p factor c.facts.ensures.prime nonzero ts c.requires.canonical);
    }
