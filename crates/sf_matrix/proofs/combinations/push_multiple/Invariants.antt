use Rattle.std.proofs.Common.{◌≡◌, ◌++◌, map, take}
use Rattle.sf_algebra.specs.Multiples.{place_product, term_product}
use Rattle.sf_matrix.specs.Places.{factor_of}
use Rattle.sf_matrix.proofs.combinations.push_multiple.Given as goal

abbrev pub invariant-loop-term : goal.invariant-loop-term
invariant-loop-term l =
    l.products.items ≡ l.fn.products.items ++ map (term_product place_product l.modulus (factor_of l.factor))
    (take l.term-index l.terms)
