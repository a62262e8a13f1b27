use Rattle.std.proofs.Common.{◌≡◌, ◌*◌, take}
use Rattle.sf_algebra.specs.MatrixOperations.{moved}
use Rattle.sf_algebra.specs.Multiples.{place_product, combination_terms}
use Rattle.sf_matrix.proofs.matrix.kron.kronecker_terms.Given as goal

abbrev pub invariant-loop-factor : goal.invariant-loop-factor
invariant-loop-factor l =
    l.products.items ≡ combination_terms place_product l.modulus (λ k. k.monomial)
    (λ k. moved (k.position * l.columns) l.right) (take l.factor-index l.left)
