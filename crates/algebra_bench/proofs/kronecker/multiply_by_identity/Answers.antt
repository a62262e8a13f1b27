use Rattle.algebra_bench.proofs.Operands.{IsOperand-identity_over, degrees_fit, products_fit}
use Rattle.algebra_bench.proofs.kronecker.multiply_by_identity.Goals as goal

pub kron-requires-clause-degrees : goal.kron-requires-clause-degrees
kron-requires-clause-degrees c =
    let identity = IsOperand-identity_over _ _ _ _ c.facts.ensures.above_one c.in_ok-matrix.ensures.operand c.target.ensures.target c.in_ok-identity.ensures.identity in
    degrees_fit _ _ c.in_ok-matrix.ensures.operand identity

pub kron-requires-clause-room : goal.kron-requires-clause-room
kron-requires-clause-room c =
    let identity = IsOperand-identity_over _ _ _ _ c.facts.ensures.above_one c.in_ok-matrix.ensures.operand c.target.ensures.target c.in_ok-identity.ensures.identity in
    products_fit _ _ c.in_ok-matrix.ensures.operand identity
