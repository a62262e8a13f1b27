use Rattle.std.proofs.Common.{arith}
use Rattle.std.proofs.lemmas.Nat.{mul-le}
use Rattle.sf_field.proofs.modulus.Modulus.mul.Goals as goal

pub overflow_mul-result : goal.overflow_mul-result
overflow_mul-result c = omega (arith, mul-le c.args.a c.args.b 32003 32003 (omega arith) (omega arith))
