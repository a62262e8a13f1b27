use Rattle.std.proofs.Common.{arith, get_or}
use Rattle.sf_text.proofs.Digits.{are_digits-at, ten_pow-le, ten_pow-more, number_value-more, is_ascii_digit-bounds}
use Rattle.sf_text.proofs.tokens.digits_value.Goals as goal

pub overflow_mul-value : goal.overflow_mul-value
overflow_mul-value c =
    let few = (are_digits-at 18 c.args.word.now c.requires).0 in
    omega (arith, c.loop-byte.invariant.bound, ten_pow-le c.loop-byte.byte-index (omega (arith, few)))

pub overflow_add-value : goal.overflow_add-value
overflow_add-value c =
    let few = (are_digits-at 18 c.args.word.now c.requires).0 in
    omega (arith, c.loop-byte.invariant.bound, ten_pow-le c.loop-byte.byte-index (omega (arith, few)))

pub loop-byte-preserved : goal.loop-byte-preserved
loop-byte-preserved c =
    let i = c.loop-byte.byte-index in
    let digit = (are_digits-at 18 c.args.word.now c.requires).1 i c.loop-byte-test.true in
    let more = number_value-more c.args.word.now i c.loop-byte-test.true digit in
    let byte = is_ascii_digit-bounds (get_or c.args.word.now i 0) digit in
    record {
      value = omega (arith, more, c.loop-byte.invariant.value, c.from.ensures);
      bound = omega (arith, ten_pow-more i, c.loop-byte.invariant.bound, c.from.ensures, byte.0, byte.1);
    }
