use Rattle.std.proofs.Common.{◌≡◌, true, false, arith, rules, get_or, sym, ◌∙◌}
use Rattle.std.specs.Char.{is_ascii_digit}
use Rattle.std.specs.Str.{all_ascii_digits}
use Rattle.std.proofs.Math.Nat.{pow-le-pow_right}
use Rattle.money.proofs.Digits.{not_all_digits, digit_value-of, step, room}
use Rattle.money.proofs.number.read_digits.Goals as goal

pub returns-then-not-is_ascii_digit-clause-value :
    goal.returns-then-not-is_ascii_digit-clause-value
returns-then-not-is_ascii_digit-clause-value c =
    let other : all_ascii_digits c.args.text.now ≡ false = not_all_digits c.args.text.now c.loop-byte.byte-index c.loop-byte-test.true (search rules) in
    rw other (search rules)

pub overflow_mul-value : goal.overflow_mul-value
overflow_mul-value c =
    let fits = room c.loop-byte.byte-index c.loop-byte.value (omega arith) c.loop-byte.invariant.bound in
    omega arith

pub overflow_add-value : goal.overflow_add-value
overflow_add-value c =
    let digit : is_ascii_digit (get_or c.args.text.now c.loop-byte.byte-index 0) ≡ true = sym c.is_ascii_digit.ensures.value ∙ c.if-not-is_ascii_digit.false in
    let value = digit_value-of (get_or c.args.text.now c.loop-byte.byte-index 0) digit in
    let fits = room c.loop-byte.byte-index c.loop-byte.value (omega arith) c.loop-byte.invariant.bound in
    omega arith

pub loop-byte-preserved : goal.loop-byte-preserved
loop-byte-preserved c =
    let digit : is_ascii_digit (get_or c.args.text.now c.loop-byte.byte-index 0) ≡ true = sym c.is_ascii_digit.ensures.value ∙ c.if-not-is_ascii_digit.false in
    rw c.from.ensures (step c.args.text.now c.loop-byte.byte-index c.loop-byte.value c.loop-byte-test.true digit c.loop-byte.invariant)

pub returns-clause-bound : goal.returns-clause-bound
returns-clause-bound c =
    let more = pow-le-pow_right {n = 10} (omega arith) {i = c.loop-byte.byte-index} {j = c.args.most} (omega arith) in
    omega arith
