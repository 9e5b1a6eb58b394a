use Rattle.std.proofs.Common.{◌≡◌, ◌<◌, length, get_or, arith}
use Rattle.std.specs.Char.{digit_value}
use Rattle.std.proofs.lemmas.Int.Digits.{digits_more, digits_value_more}
use Rattle.callhead.proofs.TimeoutLemmas.{digit_of, seven_digits}
use Rattle.callhead.proofs.timeout.read_amount.Goals as goal

pub overflow_mul-amount : goal.overflow_mul-amount
overflow_mul-amount c = omega (
  arith,
  seven_digits c.args.digits.now c.loop-digit.digit-index c.loop-digit.invariant.0
      (omega arith) (omega arith),
)

pub returns-in_err-amount : goal.returns-in_err-amount
returns-in_err-amount c =
    let digits = c.args.digits.now in
    let i = c.loop-digit.digit-index in
    let read : c.from.result ≡ get_or digits i 0 = omega arith in
    let within : i < length digits = omega arith in
    rw c.from_residual.ensures
    (λ amount. c.in_err-amount.ensures.value (rw read (digit_of digits i amount.0.1 within)))

pub overflow_add-amount : goal.overflow_add-amount
overflow_add-amount c =
    let v = c.in_ok-amount.ensures.value in
    omega (
      arith,
      v.0,
      seven_digits c.args.digits.now c.loop-digit.digit-index c.loop-digit.invariant.0
          (omega arith) (omega arith),
    )

pub loop-digit-preserved : goal.loop-digit-preserved
loop-digit-preserved c =
    let digits = c.args.digits.now in
    let i = c.loop-digit.digit-index in
    let read : c.from.result ≡ get_or digits i 0 = omega arith in
    let within : i < length digits = omega arith in
    let v = c.in_ok-amount.ensures.value in
    let digit : digit_value (get_or digits i 0) < 10 = rw (← read) v.0 in
    let value : c.in_ok-amount.field-0 ≡ digit_value (get_or digits i 0) = rw (← read) v.1 in (
      digits_more 10 digits i within c.loop-digit.invariant.0 digit,
      omega (arith, digits_value_more 10 digits i within, value, c.loop-digit.invariant.1),
    )
