use Rattle.std.proofs.Common.{◌≡◌, ◌+◌, ◌*◌, ◌<◌, length, get_or, take, arith}
use Rattle.std.specs.Char.{digit_value}
use Rattle.std.specs.Str.Parse.{digits_value}
use Rattle.std.proofs.lemmas.Int.Digits.{digits_more, digits_value_more}
use Rattle.callhead.proofs.TimeoutLemmas.{digit_of}
use Rattle.callhead.proofs.StatusLemmas.{value_of_first}
use Rattle.callhead.proofs.status.read_code.Goals as goal

pub returns-in_err-code : goal.returns-in_err-code
returns-in_err-code c =
    let text = c.args.text.now in
    let i = c.loop-digit.digit-index in
    let read : c.from.result ≡ get_or text i 0 = omega arith in
    let within : i < length text = omega arith in
    rw c.from_residual.ensures (λ code. (
      λ e. absurd (cc),
      λ is. absurd (c.in_err-code.ensures.value (rw read (digit_of text i is.decimal.1 within))),
    ))

pub returns-then-code-gt-MAX_CODE : goal.returns-then-code-gt-MAX_CODE
returns-then-code-gt-MAX_CODE c =
    let text = c.args.text.now in
    let i = c.loop-digit.digit-index in
    let read : c.from.result ≡ get_or text i 0 = omega arith in
    let within : i < length text = omega arith in
    let v = c.in_ok-code.ensures.value in
    let value : c.in_ok-code.field-0 ≡ digit_value (get_or text i 0) = rw (← read) v.1 in
    let so_far : c.loop-digit.code ≡ digits_value 10 (take i text) = c.loop-digit.invariant.1 in
    let more = digits_value_more 10 text i within in
    let whole = value_of_first text (i + 1) (omega arith) in
    let over : 16 < c.loop-digit.code * 10 + c.in_ok-code.field-0 = omega arith in
    λ code.
    (λ e. absurd (cc), λ is. let named = is.value in let known = is.known in absurd (omega arith))

pub loop-digit-preserved : goal.loop-digit-preserved
loop-digit-preserved c =
    let text = c.args.text.now in
    let i = c.loop-digit.digit-index in
    let read : c.from.result ≡ get_or text i 0 = omega arith in
    let within : i < length text = omega arith in
    let v = c.in_ok-code.ensures.value in
    let digit : digit_value (get_or text i 0) < 10 = rw (← read) v.0 in
    let value : c.in_ok-code.field-0 ≡ digit_value (get_or text i 0) = rw (← read) v.1 in (
      digits_more 10 text i within c.loop-digit.invariant.0 digit,
      omega (arith, digits_value_more 10 text i within, value, c.loop-digit.invariant.1),
      omega arith,
    )
