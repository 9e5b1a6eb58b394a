use Rattle.std.proofs.Common.{◌≡◌, ◌∙◌, sym, ap, arith, decimal}
use Rattle.std.proofs.lemmas.Fmt.{decimal_digit}
use Rattle.callhead.proofs.response.number_text.Goals as goal

pub returns-then-code-number : goal.returns-then-code-number
returns-then-code-number c =
    let zero : c.args.code ≡ 0 = c.if-code-number.true ∙ c.number.ensures.number in
    c.fixed.ensures ∙ sym (ap decimal zero ∙ decimal_digit 0 (omega arith))
