use Rattle.std.proofs.Common.{◌≡◌, ℕ, ℤ, ◌+◌, length, rules, ap, sym, ◌∙◌}
use Rattle.std.specs.Int.{w32, w64, cast_unsigned}
use Rattle.pbwire.specs.Spelling.{varint_spelling}
use Rattle.handlers.proofs.ReplyLengths.{sum_len}
use Rattle.handlers.proofs.reply.sum_len.Goals as goal

pub returns-clause-len : goal.returns-clause-len
returns-clause-len c =
    let number : c.cast_unsigned.result ≡ cast_unsigned w64 c.args.value = search rules in
    rw c.varint_len.ensures.len (ap (λ (n : ℕ). 1 + length (varint_spelling n)) number
    ∙ sym (sum_len c.args.value
    (λ zero. c.if-value-eq0.false (ap (λ (x : ℤ). cast_unsigned w32 x) zero))))
