use Rattle.std.proofs.Common.{ℕ, ◌<◌, slice_index, arith}
use Rattle.callhead.proofs.Escapes.{percent_text_is, read_again}
use Rattle.callhead.proofs.percent.percent_text.Goals as goal

pub returns-clause-text : goal.returns-clause-text
returns-clause-text c =
    let small : (i : ℕ) → slice_index c.args.text.now i < 256 = λ i.
    omega (arith, c.type_inv.text i) in
    rw (
      c.in_ok-append_to.ensures.ok,
      c.new-written.ensures.bytes,
      c.utf8_percent_encode.ensures.text,
    ) (percent_text_is c.args.text.now small)

pub returns-clause-again : goal.returns-clause-again
returns-clause-again c =
    let small : (i : ℕ) → slice_index c.args.text.now i < 256 = λ i.
    omega (arith, c.type_inv.text i) in
    rw (
      c.in_ok-append_to.ensures.ok,
      c.new-written.ensures.bytes,
      c.utf8_percent_encode.ensures.text,
    ) (read_again c.args.text.now small c.utf8.text)
