use Rattle.std.proofs.Common.{ℕ, List, length, take, ◌≡◌, ◌≤◌, ◌+◌, ◌++◌, refl, ap, sym, ◌∙◌, arith}
use Rattle.std.proofs.lemmas.List.{length-take-le}
use Rattle.h2frame.proofs.Rooms.{read_part}
use Rattle.h2frame.proofs.room.read_into.Goals as goal

pub returns-in-Ok-clause-ok : goal.returns-in-Ok-clause-ok
returns-in-Ok-clause-ok g c =
    let len = c.len-len.result in
    let n = c.in-Ok.count in
    let whole = c.as_mut_slice.result.now in
    let same : take len whole ≡ c.args.buffer.now.items =
    ap (λ (l : List ℕ). take len l) c.as_mut_slice.ensures.value
    ∙ ap (λ (k : ℕ). take k c.advance_mut.new.self.items) c.len-len.ensures.value
    ∙ c.advance_mut.ensures.front in
    let fits = c.in-Ok.ensures.fits.0 in
    let long : length (take len whole) ≡ len = ap length same ∙ sym c.len-len.ensures.value in
    let within : len + n ≤ length c.advance_mut.new.self.items = omega (
      arith,
      fits,
      c.read.auto.buf,
      c.advance_mut.ensures.len,
      c.len-len.ensures.value,
      ap length c.as_mut_slice.ensures.value,
    ) in (
      take n c.read.new.buf,
      length-take-le n c.read.new.buf fits,
      c.truncate.ensures.items
          ∙ read_part (take len whole) c.read.new.buf _ _ len n _ long fits within
          ∙ ap (λ (l : List ℕ). l ++ take n c.read.new.buf) same,
      c.in-Ok.ensures.bytes.0,
    )
