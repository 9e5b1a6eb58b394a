use Rattle.std.proofs.Common.{◌∙◌, ◌-◌, ◌<◌, get_or, arith, refl}
use Rattle.std.proofs.lemmas.Nat.{one_shl}
use Rattle.hpack_codec.proofs.HuffmanWriting.{
  spells_none,
  spells_more,
  spells_all,
  spells_padded,
  has_room,
  code_short,
  last_fits,
}
use Rattle.hpack_codec.proofs.huffman_writing.push_text.Goals as goal

pub loop-octet-init : goal.loop-octet-init
loop-octet-init c = spells_none c.args.out.now.items

pub overflow_shl-span : goal.overflow_shl-span
overflow_shl-span c =
    omega (
      arith,
      code_short _ c.from-len.result
          (let octet_is : get_or c.args.octets.now c.loop-octet.octet-index 0 < 256 =
          omega (arith, c.type_inv.octets c.loop-octet.octet-index) in
          octet_is) (c.from-len.ensures ∙ c.code_of-number.ensures.len),
    )

pub overflow_mul-register : goal.overflow_mul-register
overflow_mul-register c =
    let octet_is : get_or c.args.octets.now c.loop-octet.octet-index 0 < 256 =
    omega (arith, c.type_inv.octets c.loop-octet.octet-index) in
    let len_is = c.from-len.ensures ∙ c.code_of-number.ensures.len in
    let span_is =
    one_shl c.from-len.result 64 (omega (arith, code_short _ c.from-len.result octet_is len_is)) in
    let room =
    has_room _ c.loop-octet.count c.from-len.result c.loop-octet.register _
    c.code_of-number.result.0 octet_is c.code_of-number.ensures.number len_is span_is
    c.loop-octet.invariant.bound c.loop-octet.invariant.short in
    omega (arith, room.sum)

pub overflow_add-register : goal.overflow_add-register
overflow_add-register c =
    let octet_is : get_or c.args.octets.now c.loop-octet.octet-index 0 < 256 =
    omega (arith, c.type_inv.octets c.loop-octet.octet-index) in
    let len_is = c.from-len.ensures ∙ c.code_of-number.ensures.len in
    let span_is =
    one_shl c.from-len.result 64 (omega (arith, code_short _ c.from-len.result octet_is len_is)) in
    let room =
    has_room _ c.loop-octet.count c.from-len.result c.loop-octet.register _ c.from.result octet_is
    (c.from.ensures ∙ c.code_of-number.ensures.number) len_is span_is
    c.loop-octet.invariant.bound c.loop-octet.invariant.short in
    omega (arith, room.sum)

pub flush-requires-clause-count : goal.flush-requires-clause-count
flush-requires-clause-count c =
    omega (
      arith,
      c.loop-octet.invariant.short,
      code_short _ c.from-len.result
          (let octet_is : get_or c.args.octets.now c.loop-octet.octet-index 0 < 256 =
          omega (arith, c.type_inv.octets c.loop-octet.octet-index) in
          octet_is) (c.from-len.ensures ∙ c.code_of-number.ensures.len),
    )

pub flush-requires-clause-register : goal.flush-requires-clause-register
flush-requires-clause-register c =
    let octet_is : get_or c.args.octets.now c.loop-octet.octet-index 0 < 256 =
    omega (arith, c.type_inv.octets c.loop-octet.octet-index) in
    let len_is = c.from-len.ensures ∙ c.code_of-number.ensures.len in
    let span_is =
    one_shl c.from-len.result 64 (omega (arith, code_short _ c.from-len.result octet_is len_is)) in
    (has_room _ c.loop-octet.count c.from-len.result c.loop-octet.register _ c.from.result octet_is
    (c.from.ensures ∙ c.code_of-number.ensures.number) len_is span_is
    c.loop-octet.invariant.bound c.loop-octet.invariant.short).fits

pub loop-octet-preserved : goal.loop-octet-preserved
loop-octet-preserved c =
    let octet_is : get_or c.args.octets.now c.loop-octet.octet-index 0 < 256 =
    omega (arith, c.type_inv.octets c.loop-octet.octet-index) in
    let len_is = c.from-len.ensures ∙ c.code_of-number.ensures.len in
    let span_is =
    one_shl c.from-len.result 64 (omega (arith, code_short _ c.from-len.result octet_is len_is)) in
    spells_more _ _ _ c.args.octets.now c.loop-octet.octet-index _ c.loop-octet.count
    c.loop-octet.register _ c.from.result c.from-len.result
    c.in_ok-register.field-0-1 c.in_ok-register.field-0-0 c.loop-octet-test.true refl octet_is
    (c.from.ensures ∙ c.code_of-number.ensures.number) len_is span_is
    c.loop-octet.invariant c.in_ok-register.ensures

pub overflow_cast-register : goal.overflow_cast-register
overflow_cast-register c =
    let fits =
    last_fits c.loop-octet.count c.loop-octet.register _ c.loop-octet.invariant.bound
    c.loop-octet.invariant.short c.if-count-gt0.true
    (one_shl (8 - c.loop-octet.count) 64 (omega (arith, c.loop-octet.invariant.short))) in
    omega (arith, fits)

pub returns-in_ok-push : goal.returns-in_ok-push
returns-in_ok-push c =
    rw c.in_ok-push.ensures.items
    (spells_padded c.args.out.now.items c.loop-octet.out.items c.args.octets.now
    c.loop-octet.octet-index c.loop-octet.count c.loop-octet.register _ _
    c.loop-octet-test.false c.loop-octet.invariant c.if-count-gt0.true
    (one_shl (8 - c.loop-octet.count) 64 (omega (arith, c.loop-octet.invariant.short))) refl)

pub returns-else-count-gt0 : goal.returns-else-count-gt0
returns-else-count-gt0 c =
    spells_all c.args.out.now.items c.loop-octet.out.items c.args.octets.now
    c.loop-octet.octet-index c.loop-octet.count c.loop-octet.register
    c.loop-octet-test.false c.loop-octet.invariant (omega (arith, c.if-count-gt0.false))
