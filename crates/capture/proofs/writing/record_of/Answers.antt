use Rattle.std.proofs.Common.{◌≡◌, ◌++◌, List, ℕ, length, refl, sym, ap, subst, ◌∙◌, arith, rules}
use Rattle.capture.specs.Format.{IsRecord, IsPacket}
use Rattle.capture.specs.Writing.{record_head}
use Rattle.capture.proofs.Written.{is_record}
use Rattle.capture.proofs.writing.record_of.Goals as goal

pub returns : goal.returns
returns c =
    let head = c.args.head in
    let payload = c.args.payload.now in
    let time = c.args.time in
    let segment = c.in_ok-segment.segment.items in
    let bytes = c.as_slice-bytes.result.now in
    let of_segment : IsPacket c.in_ok-packet.packet.items head.path.hosts segment =
    subst (λ (b : List ℕ). IsPacket c.in_ok-packet.packet.items head.path.hosts b)
    c.deref.ensures.value c.in_ok-packet.ensures.packet in
    let packet : IsPacket bytes head.path.hosts segment =
    subst (λ (b : List ℕ). IsPacket b head.path.hosts segment)
    (sym c.as_slice-bytes.ensures.value) of_segment in
    let text : c.in_ok-text.text.items ≡ record_head time (length bytes) ++ bytes =
    c.in_ok-text.ensures ∙ ap (λ (front : List ℕ). front ++ bytes) c.record_head-front.ensures in
    subst (λ (t : List ℕ).
    IsRecord t (record { time = time; head = head; payload = payload })) (sym text)
    (is_record time (length bytes) bytes segment head payload (search rules) (search rules) (omega (
      arith,
      c.in_ok-packet.ensures.size,
      ap (λ (b : List ℕ). length b) c.as_slice-bytes.ensures.value,
    )) refl packet c.in_ok-segment.ensures.checked c.in_ok-segment.ensures.segment)
