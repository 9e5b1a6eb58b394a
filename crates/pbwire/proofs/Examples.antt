-- Worked examples of the definitions: those of the encoding guide, and edges.
use Rattle.std.proofs.Common.{◌≡◌, ◌-◌, ◌^◌, [], ◌∷◌, None, refl, inl, inr, arith}
use Rattle.std.specs.Prelude.{codes}
use Rattle.pbwire.specs.declared.fault.WireFault.TheVariants.{BadTag}
use Rattle.pbwire.specs.Varint.{IsVarint, StartsWithVarint}
use Rattle.pbwire.specs.Fields.{varint, bytes, field_with, FaultAt, bad_tag, IsReading}
use Rattle.pbwire.specs.Spelling.{varint_spelling, spelling_of}
use Rattle.pbwire.specs.Reading.{varint_at, tag_at, content_at, field_at}
use Rattle.pbwire.proofs.FieldsRead.{field_from}

-- the guide's example: 96 01 is 150
guide_varint : IsVarint (0x96 ∷ 0x01 ∷ []) 150
guide_varint = record { terminated = omega arith; short = omega arith; value = refl }

-- a spelling of 0 that isn't the shortest
long_zero : IsVarint (0x80 ∷ 0x00 ∷ []) 0
long_zero = record { terminated = omega arith; short = omega arith; value = refl }

-- bits over 64 are dropped
dropped_bits : IsVarint (255 ∷ 255 ∷ 255 ∷ 255 ∷ 255 ∷ 255 ∷ 255 ∷ 255 ∷ 255 ∷ 2 ∷ []) (2 ^ 63 - 1)
dropped_bits = record { terminated = omega arith; short = omega arith; value = refl }

guide_spelling : varint_spelling 150 ≡ 0x96 ∷ 0x01 ∷ []
unfolding varint_spelling
guide_spelling = refl

-- the guide's message: 08 96 01 is field 1 with 150
guide_message : IsReading (0x08 ∷ 0x96 ∷ 0x01 ∷ []) (field_with 1 (varint 150) ∷ []) None
unfolding field_at varint_at tag_at content_at
guide_message =
    ([], field_from (0x08 ∷ 0x96 ∷ 0x01 ∷ []) (field_with 1 (varint 150)) [] (λ e. cc) refl, refl)

-- the guide's text: 12 07 and `testing` is field 2
guide_text : spelling_of (field_with 2 (bytes (codes "testing"))) ≡ 0x12 ∷ 0x07 ∷ codes "testing"
unfolding varint_spelling
guide_text = refl

one_byte : StartsWithVarint (3 ∷ []) 3 []
one_byte = record {
  spelling = 3 ∷ [];
  spelled = record { terminated = omega arith; short = omega arith; value = refl };
  parts = refl;
}

-- field number 0 is a bad tag, though its wire type starts a group
zero_group : FaultAt (3 ∷ []) BadTag
zero_group = bad_tag 3 [] one_byte (inr (inl refl))
