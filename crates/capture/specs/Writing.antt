-- The heads that are written, as bytes.
use Rattle.std.specs.Prelude.{ℕ, List, [], ◌∷◌, ◌++◌}
use Rattle.std.specs.Int.{w16, w32, to_be_bytes, to_le_bytes}
use Rattle.capture.specs.declared.packet.SegmentHead.{SegmentHead}
use Rattle.capture.specs.declared.packet.Time.{Time}

-- with the largest window, and no urgent data
unfoldable pub segment_head : SegmentHead → ℕ → List ℕ
segment_head head checksum =
    to_be_bytes w16 head.path.from_port
    ++ (to_be_bytes w16 head.path.to_port ++ (to_be_bytes w32 head.sequence
    ++ (to_be_bytes w32 head.acknowledged
    ++ (0x50 ∷ head.flags.bits ∷ 0xff ∷ 0xff ∷ (to_be_bytes w16 checksum ++ (0 ∷ 0 ∷ []))))))

-- not to be cut, through 64 routers at most
unfoldable pub v4_head : ℕ → ℕ → List ℕ
v4_head size checksum =
    0x45 ∷ 0 ∷ (to_be_bytes w16 size ++ (0 ∷ 0 ∷ 0x40 ∷ 0 ∷ 64 ∷ 6 ∷ to_be_bytes w16 checksum))

unfoldable pub v6_head : ℕ → List ℕ
v6_head size = 0x60 ∷ 0 ∷ 0 ∷ 0 ∷ (to_be_bytes w16 size ++ (6 ∷ 64 ∷ []))

unfoldable pub record_head : Time → ℕ → List ℕ
record_head time size =
    to_le_bytes w32 time.seconds
    ++ (to_le_bytes w32 time.micros ++ (to_le_bytes w32 size ++ to_le_bytes w32 size))
