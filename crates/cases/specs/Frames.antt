-- Kinds and flags of frames that can be written: of a known kind, not padded, without priority (RFC
-- 9113, section 6).
use Rattle.std.specs.Prelude.{◌≡◌, false}
use Rattle.h2frame.specs.declared.kind.FrameKind.{FrameKind}
use Rattle.h2frame.specs.declared.flags.Flags.{Flags}
use Rattle.h2frame.specs.Kind.{kind_of, code_of}
use Rattle.h2frame.specs.Flags.{is_padded_kind, has_priority_kind}

pub record IsWritableShape (kind : FrameKind) (flags : Flags) : Type 0 where
  pub known : kind_of (code_of kind) ≡ kind
  pub not_padded : is_padded_kind kind flags ≡ false
  pub no_priority : has_priority_kind kind flags ≡ false
