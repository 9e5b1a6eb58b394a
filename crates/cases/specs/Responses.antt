-- What a server may send on a stream that the client opened, by what it sent there before: RFC
-- 9113, sections 5.1 and 8.1.
use Rattle.std.specs.Prelude.{Bool, true, false, if◌then◌else◌}
use Rattle.h2frame.specs.declared.frame.FrameHead.{FrameHead}
use Rattle.h2frame.specs.declared.kind.FrameKind.{FrameKind}
use Rattle.h2frame.specs.declared.kind.FrameKind.TheVariants.{Data, Headers, RstStream}
use Rattle.h2frame.specs.Flags.{has, end_stream}
use Rattle.cases.specs.declared.response.Phase.{Phase}
use Rattle.cases.specs.declared.response.Phase.TheVariants.{
  Waiting,
  Answering,
  Ended,
  Reset,
  Cancelled,
}

-- by the frame's type, and whether it has END_STREAM
abbrev pub is_lawful_kind : Phase → FrameKind → Bool → Bool
-- what follows the client's RST_STREAM was on its way (section 5.4.2)
is_lawful_kind Cancelled _ _ = true
-- after the server's own comes no other frame; one more of them may (section 5.4.2)
is_lawful_kind Reset RstStream _ = true
is_lawful_kind Reset _ _ = false
-- after END_STREAM, neither DATA nor HEADERS
is_lawful_kind Ended Data _ = false
is_lawful_kind Ended Headers _ = false
is_lawful_kind Ended _ _ = true
-- a response begins with HEADERS
is_lawful_kind Waiting Data _ = false
is_lawful_kind Waiting _ _ = true
-- the HEADERS after those are trailers
is_lawful_kind Answering Headers ended = ended
is_lawful_kind Answering _ _ = true

abbrev pub is_lawful : Phase → FrameHead → Bool
is_lawful phase head = is_lawful_kind phase head.kind (has end_stream head.flags)

abbrev pub phase_behind : Phase → FrameKind → Bool → Phase
phase_behind Cancelled _ _ = Cancelled
phase_behind _ RstStream _ = Reset
phase_behind Waiting Data ended = if ended then Ended else Answering
phase_behind Waiting Headers ended = if ended then Ended else Answering
phase_behind Answering Data ended = if ended then Ended else Answering
phase_behind Answering Headers ended = if ended then Ended else Answering
phase_behind phase _ _ = phase

abbrev pub phase_after : Phase → FrameHead → Phase
phase_after phase head = phase_behind phase head.kind (has end_stream head.flags)
