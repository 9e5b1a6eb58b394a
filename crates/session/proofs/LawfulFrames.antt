-- What a lawful frame's length and stream are, by its kind.
use Rattle.std.proofs.Common.{
  ◌≡◌,
  ℕ,
  ◌%◌,
  ◌<◌,
  ◌≤◌,
  Bool,
  true,
  false,
  length,
  refl,
  ap,
  subst,
  ◌∙◌,
  cond,
  arith,
}
use Rattle.std.specs.Prelude.{Option, Some, None, ◌==◌, nat_lt}
use Rattle.std.specs.Option.{option_or}
use Rattle.std.proofs.lemmas.Bool.{eqb-true, ltb-true, ltb-false}
use Rattle.h2frame.specs.declared.error_code.ErrorCode.{ErrorCode}
use Rattle.h2frame.specs.declared.fault.FrameFault.{FrameFault}
use Rattle.h2frame.specs.declared.fault.FrameFault.TheVariants.{TooLong, BadLength, WrongStream}
use Rattle.h2frame.specs.declared.frame.Frame.{Frame}
use Rattle.h2frame.specs.declared.kind.FrameKind.{FrameKind}
use Rattle.h2frame.specs.declared.kind.FrameKind.TheVariants.{
  Data,
  Ping,
  RstStream,
  Settings,
  WindowUpdate,
}
use Rattle.h2frame.specs.Flags.{has, ack, is_padded_kind, has_priority_kind}
use Rattle.h2frame.specs.Faults.{max_payload, may_be_on, may_have_length, head_fault}
use Rattle.h2frame.specs.FrameList.{IsLawful}
use Rattle.streamstates.specs.declared.halves.FrameAction.{FrameAction}
use Rattle.streamstates.specs.declared.halves.FrameAction.TheVariants.{
  Open,
  Accept,
  Discard,
  StreamError,
  ConnectionError,
}
use Rattle.streamstates.specs.Halves.{is_connection_error, may_be_unbegun}
use Rattle.session.specs.Streams.{is_accepted, without_increment}

no_fault_first : (a b : Option FrameFault) → option_or a b ≡ None → a ≡ None
no_fault_first None b e = refl
no_fault_first (Some x) b e = absurd cc

no_fault_parts : (long on len : Bool)
    → cond long (Some TooLong) (cond on (cond len None (Some BadLength)) (Some WrongStream)) ≡ None
    → (on ≡ true) × (len ≡ true)
no_fault_parts true on len e = absurd cc
no_fault_parts false true true e = (refl, refl)
no_fault_parts false true false e = absurd cc
no_fault_parts false false len e = absurd cc

no_fault_long : (long : Bool) (other : Option FrameFault)
    → cond long (Some TooLong) other ≡ None → long ≡ false
no_fault_long true other e = absurd cc
no_fault_long false other e = refl

pub lawful_short : (frame : Frame) → IsLawful frame → length frame.content ≤ 16384
lawful_short frame is =
    let long =
    no_fault_long (nat_lt max_payload frame.head.length) _
    (no_fault_first (head_fault frame.head) _ is.fault) in
    omega (arith, is.within, ltb-false max_payload frame.head.length long)

parts : (frame : Frame) → IsLawful frame
    → (may_be_on frame.head.kind frame.head.stream ≡ true)
    × (may_have_length frame.head.kind frame.head ≡ true)
parts frame is = no_fault_parts _ _ _ (no_fault_first (head_fault frame.head) _ is.fault)

pub on_stream : (frame : Frame) → IsLawful frame
    → may_be_on frame.head.kind frame.head.stream ≡ true
on_stream frame is = (parts frame is).0

pub data_stream : (frame : Frame) → IsLawful frame → frame.head.kind ≡ Data → 0 < frame.head.stream
data_stream frame is kind =
    ltb-true 0 frame.head.stream
    (subst (λ (k : FrameKind). may_be_on k frame.head.stream ≡ true) kind (on_stream frame is))

pub reset_stream : (frame : Frame) → IsLawful frame → frame.head.kind ≡ RstStream
    → 0 < frame.head.stream
reset_stream frame is kind =
    ltb-true 0 frame.head.stream
    (subst (λ (k : FrameKind). may_be_on k frame.head.stream ≡ true) kind (on_stream frame is))

all_content : (frame : Frame) → IsLawful frame → (k : FrameKind) → frame.head.kind ≡ k
    → is_padded_kind k frame.head.flags ≡ false → has_priority_kind k frame.head.flags ≡ false
    → length frame.content ≡ frame.head.length
all_content frame is k kind p q =
    is.whole (ap (λ (j : FrameKind). is_padded_kind j frame.head.flags) kind ∙ p)
    (ap (λ (j : FrameKind). has_priority_kind j frame.head.flags) kind ∙ q)

length_of : (frame : Frame) → IsLawful frame → (k : FrameKind) → frame.head.kind ≡ k
    → may_have_length k frame.head ≡ true
length_of frame is k kind =
    subst (λ (j : FrameKind). may_have_length j frame.head ≡ true) kind (parts frame is).1

pub reset_length : (frame : Frame) → IsLawful frame → frame.head.kind ≡ RstStream
    → length frame.content ≡ 4
reset_length frame is kind =
    all_content frame is RstStream kind refl refl
    ∙ eqb-true frame.head.length 4 (length_of frame is RstStream kind)

pub ping_length : (frame : Frame) → IsLawful frame → frame.head.kind ≡ Ping
    → length frame.content ≡ 8
ping_length frame is kind =
    all_content frame is Ping kind refl refl
    ∙ eqb-true frame.head.length 8 (length_of frame is Ping kind)

pub window_length : (frame : Frame) → IsLawful frame → frame.head.kind ≡ WindowUpdate
    → length frame.content ≡ 4
window_length frame is kind =
    all_content frame is WindowUpdate kind refl refl
    ∙ eqb-true frame.head.length 4 (length_of frame is WindowUpdate kind)

settings_rule : (acked : Bool) (len : ℕ) → cond acked (len == 0) (len % 6 == 0) ≡ true
    → acked ≡ false → len % 6 ≡ 0
settings_rule true len e f = absurd cc
settings_rule false len e f = eqb-true (len % 6) 0 e

pub settings_length : (frame : Frame) → IsLawful frame → frame.head.kind ≡ Settings
    → has ack frame.head.flags ≡ false → length frame.content % 6 ≡ 0
settings_length frame is kind none =
    ap (λ (n : ℕ). n % 6) (all_content frame is Settings kind refl refl)
    ∙ settings_rule (has ack frame.head.flags) frame.head.length
    (length_of frame is Settings kind) none

-- what is made of a verdict by the lack of an increment is an error of the stream only where the
-- connection goes on
pub not_fatal : (judged : FrameAction) (error : ErrorCode)
    → without_increment judged ≡ StreamError error → is_connection_error judged ≡ false
not_fatal Open error e = refl
not_fatal Accept error e = refl
not_fatal Discard error e = refl
not_fatal (StreamError other) error e = refl
not_fatal (ConnectionError other) error e = absurd cc

-- where a frame is accepted, its stream was begun
pub accepted_begun : (judged : FrameAction) → is_accepted judged ≡ true
    → may_be_unbegun judged ≡ false
accepted_begun Open is = refl
accepted_begun Accept is = refl
accepted_begun Discard is = absurd cc
accepted_begun (StreamError error) is = absurd cc
accepted_begun (ConnectionError error) is = absurd cc
