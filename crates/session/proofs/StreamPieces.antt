-- The data that groups tell of a stream.
use Rattle.std.proofs.Common.{
  ◌≡◌,
  ◌≢◌,
  ℕ,
  ◌⊎◌,
  inl,
  inr,
  Bool,
  true,
  false,
  ◌&&◌,
  ◌||◌,
  nat_eq,
  List,
  [],
  ◌∷◌,
  ◌++◌,
  refl,
  sym,
  ap,
  subst,
  ◌∙◌,
}
use Rattle.std.specs.Prelude.{Option, ◌==◌, if◌then◌else◌}
use Rattle.std.specs.List.{list_any}
use Rattle.std.proofs.lemmas.List.Folds.{list_any-append}
use Rattle.std.proofs.lemmas.Grind.{flat_map-append}
use Rattle.h2frame.specs.declared.frame.Frame.{Frame}
use Rattle.h2frame.specs.declared.frame.FrameHead.{FrameHead}
use Rattle.h2frame.specs.declared.kind.FrameKind.{FrameKind}
use Rattle.h2frame.specs.declared.kind.FrameKind.TheVariants.{
  Data,
  Headers,
  Priority,
  RstStream,
  Settings,
  PushPromise,
  Ping,
  GoAway,
  WindowUpdate,
  Continuation,
  Unknown,
}
use Rattle.h2frame.specs.Flags.{has, ack, end_stream}
use Rattle.h2frame.specs.declared.error_code.ErrorCode.TheVariants.{ProtocolError}
use Rattle.lists.specs.declared.field.Field.{Field}
use Rattle.hpack_codec.specs.Table.{Table}
use Rattle.callhead.specs.MalformedHeads.{are_malformed_trailers}
use Rattle.callhead.specs.declared.fault.HeadFault.{HeadFault}
use Rattle.callhead.specs.declared.fault.HeadFault.TheVariants.{Malformed}
use Rattle.streamstates.specs.declared.halves.FrameAction.{FrameAction}
use Rattle.streamstates.specs.declared.halves.FrameAction.TheVariants.{
  Open,
  Accept,
  Discard,
  StreamError,
  ConnectionError,
}
use Rattle.streamstates.specs.Halves.{Event, Cut, verdict}
use Rattle.session.specs.declared.event.InEvent.{InEvent}
use Rattle.session.specs.declared.event.InEvent.TheVariants as events
use Rattle.session.specs.Streams.{
  counted,
  end_of,
  refusal,
  data_events,
  reset_events,
  window_events,
}
use Rattle.session.specs.Frames.{SettingsGive, ping_events, WindowGives, KindGives}
use Rattle.session.specs.Blocks.{
  bad_head_events,
  trailer_events,
  after_trailers,
  HeadGives,
  FieldsGive,
  BlockGives,
}
use Rattle.session.specs.StreamData.{piece_of, pieces, is_opening}

-- ---- events that tell nothing of a stream's data

abbrev pub IsSilent : ℕ → List InEvent → Type 0
IsSilent id given = (pieces id given ≡ []) × (list_any (is_opening id) given ≡ false)

pub pieces_append : (id : ℕ) (xs ys : List InEvent)
    → pieces id (xs ++ ys) ≡ pieces id xs ++ pieces id ys
pieces_append id xs ys = flat_map-append (λ (event : InEvent). piece_of id event) xs ys

pub silent_join : (id : ℕ) (xs ys : List InEvent) → IsSilent id xs → IsSilent id ys
    → IsSilent id (xs ++ ys)
silent_join id xs ys (p, o) (q, r) = (
  pieces_append id xs ys ∙ ap (λ (b : List ℕ). b ++ pieces id ys) p ∙ q,
  list_any-append (is_opening id) xs ys ∙ ap (λ (b : Bool). b || list_any (is_opening id) ys) o ∙ r,
)

pub silent_same : (id : ℕ) (given due : List InEvent) → given ≡ due → IsSilent id due
    → IsSilent id given
silent_same id given due e silent = subst (IsSilent id) (sym e) silent

pub end_silent : (id : ℕ) (head : FrameHead) → IsSilent id (end_of head)
end_silent id head =
    elim (has end_stream head.flags)
    as (λ (b : Bool). IsSilent id (if b then events.End head.stream ∷ [] else []))
    [ true ↦ (refl, refl) | false ↦ (refl, refl) ]

pub loose_silent : (id n : ℕ) → IsSilent id (counted n (events.Loose n))
loose_silent id n =
    elim (n == 0) as (λ (b : Bool). IsSilent id (if b then [] else events.Loose n ∷ []))
    [ true ↦ (refl, refl) | false ↦ (refl, refl) ]

pub refusal_silent : (id : ℕ) (judged : FrameAction) (head : FrameHead)
    → IsSilent id (refusal judged head)
refusal_silent id Open head = (refl, refl)
refusal_silent id Accept head = (refl, refl)
refusal_silent id Discard head = (refl, refl)
refusal_silent id (StreamError error) head = (refl, refl)
refusal_silent id (ConnectionError error) head = (refl, refl)

pub data_silent : (id : ℕ) (judged : FrameAction) (frame : Frame) → judged ≢ Accept
    → IsSilent id (data_events judged frame)
data_silent id Accept frame not = absurd (not refl)
data_silent id (ConnectionError error) frame not = (refl, refl)
data_silent id Open frame not =
    silent_join id (counted frame.head.length (events.Loose frame.head.length)) []
    (loose_silent id frame.head.length) (refl, refl)
data_silent id Discard frame not =
    silent_join id (counted frame.head.length (events.Loose frame.head.length)) []
    (loose_silent id frame.head.length) (refl, refl)
data_silent id (StreamError error) frame not =
    silent_join id (counted frame.head.length (events.Loose frame.head.length))
    (events.StreamError frame.head.stream error ∷ [])
    (loose_silent id frame.head.length) (refl, refl)

-- DATA open no stream
pub data_untold : (id : ℕ) (judged : FrameAction) (frame : Frame)
    → list_any (is_opening id) (data_events judged frame) ≡ false
data_untold id Accept frame =
    list_any-append (is_opening id) (counted frame.head.length
    (events.Data frame.head.stream frame.content frame.head.length)) (end_of frame.head)
    ∙ ap (λ (b : Bool). b || list_any (is_opening id) (end_of frame.head))
    (elim (frame.head.length == 0) as (λ (b : Bool).
    list_any (is_opening id)
    (if b then [] else events.Data frame.head.stream frame.content frame.head.length ∷ [])
    ≡ false) [ true ↦ refl | false ↦ refl ])
    ∙ (end_silent id frame.head).1
data_untold id Open frame = (data_silent id Open frame (λ (e : Open ≡ Accept). cc)).1
data_untold id Discard frame = (data_silent id Discard frame (λ (e : Discard ≡ Accept). cc)).1
data_untold id (StreamError error) frame =
    (data_silent id (StreamError error) frame (λ (e : StreamError error ≡ Accept). cc)).1
data_untold id (ConnectionError error) frame =
    (data_silent id (ConnectionError error) frame (λ (e : ConnectionError error ≡ Accept). cc)).1

piece_silent : (id : ℕ) (frame : Frame) (b : Bool) → nat_eq id frame.head.stream ≡ b → b ≡ false
    → IsSilent id (events.Data frame.head.stream frame.content frame.head.length ∷ [])
piece_silent id frame true on other = absurd cc
piece_silent id frame false on other =
    (ap (λ (b : Bool). (if b then frame.content else []) ++ []) on, refl)

pub data_elsewhere : (id : ℕ) (judged : FrameAction) (frame : Frame)
    → nat_eq id frame.head.stream ≡ false → IsSilent id (data_events judged frame)
data_elsewhere id Accept frame other =
    silent_join id (counted frame.head.length
    (events.Data frame.head.stream frame.content frame.head.length)) (end_of frame.head)
    (elim (frame.head.length == 0) as (λ (b : Bool).
    IsSilent id (if b then []
    else events.Data frame.head.stream frame.content frame.head.length ∷ []))
    [ true ↦ (refl, refl) | false ↦ piece_silent id frame false other refl ])
    (end_silent id frame.head)
data_elsewhere id Open frame other = data_silent id Open frame (λ (e : Open ≡ Accept). cc)
data_elsewhere id Discard frame other = data_silent id Discard frame (λ (e : Discard ≡ Accept). cc)
data_elsewhere id (StreamError error) frame other =
    data_silent id (StreamError error) frame (λ (e : StreamError error ≡ Accept). cc)
data_elsewhere id (ConnectionError error) frame other =
    data_silent id (ConnectionError error) frame (λ (e : ConnectionError error ≡ Accept). cc)

reset_silent : (id : ℕ) (judged : FrameAction) (frame : Frame)
    → IsSilent id (reset_events judged frame)
reset_silent id Accept frame = (refl, refl)
reset_silent id Open frame = (refl, refl)
reset_silent id Discard frame = (refl, refl)
reset_silent id (StreamError error) frame = (refl, refl)
reset_silent id (ConnectionError error) frame = (refl, refl)

credit_silent : (id : ℕ) (judged : FrameAction) (frame : Frame)
    → IsSilent id (window_events judged frame)
credit_silent id Accept frame = (refl, refl)
credit_silent id Open frame = (refl, refl)
credit_silent id Discard frame = (refl, refl)
credit_silent id (StreamError error) frame = (refl, refl)
credit_silent id (ConnectionError error) frame = (refl, refl)

settings_silent : (id : ℕ) (acked : Bool) (content : List ℕ) (given : List InEvent)
    → SettingsGive acked content given → IsSilent id given
settings_silent id true content given e = silent_same id given [] e (refl, refl)
settings_silent id false content given (inl (settings, tells, e)) =
    silent_same id given _ e (refl, refl)
settings_silent id false content given (inr (error, refused, e)) =
    silent_same id given _ e (refl, refl)

ping_silent : (id : ℕ) (acked : Bool) (content : List ℕ) → IsSilent id (ping_events acked content)
ping_silent id true content = (refl, refl)
ping_silent id false content = (refl, refl)

window_silent : (id : ℕ) (connection : Bool) (history next : List Event) (frame : Frame)
    (given : List InEvent)
    → WindowGives connection history frame given next → IsSilent id given
window_silent id true history next frame given (e, same) = silent_same id given _ e (refl, refl)
window_silent id false history next frame given (e, same) =
    silent_same id given _ e (credit_silent id (verdict history frame.head) frame)

-- every frame but DATA
pub kind_silent : (id : ℕ) (kind : FrameKind) (history next : List Event) (frame : Frame)
    (given : List InEvent)
    → kind ≢ Data → KindGives kind history frame given next → IsSilent id given
kind_silent id Data history next frame given not gives = absurd (not refl)
kind_silent id RstStream history next frame given not (e, same) =
    silent_same id given _ e (reset_silent id (verdict history frame.head) frame)
kind_silent id WindowUpdate history next frame given not gives =
    window_silent id (frame.head.stream == 0) history next frame given gives
kind_silent id Settings history next frame given not (gives, same) =
    settings_silent id (has ack frame.head.flags) frame.content given gives
kind_silent id Ping history next frame given not (e, same) =
    silent_same id given _ e (ping_silent id (has ack frame.head.flags) frame.content)
kind_silent id GoAway history next frame given not (e, same) = silent_same id given _ e (refl, refl)
kind_silent id PushPromise history next frame given not (e, same) =
    silent_same id given _ e (refl, refl)
kind_silent id Continuation history next frame given not (e, same) =
    silent_same id given _ e (refl, refl)
kind_silent id Priority history next frame given not (e, same) =
    silent_same id given _ e (refl, refl)
kind_silent id (Unknown code) history next frame given not (e, same) =
    silent_same id given _ e (refl, refl)
kind_silent id Headers history next frame given not gives = absurd gives

-- ---- header blocks

-- the history behind the fields of a block: a stream may be reset for them
abbrev pub IsNextOf : ℕ → List Event → List Event → Type 0
IsNextOf id history next = (next ≡ history) ⊎ (next ≡ Cut id ∷ history)

bad_head_pieces : (id : ℕ) (fault : HeadFault) (head : FrameHead)
    → pieces id (bad_head_events fault head) ≡ []
bad_head_pieces id Malformed head = refl
bad_head_pieces id _ head = (end_silent id head).0

trailers_silent : (id : ℕ) (malformed : Bool) (head : FrameHead)
    → IsSilent id (trailer_events malformed head)
trailers_silent id true head = refusal_silent id (StreamError ProtocolError) head
trailers_silent id false head = end_silent id head

pub trailers_next : (malformed : Bool) (id : ℕ) (history next : List Event)
    → next ≡ after_trailers malformed id history → IsNextOf id history next
trailers_next true id history next same = inr same
trailers_next false id history next same = inl same

pub head_pieces : (id : ℕ) (head : FrameHead) (fields : List Field) (history next : List Event)
    (given : List InEvent)
    → HeadGives head fields history given next → pieces id given ≡ []
head_pieces id head fields history next given (inl (call, is, e, same)) =
    ap (pieces id) e ∙ (end_silent id head).0
head_pieces id head fields history next given (inr (fault, first, e, same)) =
    ap (pieces id) e ∙ bad_head_pieces id fault head

fields_pieces : (id : ℕ) (judged : FrameAction) (head : FrameHead) (fields : List Field)
    (history next : List Event) (given : List InEvent)
    → FieldsGive judged head fields history given next → pieces id given ≡ []
fields_pieces id Open head fields history next given gives =
    head_pieces id head fields history next given gives
fields_pieces id Accept head fields history next given (e, same) =
    (silent_same id given _ e (trailers_silent id (are_malformed_trailers fields) head)).0
fields_pieces id Discard head fields history next given (e, same) =
    (silent_same id given _ e (refusal_silent id Discard head)).0
fields_pieces id (StreamError error) head fields history next given (e, same) =
    (silent_same id given _ e (refusal_silent id (StreamError error) head)).0
fields_pieces id (ConnectionError error) head fields history next given (e, same) =
    (silent_same id given _ e (refusal_silent id (ConnectionError error) head)).0

pub block_pieces : (id : ℕ) (kept kept_next : Option Table) (head : FrameHead)
    (judged : FrameAction) (block : List ℕ) (history next : List Event) (given : List InEvent)
    → BlockGives kept head judged block history given next kept_next → pieces id given ≡ []
block_pieces id kept kept_next head judged block history next given (inl (fields, reads, gives)) =
    fields_pieces id judged head fields history next given gives
block_pieces id kept kept_next head judged block history next given
    (inr (fault, first, memory, e, same)) = (silent_same id given _ e (refl, refl)).0

fields_silent : (id : ℕ) (judged : FrameAction) (head : FrameHead) (fields : List Field)
    (history next : List Event) (given : List InEvent)
    → judged ≢ Open → FieldsGive judged head fields history given next
    → IsSilent id given × IsNextOf head.stream history next
fields_silent id Open head fields history next given not gives = absurd (not refl)
fields_silent id Accept head fields history next given not (e, same) = (
  silent_same id given _ e (trailers_silent id (are_malformed_trailers fields) head),
  trailers_next (are_malformed_trailers fields) head.stream history next same,
)
fields_silent id Discard head fields history next given not (e, same) =
    (silent_same id given _ e (refusal_silent id Discard head), inl same)
fields_silent id (StreamError error) head fields history next given not (e, same) =
    (silent_same id given _ e (refusal_silent id (StreamError error) head), inl same)
fields_silent id (ConnectionError error) head fields history next given not (e, same) =
    (silent_same id given _ e (refusal_silent id (ConnectionError error) head), inl same)

-- a block whose HEADERS don't open their stream
pub block_silent : (id : ℕ) (kept kept_next : Option Table) (head : FrameHead)
    (judged : FrameAction) (block : List ℕ) (history next : List Event) (given : List InEvent)
    → judged ≢ Open → BlockGives kept head judged block history given next kept_next
    → IsSilent id given × IsNextOf head.stream history next
block_silent id kept kept_next head judged block history next given not
    (inl (fields, reads, gives)) = fields_silent id judged head fields history next given not gives
block_silent id kept kept_next head judged block history next given not
    (inr (fault, first, memory, e, same)) = (silent_same id given _ e (refl, refl), inl same)

-- the head of another stream
pub bad_head_elsewhere : (id : ℕ) (fault : HeadFault) (head : FrameHead)
    → nat_eq id head.stream ≡ false → list_any (is_opening id) (bad_head_events fault head) ≡ false
bad_head_elsewhere id Malformed head other = ap (λ (b : Bool). (b && false) || false) other
bad_head_elsewhere id _ head other = rw (other, (end_silent id head).1) refl
