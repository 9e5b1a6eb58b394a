-- What each frame outside a header block means (RFC 9113, section 6).
use Rattle.std.specs.Prelude.{◌≡◌, ◌⊎◌, ℕ, ◌==◌, Bool, true, false, List, [], ◌∷◌}
use Rattle.h2frame.specs.declared.frame.Frame.{Frame}
use Rattle.h2frame.specs.declared.kind.FrameKind.{FrameKind}
use Rattle.h2frame.specs.declared.kind.FrameKind.TheVariants.{
  Data,
  Headers,
  Priority,
  RstStream,
  Settings,
  PushPromise,
  Ping,
  GoAway,
  WindowUpdate,
  Continuation,
  Unknown,
}
use Rattle.h2frame.specs.Flags.{has, ack}
use Rattle.streamstates.specs.declared.halves.FrameAction.{FrameAction}
use Rattle.streamstates.specs.Halves.{Event, verdict}
use Rattle.reasons.specs.declared.Reason.{Reason}
use Rattle.reasons.specs.declared.Reason.TheVariants as reason
use Rattle.session.specs.declared.event.PeerControl.TheVariants as controls
use Rattle.session.specs.declared.event.InEvent.{InEvent}
use Rattle.session.specs.declared.event.InEvent.TheVariants as events
use Rattle.h2frame.specs.declared.settings.PeerSetting.{PeerSetting}
use Rattle.session.specs.Settings.{Tells, IsRefused}
use Rattle.session.specs.Streams.{
  after_frame,
  data_events,
  reset_events,
  window_event,
  window_events,
}

-- the connection ends for this reason
abbrev pub fatal : Reason → List InEvent
fatal why = events.Fatal why ∷ []

-- SETTINGS with ACK have no event; one faulty parameter refuses the whole frame
abbrev pub SettingsGive : Bool → List ℕ → List InEvent → Type 0
SettingsGive true content given = given ≡ []
SettingsGive false content given =
    ((settings : List PeerSetting) × Tells content settings
    × (given ≡ events.Control (controls.Settings settings) ∷ []))
    ⊎ ((why : Reason) × IsRefused content why × (given ≡ fatal why))

-- PING has an event unless it is an acknowledgement
abbrev pub ping_events : Bool → List ℕ → List InEvent
ping_events true content = []
ping_events false content = events.Control (controls.Ping content) ∷ []

-- a frame of a stream: its events by its verdict, and the history after it
abbrev pub OnStream : (FrameAction → Frame → List InEvent) → List Event → Frame → List InEvent
    → List Event → Type 0
OnStream events_of history frame given next =
    (given ≡ events_of (verdict history frame.head) frame)
    × (next ≡ after_frame (verdict history frame.head) frame.head history)

-- a frame of the connection leaves the history as it is
abbrev pub OnConnection : List InEvent → List Event → List InEvent → List Event → Type 0
OnConnection due history given next = (given ≡ due) × (next ≡ history)

-- WINDOW_UPDATE on stream 0 concerns the connection
abbrev pub WindowGives : Bool → List Event → Frame → List InEvent → List Event → Type 0
WindowGives true history frame given next =
    OnConnection (window_event frame ∷ []) history given next
WindowGives false history frame given next = OnStream window_events history frame given next

-- The frame has these events, and leads from one history to the next. HEADERS are judged with their
-- whole block.
abbrev pub KindGives : FrameKind → List Event → Frame → List InEvent → List Event → Type 0
KindGives Data history frame given next = OnStream data_events history frame given next
KindGives RstStream history frame given next = OnStream reset_events history frame given next
KindGives WindowUpdate history frame given next =
    WindowGives (frame.head.stream == 0) history frame given next
KindGives Settings history frame given next =
    SettingsGive (has ack frame.head.flags) frame.content given × (next ≡ history)
KindGives Ping history frame given next =
    OnConnection (ping_events (has ack frame.head.flags) frame.content) history given next
KindGives GoAway history frame given next = OnConnection (events.PeerGoaway ∷ []) history given next
KindGives PushPromise history frame given next = OnConnection (fatal reason.Push) history given next
KindGives Continuation history frame given next =
    OnConnection (fatal reason.Lone) history given next
KindGives Priority history frame given next = OnConnection [] history given next
KindGives (Unknown code) history frame given next = OnConnection [] history given next
KindGives Headers history frame given next = ⊥

abbrev pub Gives : List Event → Frame → List InEvent → List Event → Type 0
Gives history frame given next = KindGives frame.head.kind history frame given next
