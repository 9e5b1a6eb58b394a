-- A group of frames has one outcome.
use Rattle.std.proofs.Common.{
  ◌≡◌,
  ℕ,
  Bool,
  true,
  false,
  List,
  [],
  ◌∷◌,
  sym,
  ap,
  subst,
  ◌∙◌,
  inl,
  inr,
}
use Rattle.std.specs.Prelude.{Option, ◌==◌}
use Rattle.std.proofs.lemmas.Bool.{true≢false}
use Rattle.h2frame.specs.declared.frame.Frame.{Frame}
use Rattle.h2frame.specs.declared.frame.FrameHead.{FrameHead}
use Rattle.h2frame.specs.declared.kind.FrameKind.{FrameKind}
use Rattle.h2frame.specs.declared.kind.FrameKind.TheVariants.{
  Data,
  Headers,
  Priority,
  RstStream,
  Settings,
  PushPromise,
  Ping,
  GoAway,
  WindowUpdate,
  Continuation,
  Unknown,
}
use Rattle.h2frame.specs.Flags.{has, ack}
use Rattle.lists.specs.declared.field.Field.{Field}
use Rattle.hpack_codec.specs.Table.{Table}
use Rattle.hpack_codec.proofs.NoFault.{only_fields, only_memory}
use Rattle.callhead.specs.declared.head.CallHead.{CallHead}
use Rattle.callhead.specs.declared.fault.HeadFault.{HeadFault}
use Rattle.hpack_codec.proofs.OneBlock.{fault_one}
use Rattle.callhead.proofs.OneHead.{head_one, head_or_fault, head_fault_one}
use Rattle.streamstates.specs.declared.halves.FrameAction.{FrameAction}
use Rattle.streamstates.specs.declared.halves.FrameAction.TheVariants.{
  Open,
  Accept,
  Discard,
  StreamError,
  ConnectionError,
}
use Rattle.streamstates.specs.Halves.{Event, verdict}
use Rattle.hpack_codec.specs.declared.fault.HpackFault.{HpackFault}
use Rattle.reasons.specs.declared.Reason.{Reason}
use Rattle.reasons.specs.declared.Reason.TheVariants as reason
use Rattle.session.specs.declared.event.PeerControl.TheVariants as controls
use Rattle.session.specs.declared.event.InEvent.{InEvent}
use Rattle.session.specs.declared.event.InEvent.TheVariants as events
use Rattle.h2frame.specs.declared.settings.PeerSetting.{PeerSetting}
use Rattle.session.specs.Streams.{after_frame, end_of}
use Rattle.session.specs.Frames.{fatal, SettingsGive, WindowGives, KindGives}
use Rattle.session.specs.Blocks.{bad_head_events, after_bad_head, HeadGives, FieldsGive, BlockGives}
use Rattle.session.specs.Events.{Situation, Group, Single, Credit, Block, GroupGives, IsCalm}
use Rattle.session.proofs.OneSettings.{tells_one, refused_one, told_or_refused}

both : {X Y : Type 0} (a b due : X) (x y to : Y) → (a ≡ due) × (x ≡ to) → (b ≡ due) × (y ≡ to)
    → (a ≡ b) × (x ≡ y)
both a b due x y to (e, f) (g, h) = (e ∙ sym g, f ∙ sym h)

-- ---- frames that are no part of a header block

settings_one : (acked : Bool) (content : List ℕ) (given other : List InEvent)
    → SettingsGive acked content given → SettingsGive acked content other → given ≡ other
settings_one true content given other e f = e ∙ sym f
settings_one false content given other (inl (settings, tells, e)) (inl (others, also, f)) =
    e
    ∙ ap (λ (s : List PeerSetting). events.Control (controls.Settings s) ∷ [])
    (tells_one content settings others tells also)
    ∙ sym f
settings_one false content given other (inl (settings, tells, e)) (inr (error, refused, f)) =
    absurd (told_or_refused content settings error tells refused)
settings_one false content given other (inr (error, refused, e)) (inl (settings, tells, f)) =
    absurd (told_or_refused content settings error tells refused)
settings_one false content given other (inr (error, refused, e)) (inr (code, also, f)) =
    e ∙ ap (λ (why : Reason). fatal why) (refused_one content error code refused also) ∙ sym f

window_one : (connection : Bool) (history next last : List Event) (frame : Frame)
    (given other : List InEvent)
    → WindowGives connection history frame given next
    → WindowGives connection history frame other last → (given ≡ other) × (next ≡ last)
window_one true history next last frame given other g h = both given other _ next last _ g h
window_one false history next last frame given other g h = both given other _ next last _ g h

kind_one : (kind : FrameKind) (history next last : List Event) (frame : Frame)
    (given other : List InEvent)
    → KindGives kind history frame given next → KindGives kind history frame other last
    → (given ≡ other) × (next ≡ last)
kind_one Data history next last frame given other g h = both given other _ next last _ g h
kind_one RstStream history next last frame given other g h = both given other _ next last _ g h
kind_one WindowUpdate history next last frame given other g h =
    window_one (frame.head.stream == 0) history next last frame given other g h
kind_one Settings history next last frame given other g h =
    (settings_one (has ack frame.head.flags) frame.content given other g.0 h.0, g.1 ∙ sym h.1)
kind_one Ping history next last frame given other g h = both given other _ next last _ g h
kind_one GoAway history next last frame given other g h = both given other _ next last _ g h
kind_one PushPromise history next last frame given other g h = both given other _ next last _ g h
kind_one Continuation history next last frame given other g h = both given other _ next last _ g h
kind_one Priority history next last frame given other g h = both given other _ next last _ g h
kind_one (Unknown code) history next last frame given other g h = both given other _ next last _ g h
kind_one Headers history next last frame given other g h = absurd g

-- ---- header blocks

head_gives_one : (head : FrameHead) (fields : List Field) (history next last : List Event)
    (given other : List InEvent)
    → HeadGives head fields history given next → HeadGives head fields history other last
    → (given ≡ other) × (next ≡ last)
head_gives_one head fields history next last given other (inl (call, is, e, f))
    (inl (call', is', e', f')) = (
      e
          ∙ ap (λ (c : CallHead). events.Open head.stream c ∷ end_of head)
          (head_one fields call call' is is')
          ∙ sym e',
      f ∙ sym f',
    )
head_gives_one head fields history next last given other (inl (call, is, e, f))
    (inr (fault, first, e', f')) = absurd (head_or_fault fault fields call is first)
head_gives_one head fields history next last given other (inr (fault, first, e, f))
    (inl (call, is, e', f')) = absurd (head_or_fault fault fields call is first)
head_gives_one head fields history next last given other (inr (fault, first, e, f))
    (inr (fault', first', e', f')) =
    let same = head_fault_one fields fault fault' first first' in (
      e ∙ ap (λ (x : HeadFault). bad_head_events x head) same ∙ sym e',
      f ∙ ap (λ (x : HeadFault). after_bad_head x head.stream history) same ∙ sym f',
    )

fields_give_one : (judged : FrameAction) (head : FrameHead) (fields : List Field)
    (history next last : List Event) (given other : List InEvent)
    → FieldsGive judged head fields history given next
    → FieldsGive judged head fields history other last → (given ≡ other) × (next ≡ last)
fields_give_one Open head fields history next last given other g h =
    head_gives_one head fields history next last given other g h
fields_give_one Accept head fields history next last given other g h =
    both given other _ next last _ g h
fields_give_one Discard head fields history next last given other g h =
    both given other _ next last _ g h
fields_give_one (StreamError error) head fields history next last given other g h =
    both given other _ next last _ g h
fields_give_one (ConnectionError error) head fields history next last given other g h =
    both given other _ next last _ g h

pub not_calm_end : (given : List InEvent) (error : Reason) → given ≡ fatal error → IsCalm given → ⊥
not_calm_end given error e calm = true≢false (subst IsCalm e calm)

block_one : (kept kept_next kept_last : Option Table) (head : FrameHead) (judged : FrameAction)
    (block : List ℕ) (history next last : List Event) (given other : List InEvent)
    → BlockGives kept head judged block history given next kept_next
    → BlockGives kept head judged block history other last kept_last
    → (given ≡ other) × (IsCalm given → (next ≡ last) × (kept_next ≡ kept_last))
block_one kept kept_next kept_last head judged block history next last given other
    (inl (fields, reads, gives)) (inl (gs, also, gives')) =
    let same = only_fields kept kept_next kept_last block fields gs also reads in
    let one =
    fields_give_one judged head gs history next last given other (subst
    (λ (fs : List Field). FieldsGive judged head fs history given next)
    same.0 gives) gives' in
    (one.0, λ calm. (one.1, same.1))
block_one kept kept_next kept_last head judged block history next last given other
    (inl (fields, reads, gives)) (inr (fault, first, live, e, f)) =
    absurd (live (only_memory fault kept kept_next block fields reads first))
block_one kept kept_next kept_last head judged block history next last given other
    (inr (fault, first, live, e, f)) (inl (fields, reads, gives)) =
    absurd (live (only_memory fault kept kept_last block fields reads first))
block_one kept kept_next kept_last head judged block history next last given other
    (inr (fault, first, live, e, f)) (inr (fault', first', live', e', f')) = (
      e
          ∙ ap (λ (f : HpackFault). fatal (reason.Hpack f))
          (fault_one fault fault' kept block first first' live live')
          ∙ sym e',
      λ calm. absurd (not_calm_end given (reason.Hpack fault) e calm),
    )

-- ---- groups

abbrev situation_of : List Event → Option Table → Situation
situation_of history kept = record { history = history; kept = kept }

same_situation : (s t : Situation) → s.history ≡ t.history → s.kept ≡ t.kept → s ≡ t
same_situation s t history kept =
    ap (λ (h : List Event). situation_of h s.kept) history
    ∙ ap (λ (k : Option Table). situation_of t.history k) kept

pub group_one : (old new last : Situation) (group : Group) (given other : List InEvent)
    → GroupGives old group given new → GroupGives old group other last
    → (given ≡ other) × (IsCalm given → new ≡ last)
group_one old new last (Single frame) given other g h =
    let one =
    kind_one frame.head.kind old.history new.history last.history frame given other g.0 h.0 in
    (one.0, λ calm. same_situation new last one.1 (g.1 ∙ sym h.1))
group_one old new last (Credit id) given other g h =
    (g.0 ∙ sym h.0, λ calm. same_situation new last (g.1 ∙ sym h.1) (g.2 ∙ sym h.2))
group_one old new last (Block frames block) given other g h =
    let judged = verdict old.history block.head in
    let one =
    block_one old.kept new.kept last.kept block.head judged block.block
    (after_frame judged block.head old.history) new.history last.history given other g.2 h.2 in
    (one.0, λ calm. let same = one.1 calm in same_situation new last same.0 same.1)
