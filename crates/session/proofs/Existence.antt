-- Each list of bytes has a list of events: its entries are taken group by group, and each group has
-- events.
use Rattle.std.proofs.Common.{
  ◌≡◌,
  ◌≢◌,
  ◌⊎◌,
  ℕ,
  ◌+◌,
  ◌%◌,
  ◌<◌,
  ◌≤◌,
  Bool,
  true,
  false,
  List,
  [],
  ◌∷◌,
  ◌++◌,
  length,
  map,
  refl,
  sym,
  ap,
  subst,
  ◌∙◌,
  append_assoc,
  arith,
  All,
  inl,
  inr,
}
use Rattle.std.specs.Prelude.{Option, Some, None, flat_map, ◌==◌}
use Rattle.std.specs.List.{AllByRecursion}
use Rattle.std.proofs.lemmas.Bool.{cases_lt, cases_eq, cases_Bool}
use Rattle.std.proofs.lemmas.List.{append-nil, length-append, map-append}
use Rattle.std.proofs.lemmas.List.Elements.{All-nil, All-cons, All-head, All-tail, All-append}
use Rattle.h2frame.specs.declared.error_code.ErrorCode.{ErrorCode}
use Rattle.h2frame.specs.declared.fault.FrameFault.{FrameFault}
use Rattle.h2frame.specs.declared.frame.Frame.{Frame}
use Rattle.h2frame.specs.declared.frame.FrameHead.{FrameHead}
use Rattle.h2frame.specs.declared.kind.FrameKind.{FrameKind}
use Rattle.h2frame.specs.declared.kind.FrameKind.TheVariants.{
  Data,
  Headers,
  Priority,
  RstStream,
  Settings,
  PushPromise,
  Ping,
  GoAway,
  WindowUpdate,
  Continuation,
  Unknown,
}
use Rattle.h2frame.specs.Flags.{has, ack, end_headers, is_padded}
use Rattle.h2frame.specs.Spelling.{head_text}
use Rattle.h2frame.specs.FrameList.{
  Entry,
  Whole,
  NoIncrement,
  Spells,
  Joined,
  Ends,
  IsLawful,
  IsUnfinished,
  IsFaulty,
}
use Rattle.h2frame.proofs.Steps.{lawful_since}
use Rattle.h2frame.proofs.Existence.{each_has_list}
use Rattle.lists.specs.declared.field.Field.{Field}
use Rattle.hpack_codec.specs.Table.{Table}
use Rattle.hpack_codec.proofs.Existence.{each_has_answer as each_block}
use Rattle.callhead.specs.MalformedHeads.{are_malformed_trailers}
use Rattle.callhead.proofs.Existence.{each_has_answer as each_head}
use Rattle.streamstates.specs.declared.halves.FrameAction.{FrameAction}
use Rattle.streamstates.specs.declared.halves.FrameAction.TheVariants.{
  Open,
  Accept,
  Discard,
  StreamError,
  ConnectionError,
}
use Rattle.streamstates.specs.Halves.{Event, verdict, is_connection_error}
use Rattle.reasons.specs.declared.Reason.{Reason}
use Rattle.reasons.specs.declared.Reason.TheVariants as reason
use Rattle.session.specs.declared.event.InEvent.{InEvent}
use Rattle.session.specs.declared.event.InEvent.TheVariants as events
use Rattle.session.specs.declared.event.PeerControl.TheVariants as controls
use Rattle.session.specs.declared.header_block.FragmentFault.{FragmentFault}
use Rattle.session.specs.declared.header_block.FragmentFault.TheVariants.{Interrupted, TooLong}
use Rattle.session.specs.Prefaces.{preface, Departs}
use Rattle.session.specs.Streams.{
  after_frame,
  end_of,
  refusal,
  data_events,
  reset_events,
  window_event,
  window_events,
  credit_head,
  credit_verdict,
}
use Rattle.session.specs.Frames.{fatal, SettingsGive, ping_events, WindowGives, KindGives}
use Rattle.session.specs.HeaderBlocks.{
  max_block,
  PendingBlock,
  IsContinuation,
  Collects,
  fragment_reason,
}
use Rattle.session.specs.Blocks.{
  bad_head_events,
  after_bad_head,
  trailer_events,
  after_trailers,
  FieldsGive,
  BlockGives,
}
use Rattle.session.specs.Events.{
  Situation,
  start,
  Group,
  Single,
  Credit,
  Block,
  entries_of,
  IsBegun,
  GroupGives,
  IsCalm,
  Runs,
  IsSettings,
  Opens,
  Passes,
  Close,
  Unfinished,
  Faulty,
  Refused,
  Broken,
  Ended,
  IsPartial,
  Breaks,
  Closes,
  Follows,
  Events,
  Greeted,
  Departed,
  Unsettled,
  Read,
}
use Rattle.session.proofs.LawfulFrames.{settings_length, lawful_short}
use Rattle.session.proofs.HeaderBlockSteps.{collects_first, collects_more}
use Rattle.session.proofs.FatalGroups.{IsCalmOrEnd, group_or_end}
use Rattle.session.proofs.SettingsExistence.{AreBytes, bytes_behind, tells_or}

-- ---- bytes of frames

bytes_before : (front rest : List ℕ) → AreBytes (front ++ rest) → AreBytes front
bytes_before [] rest all = All-nil (λ byte. byte < 256)
bytes_before (byte ∷ front) rest all =
    All-cons (λ b. b < 256) byte front (All-head (λ b. b < 256) byte (front ++ rest) all)
    (bytes_before front rest (All-tail (λ b. b < 256) byte (front ++ rest) all))

-- what is known of each entry that bytes spell
abbrev IsGood : Entry → Type 0
IsGood (Whole frame) = IsLawful frame × AreBytes frame.content
IsGood (NoIncrement id) = Unit {0}

good_entry : (entry : Entry) (text : List ℕ) → Spells text entry → AreBytes text → IsGood entry
good_entry (NoIncrement id) text spells all = tt
good_entry (Whole frame) text spells all =
    let skipped = spells.0 in
    let payload =
    bytes_behind (head_text skipped.reserved frame.head) _ (subst AreBytes spells.2 all) in
    let content =
    bytes_behind skipped.priority (frame.content ++ skipped.padding)
    (bytes_behind _ (skipped.priority ++ (frame.content ++ skipped.padding)) payload) in
    (lawful_since text frame spells, bytes_before frame.content skipped.padding content)

good_entries : (bytes : List ℕ) (entries : List Entry) (rest : List ℕ) → Joined bytes entries rest
    → AreBytes bytes → AllByRecursion IsGood entries
good_entries bytes [] rest joined all = tt
good_entries bytes (entry ∷ entries) rest (text, more, parts, spells, others) all =
    let both : AreBytes (text ++ more) = subst AreBytes parts all in (
      good_entry entry text spells (bytes_before text more both),
      good_entries more entries rest others (bytes_behind text more both),
    )

-- ---- frames that are no part of a header block

settings_give : (acked : Bool) (content : List ℕ) → (acked ≡ false → length content % 6 ≡ 0)
    → AreBytes content → (given : List InEvent) × SettingsGive acked content given
settings_give true content whole all = ([], refl)
settings_give false content whole all =
    elim (tells_or content (whole refl) all) [
      | inl tells ↦ (events.Control (controls.Settings tells.0) ∷ [], inl (tells.0, tells.1, refl))
      | inr refused ↦ (fatal refused.0, inr (refused.0, refused.1, refl))
    ]

abbrev HasOutcome : (List InEvent → List Event → Type 0) → Type 0
HasOutcome Gives = (given : List InEvent) × (next : List Event) × Gives given next

window_gives : (connection : Bool) (history : List Event) (frame : Frame)
    → HasOutcome (WindowGives connection history frame)
window_gives true history frame = (window_event frame ∷ [], history, (refl, refl))
window_gives false history frame = (
  window_events (verdict history frame.head) frame,
  after_frame (verdict history frame.head) frame.head history,
  (refl, refl),
)

kind_gives : (kind : FrameKind) (history : List Event) (frame : Frame) → frame.head.kind ≡ kind
    → kind ≢ Headers → IsLawful frame → AreBytes frame.content
    → HasOutcome (KindGives kind history frame)
kind_gives Data history frame is other lawful all = (
  data_events (verdict history frame.head) frame,
  after_frame (verdict history frame.head) frame.head history,
  (refl, refl),
)
kind_gives RstStream history frame is other lawful all = (
  reset_events (verdict history frame.head) frame,
  after_frame (verdict history frame.head) frame.head history,
  (refl, refl),
)
kind_gives WindowUpdate history frame is other lawful all =
    window_gives (frame.head.stream == 0) history frame
kind_gives Settings history frame is other lawful all =
    let told =
    settings_give (has ack frame.head.flags) frame.content (settings_length frame lawful is) all in
    (told.0, history, (told.1, refl))
kind_gives Ping history frame is other lawful all =
    (ping_events (has ack frame.head.flags) frame.content, history, (refl, refl))
kind_gives GoAway history frame is other lawful all =
    (events.PeerGoaway ∷ [], history, (refl, refl))
kind_gives PushPromise history frame is other lawful all =
    (fatal reason.Push, history, (refl, refl))
kind_gives Continuation history frame is other lawful all =
    (fatal reason.Lone, history, (refl, refl))
kind_gives Priority history frame is other lawful all = ([], history, (refl, refl))
kind_gives (Unknown code) history frame is other lawful all = ([], history, (refl, refl))
kind_gives Headers history frame is other lawful all = absurd (other refl)

-- ---- whole header blocks

fields_give : (judged : FrameAction) (head : FrameHead) (fields : List Field) (history : List Event)
    → HasOutcome (FieldsGive judged head fields history)
fields_give Open head fields history =
    elim (each_head fields) [
      | inl call ↦
          (events.Open head.stream call.0 ∷ end_of head, history, inl (call.0, call.1, refl, refl))
      | inr fault ↦ (
        bad_head_events fault.0 head,
        after_bad_head fault.0 head.stream history,
        inr (fault.0, fault.1, refl, refl),
      )
    ]
fields_give Accept head fields history = (
  trailer_events (are_malformed_trailers fields) head,
  after_trailers (are_malformed_trailers fields) head.stream history,
  (refl, refl),
)
fields_give Discard head fields history = (refusal Discard head, history, (refl, refl))
fields_give (StreamError error) head fields history =
    (refusal (StreamError error) head, history, (refl, refl))
fields_give (ConnectionError error) head fields history =
    (refusal (ConnectionError error) head, history, (refl, refl))

block_gives : (kept : Option Table) (head : FrameHead) (judged : FrameAction) (block : List ℕ)
    (history : List Event)
    → AreBytes block
    → (given : List InEvent) × (next : List Event) × (kept_next : Option Table)
    × BlockGives kept head judged block history given next kept_next
block_gives kept head judged block history all =
    elim (each_block kept block all) [
      | inl (fields, kept_next, reads) ↦
          (let g = fields_give judged head fields history in
          (g.0, g.1, kept_next, inl (fields, reads, g.2)))
      | inr (fault, live, first) ↦
          (fatal (reason.Hpack fault), history, kept, inr (fault, first, live, refl, refl))
    ]

-- ---- entries behind a situation

-- they are groups one after another, and then what closes them; what is unread behind that doesn't
-- count
record Outcome (now : Situation) (entries : List Entry) (rest : List ℕ) : Type 0 where
  groups : List Group
  given : List InEvent
  next : Situation
  behind : List Entry
  unread : List Entry
  close : Close
  last : List InEvent
  parts : entries ≡ flat_map entries_of groups ++ (behind ++ unread)
  runs : Runs now groups given next
  closes : (left : List ℕ) → (unread ≡ [] → left ≡ rest) → Closes close next behind left last

later : (now next : Situation) (group : Group) (first : List InEvent)
    (entries : List Entry) (rest : List ℕ)
    → GroupGives now group first next → IsCalm first → Outcome next entries rest
    → Outcome now (entries_of group ++ entries) rest
later now next group first entries rest gives calm o = record {
  groups = group ∷ o.groups;
  given = first ++ o.given;
  next = o.next;
  behind = o.behind;
  unread = o.unread;
  close = o.close;
  last = o.last;
  parts =
      ap (λ (es : List Entry). entries_of group ++ es) o.parts
      ∙ sym (append_assoc (entries_of group) (flat_map entries_of o.groups) (o.behind ++ o.unread));
  runs = (first, o.given, next, gives, calm, o.runs, refl);
  closes = o.closes;
}

-- a stop before any group
stops : (now : Situation) (behind unread : List Entry) (rest : List ℕ) (close : Close)
    (last : List InEvent)
    → ((left : List ℕ) → (unread ≡ [] → left ≡ rest) → Closes close now behind left last)
    → Outcome now (behind ++ unread) rest
stops now behind unread rest close last closes = record {
  groups = [];
  given = [];
  next = now;
  behind = behind;
  unread = unread;
  close = close;
  last = last;
  parts = refl;
  runs = (refl, refl);
  closes = closes;
}

ended : (now next : Situation) (group : Group) (given : List InEvent) (error : Reason)
    (entries : List Entry) (rest : List ℕ)
    → GroupGives now group given next → given ≡ fatal error
    → Outcome now (entries_of group ++ entries) rest
ended now next group given error entries rest gives e =
    stops now (entries_of group) entries rest (Ended group next error) (fatal error)
    (λ left same. (refl, subst (λ (es : List InEvent). GroupGives now group es next) e gives, refl))

group_first : (now next : Situation) (group : Group) (given : List InEvent)
    (entries : List Entry) (rest : List ℕ)
    → GroupGives now group given next → Outcome next entries rest
    → Outcome now (entries_of group ++ entries) rest
group_first now next group given entries rest gives o =
    elim (group_or_end now next group given gives) [
      | inl calm ↦ later now next group given entries rest gives calm o
      | inr end ↦ ended now next group given end.0 entries rest gives end.1
    ]

-- nothing more came
waits : (end : Option FrameFault) (rest : List ℕ) → Ends end rest
    → (now : Situation) (behind : List Entry) → IsPartial now.history behind
    → Outcome now (behind ++ []) rest
waits None rest ends now behind partial =
    stops now behind [] rest Unfinished []
    (λ left same. (partial, subst IsUnfinished (sym (same refl)) ends, refl))
waits (Some fault) rest ends now behind partial =
    stops now behind [] rest (Faulty fault) (fatal (reason.Frame fault))
    (λ left same. (partial, subst (IsFaulty fault) (sym (same refl)) ends, refl))

breaks_off : (now : Situation) (frames : List Frame) (block : PendingBlock) (entry : Entry)
    (fault : FragmentFault) (entries : List Entry) (rest : List ℕ)
    → IsBegun now.history frames block → block.whole ≡ false → Breaks entry block fault
    → Outcome now (map Whole frames ++ entry ∷ entries) rest
breaks_off now frames block entry fault entries rest begun still breaks =
    subst (λ (es : List Entry). Outcome now es rest)
    (append_assoc (map Whole frames) (entry ∷ []) entries)
    (stops now (map Whole frames ++ entry ∷ []) entries rest (Broken frames block entry fault)
    (fatal (fragment_reason fault)) (λ left same. (begun, still, refl, breaks, refl)))

-- ---- further entries, between groups and inside a header block

abbrev Between : List Entry → List ℕ → Type 0
Between entries rest = (now : Situation) → Outcome now entries rest

abbrev Inside : List Entry → List ℕ → Type 0
Inside entries rest =
    (now : Situation) (frames : List Frame) (block : PendingBlock)
    → IsBegun now.history frames block
    → block.whole ≡ false → AreBytes block.block → Outcome now (map Whole frames ++ entries) rest

-- the frames of a header block, whole or not
block_first : (now : Situation) (frames : List Frame) (block : PendingBlock)
    (entries : List Entry) (rest : List ℕ)
    → IsBegun now.history frames block → AreBytes block.block → Between entries rest
    → Inside entries rest
    → Outcome now (map Whole frames ++ entries) rest
block_first now frames block entries rest begun all between inside =
    elim (cases_Bool block.whole) [
      | inr still ↦ inside now frames block begun still all
      | inl whole ↦
          (let judged = verdict now.history block.head in
          let g =
          block_gives now.kept block.head judged block.block
          (after_frame judged block.head now.history) all in
          let next : Situation = record { history = g.1; kept = g.2 } in
          group_first now next (Block frames block) g.0 entries rest
          (begun, whole, g.3) (between next))
    ]

-- a frame that goes on with a header block, or doesn't
continuation_kind : (kind : FrameKind) → (kind ≡ Continuation) ⊎ (kind ≡ Continuation → ⊥)
continuation_kind Continuation = inl refl
continuation_kind _ = inr (λ e. cc)

goes_on_or : (id : ℕ) (frame : Frame) → IsContinuation id frame ⊎ (IsContinuation id frame → ⊥)
goes_on_or id frame =
    elim (continuation_kind frame.head.kind) [
      | inr other ↦ inr (λ is. other is.0)
      | inl kind ↦ elim (cases_eq frame.head.stream id) [
        | inr apart ↦ inr (λ is. apart is.1)
        | inl same ↦ inl (kind, same)
      ]
    ]

inside_frame : (now : Situation) (frames : List Frame) (block : PendingBlock) (frame : Frame)
    (entries : List Entry) (rest : List ℕ)
    → IsBegun now.history frames block → block.whole ≡ false → AreBytes block.block
    → AreBytes frame.content
    → Between entries rest → Inside entries rest
    → Outcome now (map Whole frames ++ Whole frame ∷ entries) rest
inside_frame now frames block frame entries rest begun still all more between inside =
    elim (goes_on_or block.head.stream frame) [
      | inr other ↦
          breaks_off now frames block (Whole frame) Interrupted entries rest begun still other
      | inl is ↦ elim (cases_lt max_block (length block.block + length frame.content)) [
        | inl long ↦
            breaks_off now frames block (Whole frame) TooLong entries rest begun still (is, long)
        | inr short ↦
            (let longer : PendingBlock = record {
              head = block.head;
              block = block.block ++ frame.content;
              whole = has end_headers frame.head.flags;
            } in
            let collects : Collects (frames ++ frame ∷ []) longer =
            collects_more frames block longer frame begun.collects still is refl refl refl
            (omega (arith, short, length-append block.block frame.content)) in
            subst (λ (es : List Entry). Outcome now es rest)
            (ap (λ (es : List Entry). es ++ entries) (map-append Whole frames (frame ∷ []))
            ∙ append_assoc (map Whole frames) (Whole frame ∷ []) entries)
            (block_first now (frames ++ frame ∷ []) longer entries rest
            (record { collects = collects; lawful = begun.lawful })
            (All-append (λ byte. byte < 256) block.block frame.content all more) between inside))
      ]
    ]

headers_kind : (kind : FrameKind) → (kind ≡ Headers) ⊎ (kind ≡ Headers → ⊥)
headers_kind Headers = inl refl
headers_kind _ = inr (λ e. cc)

refused_or : (judged : FrameAction)
    → ((error : ErrorCode) × (judged ≡ ConnectionError error))
    ⊎ (is_connection_error judged ≡ false)
refused_or (ConnectionError error) = inl (error, refl)
refused_or _ = inr refl

between_frame : (now : Situation) (frame : Frame) (entries : List Entry) (rest : List ℕ)
    → IsLawful frame → AreBytes frame.content → Between entries rest → Inside entries rest
    → Outcome now (Whole frame ∷ entries) rest
between_frame now frame entries rest lawful all between inside =
    elim (headers_kind frame.head.kind) [
      | inr other ↦
          (let g = kind_gives frame.head.kind now.history frame refl other lawful all in
          let next : Situation = record { history = g.1; kept = now.kept } in
          group_first now next (Single frame) g.0 entries rest (g.2, refl) (between next))
      | inl kind ↦ elim (refused_or (verdict now.history frame.head)) [
        | inl refused ↦
            stops now (Whole frame ∷ []) entries rest (Refused frame refused.0)
            (fatal (reason.Stream frame.head.kind refused.0))
            (λ left same. (refl, kind, refused.1, refl))
        | inr fine ↦
            block_first now (frame ∷ []) (record {
              head = frame.head;
              block = frame.content;
              whole = has end_headers frame.head.flags;
            }) entries rest
            (record {
              collects = collects_first frame kind (lawful_short frame lawful);
              lawful = fine;
            }) all between inside
      ]
    ]

both : (end : Option FrameFault) (rest : List ℕ) → Ends end rest → (entries : List Entry)
    → AllByRecursion IsGood entries → Between entries rest × Inside entries rest
both end rest ends [] good = (
  λ now. waits end rest ends now [] (inl refl),
  λ now frames block begun still all.
      waits end rest ends now (map Whole frames) (inr (frames, block, begun, still, refl)),
)
both end rest ends (Whole frame ∷ entries) good =
    let again = both end rest ends entries good.1 in (
      λ now. between_frame now frame entries rest good.0.0 good.0.1 again.0 again.1,
      λ now frames block begun still all.
          inside_frame now frames block frame entries rest begun still all good.0.1 again.0 again.1,
    )
both end rest ends (NoIncrement id ∷ entries) good =
    let again = both end rest ends entries good.1 in (
      λ now.
          let judged = credit_verdict now.history id in
          let next : Situation =
          record { history = after_frame judged (credit_head id) now.history; kept = now.kept } in
          group_first now next (Credit id) (refusal judged (credit_head id)) entries rest
          (refl, refl, refl) (again.0 next),
      λ now frames block begun still all.
          breaks_off now frames block (NoIncrement id) Interrupted entries rest begun still tt,
    )

-- ---- the first frame

settings_kind : (kind : FrameKind) → (kind ≡ Settings) ⊎ (kind ≡ Settings → ⊥)
settings_kind Settings = inl refl
settings_kind _ = inr (λ e. cc)

abbrev Unsettles : List Entry → Type 0
Unsettles entries =
    (entry : Entry) × (others : List Entry) × (entries ≡ entry ∷ others) × (IsSettings entry → ⊥)

opens_or : (entries : List Entry) → Opens entries ⊎ Unsettles entries
opens_or [] = inl tt
opens_or (NoIncrement id ∷ entries) = inr (NoIncrement id, entries, refl, λ is. is)
opens_or (Whole frame ∷ entries) =
    elim (settings_kind frame.head.kind) [
      | inl is ↦ inl is
      | inr other ↦ inr (Whole frame, entries, refl, other)
    ]

opens_front : (front others : List Entry) → Opens (front ++ others) → Opens front
opens_front [] others opens = tt
opens_front (entry ∷ front) others opens = opens

-- the bytes of a front of the entries, and what is left behind it
joined_front : (bytes : List ℕ) (front others : List Entry) (rest : List ℕ)
    → Joined bytes (front ++ others) rest
    → (left : List ℕ) × Joined bytes front left × (others ≡ [] → left ≡ rest)
joined_front bytes [] others rest joined =
    (bytes, refl, λ none. subst (λ (es : List Entry). Joined bytes es rest) none joined)
joined_front bytes (entry ∷ front) others rest (text, more, parts, spells, tail) =
    let again = joined_front more front others rest tail in
    (again.0, (text, more, parts, spells, again.1), again.2)

-- ---- the preface

greeting : (text bytes : List ℕ)
    → ((due : List ℕ) × (text ≡ bytes ++ due))
    ⊎ (Departs text bytes ⊎ ((rest : List ℕ) × (bytes ≡ text ++ rest)))
greeting [] bytes = inr (inr (bytes, refl))
greeting (t ∷ text) [] = inl (t ∷ text, refl)
greeting (t ∷ text) (b ∷ bytes) =
    elim (cases_eq b t) [
      | inr apart ↦ inr (inl (λ more behind e. let same : b ≡ t = cc e in apart same))
      | inl same ↦ elim (greeting text bytes) [
        | inl due ↦
            inl (due.0, ap (λ (x : ℕ). x ∷ text) (sym same) ∙ ap (λ (xs : List ℕ). b ∷ xs) due.1)
        | inr (inl departs) ↦
            inr (inl (λ more behind e.
            let tails : bytes ++ more ≡ text ++ behind = cc e in
            departs more behind tails))
        | inr (inr rest) ↦
            inr (inr (rest.0, ap (λ (x : ℕ). x ∷ bytes) same ∙ ap (λ (xs : List ℕ). t ∷ xs) rest.1))
      ]
    ]

-- ---- all bytes

abbrev HasEvents : List ℕ → Type 0
HasEvents bytes = (given : List InEvent) × Events bytes given

has_read : (bytes text : List ℕ) (entries : List Entry) (rest : List ℕ) → bytes ≡ preface ++ text
    → Joined text entries rest → Opens entries → Outcome start entries rest → HasEvents bytes
has_read bytes text entries rest e joined opens o =
    let counted = flat_map entries_of o.groups ++ o.behind in
    let parts : entries ≡ counted ++ o.unread =
    o.parts ∙ sym (append_assoc (flat_map entries_of o.groups) o.behind o.unread) in
    let front =
    joined_front text counted o.unread rest
    (subst (λ (es : List Entry). Joined text es rest) parts joined) in (
      o.given ++ o.last,
      Read text counted front.0 o.close e front.1 (
          record {
            behind = o.behind;
            before = o.given;
            last = o.last;
            now = o.next;
            passes = record {
              groups = o.groups;
              parts = refl;
              opens = opens_front counted o.unread (subst Opens parts opens);
              runs = o.runs;
            };
            closes = o.closes front.0 front.2;
            all = refl;
          }),
    )

has_frames : (bytes text : List ℕ) → bytes ≡ preface ++ text → AreBytes text → HasEvents bytes
has_frames bytes text e all =
    let list = each_has_list text all in
    let entries = list.0 in
    let rest = list.2.0 in
    let joined : Joined text entries rest = list.2.1 in
    elim (opens_or entries) [
      | inl opens ↦
          has_read bytes text entries rest e joined opens
          ((both list.1 rest list.2.2 entries (good_entries text entries rest joined all)).0 start)
      | inr (entry, others, first, other) ↦
          (let front =
          joined_front text (entry ∷ []) others rest
          (subst (λ (es : List Entry). Joined text es rest) first joined) in (
            fatal reason.First,
            Unsettled text (entry ∷ []) front.0 e front.1 (entry, refl, other) refl,
          ))
    ]

pub each_has_events : (bytes : List ℕ) → All (λ byte. byte < 256) bytes
    → (given : List InEvent) × Events bytes given
each_has_events bytes all =
    elim (greeting preface bytes) [
      | inl due ↦ ([], Greeted due.0 due.1 refl)
      | inr (inl departs) ↦ (fatal reason.Preface, Departed departs refl)
      | inr (inr text) ↦
          has_frames bytes text.0 text.1 (bytes_behind preface text.0 (subst AreBytes text.1 all))
    ]
