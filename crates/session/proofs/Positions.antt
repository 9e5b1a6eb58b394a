-- What a position comes to by a further entry.
use Rattle.std.proofs.Common.{
  ◌≡◌,
  ◌≢◌,
  ◌-◌,
  ℕ,
  inl,
  inr,
  Bool,
  true,
  false,
  cond,
  List,
  [],
  ◌∷◌,
  ◌++◌,
  length,
  map,
  refl,
  sym,
  ap,
  subst,
  ◌∙◌,
  append_assoc,
  ◌≤◌,
}
use Rattle.std.specs.Prelude.{Option, Some, None, Result, Ok, Err, IfOk, slice_get}
use Rattle.std.proofs.lemmas.List.{map-append}
use Rattle.h2frame.specs.declared.error_code.ErrorCode.{ErrorCode}
use Rattle.h2frame.specs.declared.frame.Frame.{Frame}
use Rattle.h2frame.specs.declared.frame.FrameHead.{FrameHead}
use Rattle.h2frame.specs.declared.kind.FrameKind.TheVariants.{Headers, Settings}
use Rattle.h2frame.specs.Flags.{has, end_headers}
use Rattle.h2frame.specs.FrameList.{Entry, Whole, NoIncrement}
use Rattle.hpack_codec.specs.Table.{Table}
use Rattle.streamstates.specs.declared.halves.FrameAction.{FrameAction}
use Rattle.streamstates.specs.declared.halves.FrameAction.TheVariants.{
  Open,
  Accept,
  Discard,
  StreamError,
  ConnectionError,
}
use Rattle.streamstates.specs.Halves.{Event, Streams, verdict, is_connection_error}
use Rattle.streamstates.specs.Halves.{Stands as HalvesStand}
use Rattle.reasons.specs.declared.Reason.TheVariants as reason
use Rattle.session.specs.declared.event.InEvent.{InEvent}
use Rattle.session.specs.declared.context.Position.{Position}
use Rattle.session.specs.declared.context.Position.TheVariants.{First, Between, Inside}
use Rattle.session.specs.declared.header_block.FragmentFault.{FragmentFault}
use Rattle.session.specs.declared.header_block.FragmentFault.TheVariants.{
  Interrupted,
  TooLong,
  OutOfMemory,
}
use Rattle.session.specs.Streams.{after_frame, refusal, credit_head, credit_verdict}
use Rattle.session.specs.Frames.{fatal}
use Rattle.session.specs.HeaderBlocks.{PendingBlock, Collects, Stands, fragment_reason}
use Rattle.session.specs.Blocks.{BlockGives}
use Rattle.session.specs.Events.{
  Situation,
  start,
  Group,
  Credit,
  Block,
  entries_of,
  GroupGives,
  IsCalm,
  IsSettings,
  Passes,
  Close,
  Unfinished,
  Refused,
  Broken,
  Ended,
  Breaks,
  Closes,
}
use Rattle.session.specs.CoreStates.{
  IsSettled,
  Holds,
  Leads,
  Stops,
  LeadsOn,
  Begins,
  Collected,
  ends_at,
  position_behind,
}
use Rattle.session.proofs.HeaderBlockSteps.{collects_first}
use Rattle.session.proofs.Groups.{
  calm_parts,
  calm_join,
  calm_runs,
  calm_goes_on,
  fatal_ends,
  passes_more,
  passes_longer,
  settled_opens,
  settled_longer,
  passes_none,
}
use Rattle.session.proofs.FatalGroups.{IsCalmOrEnd, group_or_end}

first_of : (frame first : Frame) (others : List Frame)
    → ◌≡◌ {A = List Frame} (frame ∷ []) (first ∷ others) → frame ≡ first
first_of frame first others e = cc

-- ---- the end of the connection

pub closed : (entries behind : List Entry) (rest : List ℕ) (before old last new : List InEvent)
    (now : Situation) (close : Close)
    → Passes entries behind (before ++ old) now → Closes close now behind rest last
    → close ≢ Unfinished → new ≡ old ++ last → Stops entries rest (before ++ new)
closed entries behind rest before old last new now close passes closes final e =
    inr (
      close,
      final,
      record {
        behind = behind;
        before = before ++ old;
        last = last;
        now = now;
        passes = passes;
        closes = closes;
        all = ap (λ (es : List InEvent). before ++ es) e ∙ sym (append_assoc before old last);
      },
    )

pub unsettled : (entries : List Entry) (entry : Entry) (rest : List ℕ)
    (before old new : List InEvent)
    → entries ≡ [] → before ++ old ≡ [] → (IsSettings entry → ⊥) → new ≡ old ++ fatal reason.First
    → Stops (entries ++ entry ∷ []) rest (before ++ new)
unsettled entries entry rest before old new none silent other e =
    inl (
      (entry, ap (λ (es : List Entry). es ++ entry ∷ []) none, other),
      ap (λ (es : List InEvent). before ++ es) e
          ∙ sym (append_assoc before old (fatal reason.First))
          ∙ ap (λ (es : List InEvent). es ++ fatal reason.First) silent,
    )

-- ---- a whole group

ends_so : (b : Bool) (given : List InEvent) → ends_at (slice_get given (length given - 1)) ≡ b
    → position_behind given ≡ cond b None (Some Between)
ends_so b given e = ap (λ (x : Bool). cond x None (Some Between)) e

leads_at : (entries : List Entry) (given : List InEvent) (at next : Option Position)
    (streams : Streams) (kept : Option Table)
    → next ≡ at → LeadsOn entries given at streams kept → LeadsOn entries given next streams kept
leads_at entries given at next streams kept e leads =
    subst (λ (p : Option Position). LeadsOn entries given p streams kept) (sym e) leads

finished : (entries behind : List Entry) (before old given new : List InEvent)
    (now next : Situation) (group : Group) (streams : Streams)
    → Passes entries behind (before ++ old) now → behind ≡ entries_of group
    → GroupGives now group given next → IsCalmOrEnd given
    → new ≡ old ++ given → HalvesStand next.history streams → IsSettled entries
    → LeadsOn entries (before ++ new) (position_behind new) streams next.kept
finished entries behind before old given new now next group streams passes whole gives
    (inl calm) e keeps settled =
    let before_calm : IsCalm old =
    (calm_parts before old (calm_runs _ now passes.groups (before ++ old) passes.runs)).1 in
    let all_calm : IsCalm new = subst IsCalm (sym e) (calm_join old given before_calm calm) in
    let more : Passes entries [] ((before ++ old) ++ given) next =
    passes_more entries behind (before ++ old) given now next group passes whole gives calm in
    let all : (before ++ old) ++ given ≡ before ++ new =
    append_assoc before old given ∙ ap (λ (es : List InEvent). before ++ es) (sym e) in
    leads_at entries (before ++ new) (Some Between) (position_behind new) streams next.kept
    (ends_so false new (calm_goes_on new all_calm)) (
      next.history,
      record {
        passes = subst (λ (es : List InEvent). Passes entries [] es next) all more;
        settled = settled;
      },
      keeps,
    )
finished entries behind before old given new now next group streams passes whole gives
    (inr (error, is_end)) e keeps settled =
    let end : ends_at (slice_get new (length new - 1)) ≡ true =
    subst (λ (es : List InEvent). ends_at (slice_get es (length es - 1)) ≡ true)
    (sym (e ∙ ap (λ (es : List InEvent). old ++ es) is_end)) (fatal_ends old error) in
    leads_at entries (before ++ new) None (position_behind new) streams next.kept
    (ends_so true new end)
    (λ (rest : List ℕ).
    closed entries behind rest before old given new now (Ended group next error) passes
    (whole, subst (λ (es : List InEvent). GroupGives now group es next) is_end gives, is_end)
    (λ (u : Ended group next error ≡ Unfinished). cc) e)

pub leads_behind : (entries behind : List Entry) (before old given new : List InEvent)
    (now next : Situation) (group : Group) (streams : Streams) (kept : Option Table)
    (at : Option Position)
    → Passes entries behind (before ++ old) now → behind ≡ entries_of group
    → GroupGives now group given next
    → new ≡ old ++ given → HalvesStand next.history streams → IsSettled entries → kept ≡ next.kept
    → at ≡ position_behind new → LeadsOn entries (before ++ new) at streams kept
leads_behind entries behind before old given new now next group streams kept at passes whole gives e
    keeps settled same place =
    subst (λ (k : Option Table). LeadsOn entries (before ++ new) at streams k) (sym same)
    (leads_at entries (before ++ new) (position_behind new) at streams next.kept place
    (finished entries behind before old given new now next group streams passes whole gives
    (group_or_end now next group given gives) e keeps settled))

-- a header block that is whole: its head and its bytes as they were passed on
pub collected : (entries : List Entry) (before old new : List InEvent) (block : PendingBlock)
    (judged : FrameAction) (streams new_streams : Streams) (kept new_kept : Option Table)
    (at : Option Position) (head : FrameHead) (bytes : List ℕ)
    → block.whole ≡ true → head ≡ block.head → bytes ≡ block.block
    → ((history : List Event) → HalvesStand history streams
    → (given : List InEvent) × (next : List Event)
    × BlockGives kept head judged bytes history given next new_kept × (new ≡ old ++ given)
    × HalvesStand next new_streams)
    → at ≡ position_behind new → Holds entries (before ++ old) block judged streams kept
    → LeadsOn entries (before ++ new) at new_streams new_kept
collected entries before old new block judged streams new_streams kept new_kept at head bytes whole
    e f gives place (history, frames, passed, inside) =
    let g = gives (after_frame judged block.head history) inside.keeps in
    let as_head : BlockGives kept block.head judged block.block
    (after_frame judged block.head history) g.0 g.1 new_kept =
    subst (λ (h : FrameHead).
    BlockGives kept h judged block.block (after_frame judged block.head history) g.0 g.1 new_kept) e
    (subst (λ (b : List ℕ).
    BlockGives kept head judged b (after_frame judged block.head history) g.0 g.1
    new_kept) f g.2) in
    let as_judged : BlockGives kept block.head (verdict history block.head) block.block
    (after_frame (verdict history block.head) block.head history) g.0 g.1 new_kept =
    subst (λ (v : FrameAction).
    BlockGives kept block.head v block.block (after_frame v block.head history) g.0 g.1 new_kept)
    inside.as_judged as_head in
    leads_behind entries (map Whole frames) before old g.0 new
    (record { history = history; kept = kept }) (record { history = g.1; kept = new_kept })
    (Block frames block) new_streams new_kept at
    passed.passes refl (inside.begun, whole, as_judged) g.3 g.4 passed.settled refl place

-- ---- an entry behind a position

-- behind whole groups
pub behind_groups : (entries : List Entry) (entry : Entry) (before old given new : List InEvent)
    (now next : Situation) (group : Group) (streams : Streams) (kept : Option Table)
    (at : Option Position)
    → Passes entries [] (before ++ old) now → IsSettled (entries ++ entry ∷ [])
    → entry ∷ [] ≡ entries_of group → GroupGives now group given next
    → new ≡ old ++ given → HalvesStand next.history streams → kept ≡ next.kept
    → at ≡ position_behind new
    → LeadsOn (entries ++ entry ∷ []) (before ++ new) at streams kept
behind_groups entries entry before old given new now next group streams kept at passes settled whole
    gives e keeps same place =
    leads_behind (entries ++ entry ∷ []) (entry ∷ []) before old given new now next
    group streams kept at
    (passes_longer entries [] (entry ∷ []) (before ++ old) now passes
    (settled_opens (entries ++ entry ∷ []) settled)) whole gives e keeps settled same place

-- inside a header block, which it doesn't go on with
pub breaks : (entries : List Entry) (entry : Entry) (rest : List ℕ) (before old new : List InEvent)
    (block : PendingBlock) (judged : FrameAction) (streams : Streams) (kept : Option Table)
    (fault : FragmentFault)
    → Leads entries (before ++ old) (Inside block judged) streams kept → Breaks entry block fault
    → new ≡ old ++ fatal (fragment_reason fault)
    → Stops (entries ++ entry ∷ []) rest (before ++ new)
breaks entries entry rest before old new block judged streams kept fault
    (still, (history, frames, passed, inside)) broken e =
    closed (entries ++ entry ∷ []) (map Whole frames ++ entry ∷ []) rest before old
    (fatal (fragment_reason fault)) new (record { history = history; kept = kept })
    (Broken frames block entry fault)
    (passes_longer entries (map Whole frames) (entry ∷ []) (before ++ old)
    (record { history = history; kept = kept }) passed.passes
    (settled_opens (entries ++ entry ∷ []) (settled_longer entries (entry ∷ []) passed.settled)))
    (inside.begun, still, refl, broken, refl)
    (λ (u : Broken frames block entry fault ≡ Unfinished). cc) e

-- WINDOW_UPDATE without an increment that came first, or inside a header block
pub first_credit : (at : Position) (entries : List Entry) (id : ℕ) (rest : List ℕ)
    (before old new : List InEvent) (streams : Streams) (kept : Option Table)
    → at ≡ First → Leads entries (before ++ old) at streams kept → new ≡ old ++ fatal reason.First
    → Stops (entries ++ NoIncrement id ∷ []) rest (before ++ new)
first_credit First entries id rest before old new streams kept is leads e =
    unsettled entries (NoIncrement id) rest before old new leads.0 leads.1 (λ (x : ⊥). x) e
first_credit Between entries id rest before old new streams kept is leads e = absurd cc
first_credit (Inside block judged) entries id rest before old new streams kept is
    leads e = absurd cc

pub inner_credit : (at : Position) (block : PendingBlock) (judged : FrameAction)
    (entries : List Entry)
    (id : ℕ) (rest : List ℕ) (before old new : List InEvent) (streams : Streams)
    (kept : Option Table)
    → at ≡ Inside block judged → Leads entries (before ++ old) at streams kept
    → new ≡ old ++ fatal reason.Interrupted
    → Stops (entries ++ NoIncrement id ∷ []) rest (before ++ new)
inner_credit at block judged entries id rest before old new streams kept is leads e =
    breaks entries (NoIncrement id) rest before old new block judged streams kept Interrupted
    (subst (λ (p : Position). Leads entries (before ++ old) p streams kept) is leads) tt e

-- HEADERS that are an error of the connection
pub refuses : (entries : List Entry) (frame : Frame) (error : ErrorCode) (rest : List ℕ)
    (before old new : List InEvent) (history : List Event) (kept : Option Table)
    → Passes entries [] (before ++ old) (record { history = history; kept = kept })
    → IsSettled (entries ++ Whole frame ∷ []) → frame.head.kind ≡ Headers
    → verdict history frame.head ≡ ConnectionError error
    → new ≡ old ++ fatal (reason.Stream frame.head.kind error)
    → Stops (entries ++ Whole frame ∷ []) rest (before ++ new)
refuses entries frame error rest before old new history kept passes settled kind judged e =
    closed (entries ++ Whole frame ∷ []) (Whole frame ∷ []) rest before old
    (fatal (reason.Stream frame.head.kind error)) new (record { history = history; kept = kept })
    (Refused frame error)
    (passes_longer entries [] (Whole frame ∷ []) (before ++ old)
    (record { history = history; kept = kept }) passes
    (settled_opens (entries ++ Whole frame ∷ []) settled))
    (refl, kind, judged, refl) (λ (u : Refused frame error ≡ Unfinished). cc) e

-- HEADERS that begin a block
pub begun : (entries : List Entry) (frame : Frame) (before old : List InEvent)
    (history : List Event) (block : PendingBlock) (judged : FrameAction) (streams : Streams)
    (kept : Option Table)
    → Passes entries [] (before ++ old) (record { history = history; kept = kept })
    → IsSettled (entries ++ Whole frame ∷ []) → Collects (frame ∷ []) block
    → judged ≡ verdict history frame.head → is_connection_error judged ≡ false
    → HalvesStand (after_frame judged frame.head history) streams
    → Holds (entries ++ Whole frame ∷ []) (before ++ old) block judged streams kept
begun entries frame before old history block judged streams kept passes settled
    collects same live keeps =
    let first : frame.head ≡ block.head =
    ap (λ (f : Frame). f.head) (first_of frame collects.first collects.others collects.parts)
    ∙ collects.headers in (
      history,
      frame ∷ [],
      record {
        passes =
            passes_longer entries [] (Whole frame ∷ []) (before ++ old)
            (record { history = history; kept = kept }) passes
            (settled_opens (entries ++ Whole frame ∷ []) settled);
        settled = settled;
      },
      record {
        begun = record {
          collects = collects;
          lawful =
              subst (λ (v : FrameAction). is_connection_error v ≡ false)
              (same ∙ ap (verdict history) first) live;
        };
        as_judged = same ∙ ap (verdict history) first;
        keeps =
            subst (λ (h : FrameHead). HalvesStand (after_frame judged h history) streams)
            first keeps;
      },
    )

-- one more frame of a block
pub held : (entries : List Entry) (frame : Frame) (before old : List InEvent)
    (block longer : PendingBlock) (judged : FrameAction) (streams : Streams) (kept : Option Table)
    → Leads entries (before ++ old) (Inside block judged) streams kept
    → ((frames : List Frame) → Collects frames block → Collects (frames ++ frame ∷ []) longer)
    → longer.head ≡ block.head
    → Holds (entries ++ Whole frame ∷ []) (before ++ old) longer judged streams kept
held entries frame before old block longer judged streams kept
    (still, (history, frames, passed, inside)) collects same = (
      history,
      frames ++ frame ∷ [],
      record {
        passes =
            subst (λ (es : List Entry).
            Passes (entries ++ Whole frame ∷ []) es (before ++ old)
            (record { history = history; kept = kept }))
            (sym (map-append Whole frames (frame ∷ [])))
            (passes_longer entries (map Whole frames) (Whole frame ∷ []) (before ++ old)
            (record { history = history; kept = kept }) passed.passes (settled_opens
            (entries ++ Whole frame ∷ [])
            (settled_longer entries (Whole frame ∷ []) passed.settled)));
        settled = settled_longer entries (Whole frame ∷ []) passed.settled;
      },
      record {
        begun = record {
          collects = collects frames inside.begun.collects;
          lawful =
              subst (λ (h : FrameHead). is_connection_error (verdict history h) ≡ false) (sym same)
              inside.begun.lawful;
        };
        as_judged = inside.as_judged ∙ ap (verdict history) (sym same);
        keeps =
            subst (λ (h : FrameHead). HalvesStand (after_frame judged h history) streams)
            (sym same) inside.keeps;
      },
    )

-- ---- answers of calls

pub if_then : {E : Type 0} (r : Result (Option Position) E) (P Q : Option Position → Type 0)
    → IfOk r P → ((next : Option Position) → P next → Q next) → IfOk r Q
if_then (Ok x) P Q p f = f x p
if_then (Err e) P Q p f = tt

pub if_ended : {E : Type 0} (r : Result (Option Position) E) (P : Type 0)
    (Q : Option Position → Type 0)
    → IfOk r (λ next. next ≡ None) → IfOk r (λ _. P) → (P → Q None) → IfOk r Q
if_ended (Ok next) P Q none p f = subst Q (sym none) (f p)
if_ended (Err e) P Q none p f = tt

-- WINDOW_UPDATE without an increment, behind whole groups
pub credits : (at : Position) (entries : List Entry) (id : ℕ) (before old new : List InEvent)
    (judged : FrameAction) (streams new_streams : Streams) (kept : Option Table)
    (next : Option Position)
    → at ≡ Between
    → ((history : List Event) → HalvesStand history streams → judged ≡ credit_verdict history id)
    → ((history : List Event) → HalvesStand history streams
    → HalvesStand (after_frame judged (credit_head id) history) new_streams)
    → new ≡ old ++ refusal judged (credit_head id) → next ≡ position_behind new
    → Leads entries (before ++ old) at streams kept
    → LeadsOn (entries ++ NoIncrement id ∷ []) (before ++ new) next new_streams kept
credits at entries id before old new judged streams new_streams kept next is same
    follows e place leads =
    let l : Leads entries (before ++ old) Between streams kept =
    subst (λ (p : Position). Leads entries (before ++ old) p streams kept) is leads in
    behind_groups entries (NoIncrement id) before old (refusal judged (credit_head id)) new
    (record { history = l.0; kept = kept })
    (record { history = after_frame judged (credit_head id) l.0; kept = kept }) (Credit id)
    new_streams kept next
    l.1.passes (settled_longer entries (NoIncrement id ∷ []) l.1.settled) refl (
      ap (λ (v : FrameAction). refusal v (credit_head id)) (same l.0 l.2),
      ap (λ (v : FrameAction). after_frame v (credit_head id) l.0) (same l.0 l.2),
      refl,
    )
    e (follows l.0 l.2) refl place

-- the first frame, and one behind whole groups
pub first_begins : (at : Position) (entries : List Entry) (frame : Frame)
    (before old new : List InEvent) (streams new_streams : Streams) (kept new_kept : Option Table)
    (next : Option Position)
    → at ≡ First → Leads entries (before ++ old) at streams kept → frame.head.kind ≡ Settings
    → Begins streams kept old frame next new_streams new_kept new
    → LeadsOn (entries ++ Whole frame ∷ []) (before ++ new) next new_streams new_kept
first_begins at entries frame before old new streams new_streams kept new_kept next is
    leads kind begins =
    let l : Leads entries (before ++ old) First streams kept =
    subst (λ (p : Position). Leads entries (before ++ old) p streams kept) is leads in
    let passes : Passes entries [] (before ++ old) (record { history = []; kept = kept }) =
    subst (λ (k : Option Table).
    Passes entries [] (before ++ old) (record { history = []; kept = k })) (sym l.3)
    (subst (λ (es : List Entry). Passes es [] (before ++ old) start) (sym l.0)
    (subst (λ (es : List InEvent). Passes [] [] es start) (sym l.1) passes_none)) in
    begins entries before [] passes l.2
    (subst (λ (es : List Entry). IsSettled (es ++ Whole frame ∷ [])) (sym l.0) kind)

pub next_begins : (at : Position) (entries : List Entry) (frame : Frame)
    (before old new : List InEvent) (streams new_streams : Streams) (kept new_kept : Option Table)
    (next : Option Position)
    → at ≡ Between → Leads entries (before ++ old) at streams kept
    → Begins streams kept old frame next new_streams new_kept new
    → LeadsOn (entries ++ Whole frame ∷ []) (before ++ new) next new_streams new_kept
next_begins at entries frame before old new streams new_streams kept new_kept next is leads begins =
    let l : Leads entries (before ++ old) Between streams kept =
    subst (λ (p : Position). Leads entries (before ++ old) p streams kept) is leads in
    begins entries before l.0 l.1.passes l.2 (settled_longer entries (Whole frame ∷ []) l.1.settled)

pub first_stops : (at : Position) (entries : List Entry) (frame : Frame) (rest : List ℕ)
    (before old new : List InEvent) (streams : Streams) (kept : Option Table)
    → at ≡ First → Leads entries (before ++ old) at streams kept → (frame.head.kind ≡ Settings → ⊥)
    → new ≡ old ++ fatal reason.First → Stops (entries ++ Whole frame ∷ []) rest (before ++ new)
first_stops at entries frame rest before old new streams kept is leads other e =
    let l : Leads entries (before ++ old) First streams kept =
    subst (λ (p : Position). Leads entries (before ++ old) p streams kept) is leads in
    unsettled entries (Whole frame) rest before old new l.0 l.1 other e

-- an entry that doesn't go on with a header block, by a fault that isn't want of memory
pub frame_breaks : (fault : FragmentFault) (frame : Frame) (block : PendingBlock)
    → Stands fault block frame → (fault ≡ OutOfMemory → ⊥) → Breaks (Whole frame) block fault
frame_breaks Interrupted frame block stands other = stands
frame_breaks TooLong frame block stands other = stands
frame_breaks OutOfMemory frame block stands other = absurd (other refl)

not_fatal_verdict : (judged : FrameAction)
    → ((error : ErrorCode) → judged ≡ ConnectionError error → ⊥)
    → is_connection_error judged ≡ false
not_fatal_verdict Open not = refl
not_fatal_verdict Accept not = refl
not_fatal_verdict Discard not = refl
not_fatal_verdict (StreamError error) not = refl
not_fatal_verdict (ConnectionError error) not = absurd (not error refl)

-- HEADERS that begin a block, which has come to this already
pub block_begins : (entries : List Entry) (frame : Frame) (before old new : List InEvent)
    (block : PendingBlock) (judged : FrameAction) (streams between_streams new_streams : Streams)
    (kept new_kept : Option Table) (next : Option Position) (history : List Event)
    → Collected block judged between_streams kept old next new_streams new_kept new
    → Passes entries [] (before ++ old) (record { history = history; kept = kept })
    → IsSettled (entries ++ Whole frame ∷ []) → Collects (frame ∷ []) block
    → judged ≡ verdict history frame.head
    → ((error : ErrorCode) → judged ≡ ConnectionError error → ⊥)
    → HalvesStand (after_frame judged frame.head history) between_streams
    → LeadsOn (entries ++ Whole frame ∷ []) (before ++ new) next new_streams new_kept
block_begins entries frame before old new block judged streams between_streams new_streams kept
    new_kept next history collected passes settled collects same live keeps =
    collected (entries ++ Whole frame ∷ []) before (begun entries frame before old history block
    judged between_streams kept passes settled collects same (not_fatal_verdict judged live) keeps)

-- a block that was collected is whole
pub whole_block : (entries : List Entry) (before old new : List InEvent) (block : PendingBlock)
    (head : FrameHead) (bytes : List ℕ) (judged : FrameAction) (streams new_streams : Streams)
    (kept new_kept : Option Table) (next : Option Position)
    → block.whole ≡ true → head ≡ block.head → bytes ≡ block.block
    → Collected (record { head = head; block = bytes; whole = true }) judged streams kept old next
    new_streams new_kept new
    → Holds entries (before ++ old) block judged streams kept
    → LeadsOn entries (before ++ new) next new_streams new_kept
whole_block entries before old new block head bytes judged streams new_streams kept new_kept next
    whole same_head same_bytes collected holds =
    let same : block ≡ record { head = head; block = bytes; whole = true } =
    rw (same_head, same_bytes, ← whole) refl in
    collected entries before
    (subst (λ (b : PendingBlock). Holds entries (before ++ old) b judged streams kept) same holds)

-- HEADERS that are all of their block
pub one_frame : (entries : List Entry) (frame : Frame) (bytes : List ℕ)
    (before old new : List InEvent) (judged : FrameAction)
    (streams between_streams new_streams : Streams) (kept new_kept : Option Table)
    (next : Option Position) (history : List Event)
    → Collected (record { head = frame.head; block = bytes; whole = true }) judged between_streams
    kept old next new_streams new_kept new
    → bytes ≡ frame.content
    → Passes entries [] (before ++ old) (record { history = history; kept = kept })
    → IsSettled (entries ++ Whole frame ∷ [])
    → frame.head.kind ≡ Headers → length frame.content ≤ 16384
    → has end_headers frame.head.flags ≡ true
    → judged ≡ verdict history frame.head
    → ((error : ErrorCode) → judged ≡ ConnectionError error → ⊥)
    → HalvesStand (after_frame judged frame.head history) between_streams
    → LeadsOn (entries ++ Whole frame ∷ []) (before ++ new) next new_streams new_kept
one_frame entries frame bytes before old new judged streams between_streams new_streams kept
    new_kept next history collected same_bytes passes settled kind short whole same live keeps =
    let collects : Collects (frame ∷ [])
    (record { head = frame.head; block = frame.content; whole = true }) =
    subst (λ (b : Bool).
    Collects (frame ∷ []) (record { head = frame.head; block = frame.content; whole = b })) whole
    (collects_first frame kind short) in
    block_begins entries frame before old new (record {
      head = frame.head;
      block = frame.content;
      whole = true;
    }) judged streams between_streams new_streams kept new_kept next history
    (subst (λ (b : List ℕ).
    Collected (record { head = frame.head; block = b; whole = true }) judged between_streams kept
    old next new_streams new_kept new) same_bytes collected) passes settled collects same live keeps
