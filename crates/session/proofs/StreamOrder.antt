-- In what order the events of a connection tell of a stream: nothing before it begins, and no data
-- behind its end.
use Rattle.std.proofs.Common.{
  ◌≡◌,
  ◌≢◌,
  ℕ,
  ◌⊎◌,
  inl,
  inr,
  Bool,
  true,
  false,
  ◌||◌,
  nat_eq,
  List,
  [],
  ◌∷◌,
  ◌++◌,
  refl,
  sym,
  ap,
  subst,
  ◌∙◌,
  append_assoc,
}
use Rattle.std.specs.Prelude.{Some, None, Option}
use Rattle.std.specs.List.{list_any}
use Rattle.std.proofs.lemmas.Bool.{cases_Bool}
use Rattle.std.proofs.lemmas.List.Folds.{list_any-append}
use Rattle.h2frame.specs.declared.frame.Frame.{Frame}
use Rattle.h2frame.specs.declared.frame.FrameHead.{FrameHead}
use Rattle.h2frame.specs.FrameList.{Entry}
use Rattle.hpack_codec.specs.Table.{Table}
use Rattle.callhead.specs.declared.fault.HeadFault.{HeadFault}
use Rattle.callhead.specs.declared.fault.HeadFault.TheVariants.{Malformed}
use Rattle.streamstates.specs.declared.halves.HalfState.TheVariants.{Opened}
use Rattle.streamstates.specs.declared.halves.FrameAction.{FrameAction}
use Rattle.streamstates.specs.declared.halves.FrameAction.TheVariants.{
  Open,
  Accept,
  Discard,
  StreamError,
  ConnectionError,
}
use Rattle.streamstates.specs.Halves.{Event, verdict}
use Rattle.streamstates.proofs.HalfLemmas.{kept-None}
use Rattle.session.specs.declared.event.InEvent.{InEvent}
use Rattle.session.specs.declared.event.InEvent.TheVariants as events
use Rattle.session.specs.Streams.{counted, end_of, data_events, credit_head, credit_verdict}
use Rattle.session.specs.Blocks.{bad_head_events, BlockGives}
use Rattle.session.specs.Events.{
  Situation,
  start,
  Group,
  Single,
  Credit,
  Block,
  GroupGives,
  Runs,
  Events,
}
use Rattle.session.specs.Framings.{Framed}
use Rattle.session.specs.StreamData.{
  Ending,
  Unended,
  Finished,
  Aborted,
  piece_of,
  pieces,
  is_opening,
  end_told,
  first_end,
  ending_told,
}
use Rattle.session.proofs.HalfSteps.{half_at, IsFew}
use Rattle.session.proofs.StreamPieces.{
  pieces_append,
  silent_same,
  end_silent,
  refusal_silent,
  data_silent,
  data_untold,
  kind_silent,
  block_pieces,
  block_silent,
}
use Rattle.session.proofs.StreamGroups.{
  stream_at,
  open_or_not,
  data_or_not,
  data_gives,
  elsewhere_silent,
}
use Rattle.session.proofs.OpenStreamData.{block_closed}
use Rattle.session.proofs.NewStreamData.{UnbegunNext, group_unbegun}
use Rattle.session.proofs.StreamEnds.{
  first_unended,
  IsQuiet,
  told_append,
  quiet_join,
  quiet_same,
  counted_quiet,
}
use Rattle.session.proofs.OpenStreamEnds.{group_open_end}
use Rattle.session.proofs.NewStreamEnds.{Still, Begins, Ends, Untold, group_new_end}
use Rattle.session.proofs.StreamRuns.{closed_runs, few_before, later, never}
use Rattle.session.proofs.StreamFrames.{
  frames_of,
  close_last,
  last_silent,
  opens_before,
  not_unread,
}

-- ---- lists of events

-- An event of two lists joined is one of the first, or one of the other.
abbrev IsPlaced : List InEvent → List InEvent → List InEvent → InEvent → List InEvent → Type 0
IsPlaced first others before event after =
    ((more : List InEvent) × (first ≡ before ++ event ∷ more) × (after ≡ more ++ others))
    ⊎ ((more : List InEvent) × (before ≡ first ++ more) × (others ≡ more ++ event ∷ after))

same_head : (x y : InEvent) (xs ys : List InEvent) → x ∷ xs ≡ y ∷ ys → x ≡ y
same_head x y xs ys e = cc

same_tail : (x y : InEvent) (xs ys : List InEvent) → x ∷ xs ≡ y ∷ ys → xs ≡ ys
same_tail x y xs ys e = cc

same_list : (x y : InEvent) (xs ys : List InEvent) → x ≡ y → xs ≡ ys → x ∷ xs ≡ y ∷ ys
same_list x y xs ys e f = ap (λ (z : InEvent). z ∷ xs) e ∙ ap (λ (zs : List InEvent). y ∷ zs) f

place : (first others before : List InEvent) (event : InEvent) (after : List InEvent)
    → first ++ others ≡ before ++ event ∷ after → IsPlaced first others before event after
place [] others before event after e = inr (before, refl, e)
place (x ∷ first) others [] event after e =
    inl (
      first,
      same_list x event first first (same_head x event (first ++ others) after e) refl,
      sym (same_tail x event (first ++ others) after e),
    )
place (x ∷ first) others (y ∷ before) event after e =
    let same : x ≡ y = same_head x y (first ++ others) (before ++ event ∷ after) e in
    elim (place first others before event after
    (same_tail x y (first ++ others) (before ++ event ∷ after) e)) [
      | inl (more, is, rest) ↦
          inl (more, same_list x y first (before ++ event ∷ more) same is, rest)
      | inr (more, is, rest) ↦ inr (more, same_list y x before (first ++ more) (sym same) is, rest)
    ]

no_event : (before : List InEvent) (event : InEvent) (after : List InEvent)
    → [] ≡ before ++ event ∷ after → ⊥
no_event [] event after e = cc
no_event (x ∷ before) event after e = cc

nil_parts : (xs ys : List ℕ) → xs ++ ys ≡ [] → (xs ≡ []) × (ys ≡ [])
nil_parts [] ys e = (refl, e)
nil_parts (x ∷ xs) ys e = absurd cc

or_false : (a b : Bool) → (a || b) ≡ false → (a ≡ false) × (b ≡ false)
or_false true b e = absurd cc
or_false false b e = (refl, e)

or_true : (a b c : Bool) → b ≡ true → (a || (b || c)) ≡ true
or_true true b c e = refl
or_true false true c e = refl
or_true false false c e = absurd cc

-- an opening among events is told of
pub opening_told : (id : ℕ) (given before : List InEvent) (event : InEvent) (after : List InEvent)
    → given ≡ before ++ event ∷ after → is_opening id event ≡ true
    → list_any (is_opening id) given ≡ true
opening_told id given before event after e opens =
    ap (list_any (is_opening id)) e ∙ list_any-append (is_opening id) before (event ∷ after)
    ∙ or_true (list_any (is_opening id) before) (is_opening id event)
    (list_any (is_opening id) after) opens

not_among : (id : ℕ) (given before : List InEvent) (event : InEvent) (after : List InEvent)
    → given ≡ before ++ event ∷ after → is_opening id event ≡ true
    → list_any (is_opening id) given ≡ false → ⊥
not_among id given before event after e opens none =
    never (list_any (is_opening id) given) (opening_told id given before event after e opens) none

-- and so is an end
no_end_among : (id : ℕ) (given before : List InEvent) (event : InEvent) (after : List InEvent)
    → given ≡ before ++ event ∷ after → end_told id event ≢ Unended → IsQuiet id given → ⊥
no_end_among id given before event after e ends quiet =
    let all : first_end (ending_told id before)
    (first_end (end_told id event) (ending_told id after)) ≡ Unended =
    sym (told_append id before (event ∷ after)) ∙ ap (ending_told id) (sym e) ∙ quiet in
    let here : first_end (end_told id event) (ending_told id after) ≡ Unended =
    (first_unended (ending_told id before)
    (first_end (end_told id event) (ending_told id after)) all).1 in
    ends (first_unended (end_told id event) (ending_told id after) here).0

-- ---- before its opening nothing is told of a stream

-- only the first of a group's events tells that a stream begins
abbrev behind_first : List InEvent → List InEvent
behind_first [] = []
behind_first (event ∷ given) = given

abbrev IsFirstAlone : ℕ → List InEvent → Type 0
IsFirstAlone id given = list_any (is_opening id) (behind_first given) ≡ false

none_alone : (id : ℕ) (given : List InEvent) → list_any (is_opening id) given ≡ false
    → IsFirstAlone id given
none_alone id [] none = refl
none_alone id (event ∷ given) none =
    (or_false (is_opening id event) (list_any (is_opening id) given) none).1

same_alone : (id : ℕ) (given due : List InEvent) → given ≡ due → IsFirstAlone id due
    → IsFirstAlone id given
same_alone id given due e alone = subst (IsFirstAlone id) (sym e) alone

bad_head_alone : (id : ℕ) (fault : HeadFault) (head : FrameHead)
    → IsFirstAlone id (bad_head_events fault head)
bad_head_alone id Malformed head = refl
bad_head_alone id _ head = (end_silent id head).1

open_alone : (id : ℕ) (kept kept_next : Option Table) (head : FrameHead) (block : List ℕ)
    (history next : List Event) (given : List InEvent)
    → BlockGives kept head Open block history given next kept_next → IsFirstAlone id given
open_alone id kept kept_next head block history next given
    (inl (fields, reads, inl (call, is, e, same))) =
    same_alone id given (events.Open head.stream call ∷ end_of head) e (end_silent id head).1
open_alone id kept kept_next head block history next given
    (inl (fields, reads, inr (fault, first, e, same))) =
    same_alone id given (bad_head_events fault head) e (bad_head_alone id fault head)
open_alone id kept kept_next head block history next given (inr (fault, first, memory, e, same)) =
    same_alone id given _ e refl

block_alone : (id : ℕ) (kept kept_next : Option Table) (head : FrameHead) (judged : FrameAction)
    (block : List ℕ) (history next : List Event) (given : List InEvent)
    → BlockGives kept head judged block history given next kept_next → IsFirstAlone id given
block_alone id kept kept_next head judged block history next given gives =
    elim (open_or_not judged) [
      | inl opens ↦
          open_alone id kept kept_next head block history next given (subst
          (λ (v : FrameAction).
          BlockGives kept head v block history given next kept_next) opens gives)
      | inr not ↦
          none_alone id given
          (block_silent id kept kept_next head judged block history next given not gives).0.1
    ]

-- a group that isn't a header block tells no opening
single_untold : (id : ℕ) (old new : Situation) (frame : Frame) (given : List InEvent)
    → GroupGives old (Single frame) given new → list_any (is_opening id) given ≡ false
single_untold id old new frame given (gives, same) =
    elim (data_or_not frame.head.kind) [
      | inl is ↦
          ap (list_any (is_opening id))
          (data_gives frame.head.kind old.history new.history frame given is gives).0
          ∙ data_untold id (verdict old.history frame.head) frame
      | inr not ↦ (kind_silent id frame.head.kind old.history new.history frame given not gives).1
    ]

credit_untold : (id : ℕ) (old new : Situation) (stream : ℕ) (given : List InEvent)
    → GroupGives old (Credit stream) given new → list_any (is_opening id) given ≡ false
credit_untold id old new stream given (e, next, same) =
    (silent_same id given _ e
    (refusal_silent id (credit_verdict old.history stream) (credit_head stream))).1

group_alone : (id : ℕ) (old new : Situation) (group : Group) (given : List InEvent)
    → GroupGives old group given new → IsFirstAlone id given
group_alone id old new (Single frame) given gives =
    none_alone id given (single_untold id old new frame given gives)
group_alone id old new (Credit stream) given gives =
    none_alone id given (credit_untold id old new stream given gives)
group_alone id old new (Block frames block) given (begun, whole, gives) =
    block_alone id old.kept new.kept block.head (verdict old.history block.head) block.block _
    new.history given gives

-- a stream that is open doesn't begin
here_untold : (id : ℕ) (old new : Situation) (group : Group) (given : List InEvent)
    → GroupGives old group given new → nat_eq id (stream_at group) ≡ true
    → half_at old.history id ≡ Some Opened → list_any (is_opening id) given ≡ false
here_untold id old new (Single frame) given gives on at = single_untold id old new frame given gives
here_untold id old new (Credit stream) given gives on at =
    credit_untold id old new stream given gives
here_untold id old new (Block frames block) given gives on at =
    (block_closed id old new frames block given gives on at).1.1

open_untold : (id : ℕ) (old new : Situation) (group : Group) (given : List InEvent)
    → GroupGives old group given new → half_at old.history id ≡ Some Opened
    → list_any (is_opening id) given ≡ false
open_untold id old new group given gives at =
    elim (cases_Bool (nat_eq id (stream_at group))) [
      | inl on ↦ here_untold id old new group given gives on at
      | inr other ↦ (elsewhere_silent id old new group given gives other).1
    ]

joined_untold : (id : ℕ) (given first others : List InEvent) → given ≡ first ++ others
    → list_any (is_opening id) first ≡ false → list_any (is_opening id) others ≡ false
    → list_any (is_opening id) given ≡ false
joined_untold id given first others e none more =
    ap (list_any (is_opening id)) e ∙ list_any-append (is_opening id) first others
    ∙ ap (λ (b : Bool). b || list_any (is_opening id) others) none ∙ more

open_runs_untold : (id : ℕ) (old new : Situation) (groups : List Group) (given : List InEvent)
    → Runs old groups given new → half_at old.history id ≡ Some Opened
    → list_any (is_opening id) given ≡ false
open_runs_untold id old new [] given (e, same) at = ap (list_any (is_opening id)) e
open_runs_untold id old new (group ∷ groups) given (first, others, next, gives, calm, runs, e) at =
    joined_untold id given first others e (open_untold id old next group first gives at)
    (elim (group_open_end id old next group first gives calm at) [
      | inl (inl (quiet, half, due)) ↦ open_runs_untold id next new groups others runs half
      | inl (inr (end, last, told, closed, due)) ↦
          (closed_runs id next new groups others runs closed).1
      | inr so ↦ (closed_runs id next new groups others runs so.closed).1
    ])

abbrev TellsNothing : ℕ → List InEvent → Type 0
TellsNothing id given = (pieces id given ≡ []) × IsQuiet id given

nothing_joined : (id : ℕ) (given first more : List InEvent) → given ≡ first ++ more
    → TellsNothing id first → TellsNothing id more → TellsNothing id given
nothing_joined id given first more e (none, quiet) (none', quiet') = (
  ap (pieces id) e ∙ pieces_append id first more
      ∙ ap (λ (b : List ℕ). b ++ pieces id more) none ∙ none',
  quiet_same id given (first ++ more) e (quiet_join id first more quiet quiet'),
)

unbegun_nothing : (id : ℕ) (new : Situation) (group : Group) (given : List InEvent)
    → UnbegunNext id new group given → pieces id given ≡ []
unbegun_nothing id new group given (inl (still, silent, due)) = silent.0
unbegun_nothing id new group given (inr (inl (half, nothing, due))) = nothing
unbegun_nothing id new group given (inr (inr (closed, nothing, due))) = nothing

before_alone : (id : ℕ) (first before : List InEvent) (event : InEvent) (more : List InEvent)
    → first ≡ before ++ event ∷ more → IsFirstAlone id first → is_opening id event ≡ true
    → TellsNothing id before
before_alone id first [] event more is alone opens = (refl, refl)
before_alone id first (x ∷ before) event more is alone opens =
    absurd (not_among id (before ++ event ∷ more) before event more refl opens
    (subst (IsFirstAlone id) is alone))

nothing_before : (id : ℕ) (old new : Situation) (groups : List Group) (given before : List InEvent)
    (event : InEvent) (after : List InEvent)
    → Runs old groups given new → half_at old.history id ≡ None
    → given ≡ before ++ event ∷ after → is_opening id event ≡ true → TellsNothing id before
nothing_before id old new [] given before event after (e, same) none parts opens =
    absurd (no_event before event after (sym e ∙ parts))
nothing_before id old new (group ∷ groups) given before event after
    (first, others, next, gives, calm, runs, e) none parts opens =
    let few : IsFew old.history =
    few_before id old new (group ∷ groups) given (first, others, next, gives, calm, runs, e)
    (opening_told id given before event after parts opens) in
    elim (place first others before event after (sym e ∙ parts)) [
      | inl (more, is, rest) ↦
          before_alone id first before event more is
          (group_alone id old next group first gives) opens
      | inr (more, is, rest) ↦ elim (group_new_end id old next group first gives calm none few) [
        | Still still quiet untold due ↦
            nothing_joined id before first more is (
              unbegun_nothing id next group first
                  (group_unbegun id old next group first gives calm none few),
              quiet,
            )
            (nothing_before id next new groups others more event after runs still rest opens)
        | Begins half quiet due ↦
            absurd (not_among id others more event after rest opens
            (open_runs_untold id next new groups others runs half))
        | Ends closed told due ↦
            absurd (not_among id others more event after rest opens
            (closed_runs id next new groups others runs closed).1)
        | Untold closed untold ↦
            absurd (not_among id others more event after rest opens
            (closed_runs id next new groups others runs closed).1)
      ]
    ]

-- ---- behind its end no data are told of a stream

-- a front of the events tells no end of the stream, and the rest no data of it
abbrev IsParted : ℕ → List InEvent → Type 0
IsParted id given =
    (front : List InEvent) × (back : List InEvent) × (given ≡ front ++ back) × IsQuiet id front
    × (pieces id back ≡ [])

without_data : (id : ℕ) (given : List InEvent) → pieces id given ≡ [] → IsParted id given
without_data id given none = ([], given, refl, refl, none)

data_parted : (id : ℕ) (judged : FrameAction) (frame : Frame)
    → IsParted id (data_events judged frame)
data_parted id Accept frame =
    let piece : InEvent = events.Data frame.head.stream frame.content frame.head.length in (
      counted frame.head.length piece,
      end_of frame.head,
      refl,
      counted_quiet id frame.head.length piece refl,
      (end_silent id frame.head).0,
    )
data_parted id Open frame =
    without_data id (data_events Open frame)
    (data_silent id Open frame (λ (e : Open ≡ Accept). cc)).0
data_parted id Discard frame =
    without_data id (data_events Discard frame)
    (data_silent id Discard frame (λ (e : Discard ≡ Accept). cc)).0
data_parted id (StreamError error) frame =
    without_data id (data_events (StreamError error) frame)
    (data_silent id (StreamError error) frame (λ (e : StreamError error ≡ Accept). cc)).0
data_parted id (ConnectionError error) frame =
    without_data id (data_events (ConnectionError error) frame)
    (data_silent id (ConnectionError error) frame (λ (e : ConnectionError error ≡ Accept). cc)).0

group_parted : (id : ℕ) (old new : Situation) (group : Group) (given : List InEvent)
    → GroupGives old group given new → IsParted id given
group_parted id old new (Single frame) given (gives, same) =
    elim (data_or_not frame.head.kind) [
      | inl is ↦
          subst (IsParted id)
          (sym (data_gives frame.head.kind old.history new.history frame given is gives).0)
          (data_parted id (verdict old.history frame.head) frame)
      | inr not ↦
          without_data id given
          (kind_silent id frame.head.kind old.history new.history frame given not gives).0
    ]
group_parted id old new (Credit stream) given (e, next, same) =
    without_data id given (silent_same id given _ e
    (refusal_silent id (credit_verdict old.history stream) (credit_head stream))).0
group_parted id old new (Block frames block) given (begun, whole, gives) =
    without_data id given (block_pieces id old.kept new.kept block.head
    (verdict old.history block.head) block.block _ new.history given gives)

parted_before : (id : ℕ) (given first others : List InEvent) → given ≡ first ++ others
    → IsParted id first → pieces id others ≡ [] → IsParted id given
parted_before id given first others e (front, back, parts, quiet, none) nothing = (
  front,
  back ++ others,
  e ∙ ap (λ (es : List InEvent). es ++ others) parts ∙ append_assoc front back others,
  quiet,
  pieces_append id back others ∙ ap (λ (b : List ℕ). b ++ pieces id others) none ∙ nothing,
)

parted_behind : (id : ℕ) (given first others : List InEvent) → given ≡ first ++ others
    → IsQuiet id first → IsParted id others → IsParted id given
parted_behind id given first others e quiet (front, back, parts, quiet', none) = (
  first ++ front,
  back,
  e ∙ ap (λ (es : List InEvent). first ++ es) parts ∙ sym (append_assoc first front back),
  quiet_join id first front quiet quiet',
  none,
)

open_parted : (id : ℕ) (old new : Situation) (groups : List Group) (given : List InEvent)
    → Runs old groups given new → half_at old.history id ≡ Some Opened → IsParted id given
open_parted id old new [] given (e, same) at = without_data id given (ap (pieces id) e)
open_parted id old new (group ∷ groups) given (first, others, next, gives, calm, runs, e) at =
    elim (group_open_end id old next group first gives calm at) [
      | inl (inl (quiet, half, due)) ↦
          parted_behind id given first others e quiet
          (open_parted id next new groups others runs half)
      | inl (inr (end, last, told, closed, due)) ↦
          parted_before id given first others e (group_parted id old next group first gives)
          (closed_runs id next new groups others runs closed).0
      | inr so ↦
          parted_before id given first others e (group_parted id old next group first gives)
          (closed_runs id next new groups others runs so.closed).0
    ]

new_parted : (id : ℕ) (old new : Situation) (groups : List Group) (given : List InEvent)
    → Runs old groups given new → half_at old.history id ≡ None
    → list_any (is_opening id) given ≡ true → IsParted id given
new_parted id old new [] given (e, same) none opens = without_data id given (ap (pieces id) e)
new_parted id old new (group ∷ groups) given
    (first, others, next, gives, calm, runs, e) none opens =
    elim (group_new_end id old next group first gives calm none (few_before id old new
    (group ∷ groups) given (first, others, next, gives, calm, runs, e) opens)) [
      | Still still quiet untold due ↦
          parted_behind id given first others e quiet (new_parted id next new groups others runs
          still (later id first others given e opens untold))
      | Begins half quiet due ↦
          parted_behind id given first others e quiet
          (open_parted id next new groups others runs half)
      | Ends closed told due ↦
          parted_before id given first others e (group_parted id old next group first gives)
          (closed_runs id next new groups others runs closed).0
      | Untold closed untold ↦
          parted_before id given first others e (group_parted id old next group first gives)
          (closed_runs id next new groups others runs closed).0
    ]

behind_parted : (id : ℕ) (given before : List InEvent) (event : InEvent) (after : List InEvent)
    → IsParted id given → given ≡ before ++ event ∷ after → end_told id event ≢ Unended
    → pieces id after ≡ []
behind_parted id given before event after (front, back, parts, quiet, none) is ends =
    elim (place front back before event after (sym parts ∙ is)) [
      | inl (more, here, rest) ↦ absurd (no_end_among id front before event more here ends quiet)
      | inr (more, there, rest) ↦
          let all : pieces id more ++ pieces id (event ∷ after) ≡ [] =
          sym (pieces_append id more (event ∷ after)) ∙ ap (pieces id) (sym rest) ∙ none in
          (nil_parts (piece_of id event) (pieces id after)
          (nil_parts (pieces id more) (pieces id (event ∷ after)) all).1).1
    ]

-- ---- of all events of a connection's bytes

pub framed_before : (bytes : List ℕ) (given before : List InEvent) (event : InEvent)
    (after : List InEvent) (entries : List Entry) (id : ℕ)
    → Framed bytes given entries
    → given ≡ before ++ event ∷ after → is_opening id event ≡ true
    → (pieces id before ≡ []) × (ending_told id before ≡ Unended)
framed_before bytes given before event after entries id (inl (unread, none)) parts opens =
    absurd (not_unread id bytes given unread (opening_told id given before event after parts opens))
framed_before bytes given before event after entries id (inr so) parts opens =
    elim (place so.before so.last before event after (sym so.all ∙ parts)) [
      | inl (more, is, rest) ↦
          nothing_before id start so.now so.passes.groups so.before before event more so.passes.runs
          (kept-None id []) is opens
      | inr (more, is, rest) ↦
          absurd (not_among id so.last more event after rest opens (last_silent id so.last
          (close_last so.close so.now so.behind so.rest so.last so.closes)).1)
    ]

framed_parted : (bytes : List ℕ) (given : List InEvent) (entries : List Entry) (id : ℕ)
    → Framed bytes given entries → list_any (is_opening id) given ≡ true → IsParted id given
framed_parted bytes given entries id (inl (unread, none)) opens =
    absurd (not_unread id bytes given unread opens)
framed_parted bytes given entries id (inr so) opens =
    let is = close_last so.close so.now so.behind so.rest so.last so.closes in
    parted_before id given so.before so.last so.all
    (new_parted id start so.now so.passes.groups so.before so.passes.runs (kept-None id [])
    (opens_before id given so.before so.last so.all is opens)) (last_silent id so.last is).0

pub framed_behind : (bytes : List ℕ) (given before : List InEvent) (event : InEvent)
    (after : List InEvent) (entries : List Entry) (id : ℕ)
    → Framed bytes given entries
    → list_any (is_opening id) given ≡ true → given ≡ before ++ event ∷ after
    → end_told id event ≢ Unended → pieces id after ≡ []
framed_behind bytes given before event after entries id framed opens parts ends =
    behind_parted id given before event after
    (framed_parted bytes given entries id framed opens) parts ends

pub nothing_before_opening : (bytes : List ℕ) (given before : List InEvent) (event : InEvent)
    (after : List InEvent) (id : ℕ)
    → Events bytes given
    → given ≡ before ++ event ∷ after → is_opening id event ≡ true
    → (pieces id before ≡ []) × (ending_told id before ≡ Unended)
nothing_before_opening bytes given before event after id read parts opens =
    let framed = frames_of bytes given read in
    framed_before bytes given before event after framed.0 id framed.1 parts opens

pub no_data_behind_end : (bytes : List ℕ) (given before : List InEvent) (event : InEvent)
    (after : List InEvent) (id : ℕ)
    → Events bytes given
    → list_any (is_opening id) given ≡ true → given ≡ before ++ event ∷ after
    → end_told id event ≢ Unended → pieces id after ≡ []
no_data_behind_end bytes given before event after id read opens parts ends =
    let framed = frames_of bytes given read in
    framed_behind bytes given before event after framed.0 id framed.1 opens parts ends
