-- The data that a run of groups tells of a stream, and those of its frames.
use Rattle.std.proofs.Common.{
  ◌≡◌,
  ◌≤◌,
  ◌⊎◌,
  ℕ,
  inl,
  inr,
  Bool,
  true,
  false,
  ◌||◌,
  List,
  [],
  ◌∷◌,
  ◌++◌,
  length,
  refl,
  sym,
  ap,
  subst,
  ◌∙◌,
  append_assoc,
  arith,
}
use Rattle.std.specs.Prelude.{Some, None, nat_lt, if◌then◌else◌, flat_map, map}
use Rattle.std.specs.List.{list_any, AllByRecursion}
use Rattle.std.proofs.lemmas.Bool.{cases_Bool}
use Rattle.std.proofs.lemmas.List.{append-nil, length-append}
use Rattle.std.proofs.lemmas.List.Folds.{list_any-append}
use Rattle.std.proofs.lemmas.List.Concat.{flat_map-cons}
use Rattle.h2frame.specs.FrameList.{Entry, Whole, NoIncrement, Spells, Joined}
use Rattle.h2frame.specs.Flags.{is_padded}
use Rattle.h2frame.specs.Spelling.{payload_text}
use Rattle.limits.specs.declared.TheConstants.{MAX_STREAMS}
use Rattle.streamstates.specs.declared.halves.HalfState.TheVariants.{Opened}
use Rattle.streamstates.specs.Halves.{begun}
use Rattle.streamstates.proofs.HalfLemmas.{kept-None}
use Rattle.session.specs.declared.event.InEvent.{InEvent}
use Rattle.session.specs.Events.{
  Situation,
  start,
  Group,
  Single,
  Credit,
  Block,
  entries_of,
  GroupGives,
  IsCalm,
  Runs,
  Opens,
  Passes,
}
use Rattle.session.specs.StreamData.{
  data_behind,
  data_of,
  pieces,
  is_opening,
  Ending,
  Unended,
  Finished,
  Aborted,
  first_end,
  ending_behind,
  ending_of,
  ending_told,
}
use Rattle.session.specs.Trailers.{HasMalformedTrailers, EndsAs, is_stream_error}
use Rattle.session.proofs.HalfSteps.{half_at, IsClosed, IsFew, IsFull}
use Rattle.session.proofs.StreamPieces.{IsSilent, pieces_append, silent_join, silent_same}
use Rattle.session.proofs.StreamGroups.{group_closed, group_full, group_untold}
use Rattle.session.proofs.OpenStreamData.{IsCounted, closed_silent, group_open}
use Rattle.session.proofs.NewStreamData.{group_unbegun}
use Rattle.session.proofs.StreamEnds.{told_append}
use Rattle.session.proofs.OpenStreamEnds.{AreRefused, group_open_end}
use Rattle.session.proofs.NewStreamEnds.{Still, Begins, Ends, Untold, group_new_end}

abbrev pub front_of : List Group → List Entry
front_of [] = []
front_of (group ∷ groups) = entries_of group ++ front_of groups

pub front_is : (groups : List Group) → front_of groups ≡ flat_map entries_of groups
front_is [] = refl
front_is (group ∷ groups) =
    ap (λ (es : List Entry). entries_of group ++ es) (front_is groups)
    ∙ sym (flat_map-cons entries_of group groups)

all_front : (xs ys : List Entry) → AllByRecursion IsCounted (xs ++ ys) → AllByRecursion IsCounted xs
all_front [] ys all = tt
all_front (x ∷ xs) ys all = (all.0, all_front xs ys all.1)

all_back : (xs ys : List Entry) → AllByRecursion IsCounted (xs ++ ys) → AllByRecursion IsCounted ys
all_back [] ys all = all
all_back (x ∷ xs) ys all = all_back xs ys all.1

pub closed_runs : (id : ℕ) (old new : Situation) (groups : List Group) (given : List InEvent)
    → Runs old groups given new → IsClosed (half_at old.history id) → IsSilent id given
closed_runs id old new [] given (e, same) closed = silent_same id given [] e (refl, refl)
closed_runs id old new (group ∷ groups) given (first, others, next, gives, calm, runs, e) closed =
    silent_same id given (first ++ others) e
    (silent_join id first others (closed_silent id old next group first gives closed) (closed_runs
    id next new groups others runs (group_closed id old next group first gives closed)))

open_runs : (id : ℕ) (old new : Situation) (groups : List Group) (given : List InEvent)
    → Runs old groups given new → AllByRecursion IsCounted (front_of groups)
    → half_at old.history id ≡ Some Opened → pieces id given ≡ data_behind id (front_of groups)
open_runs id old new [] given (e, same) counts at = ap (pieces id) e
open_runs id old new (group ∷ groups) given (first, others, next, gives, calm, runs, e) counts at =
    ap (pieces id) e ∙ pieces_append id first others
    ∙ elim (group_open id old next group first gives
    (all_front (entries_of group) (front_of groups) counts) at) [
      | inl (half, due) ↦
          ap (λ (b : List ℕ). pieces id first ++ b) (open_runs id next new groups others runs
          (all_back (entries_of group) (front_of groups) counts) half)
          ∙ sym (due (front_of groups))
      | inr (closed, due) ↦
          ap (λ (b : List ℕ). pieces id first ++ b)
          (closed_runs id next new groups others runs closed).0
          ∙ append-nil (pieces id first) ∙ sym (due (front_of groups))
    ]

pub later : (id : ℕ) (first others given : List InEvent) → given ≡ first ++ others
    → list_any (is_opening id) given ≡ true → list_any (is_opening id) first ≡ false
    → list_any (is_opening id) others ≡ true
later id first others given e opens none =
    ap (λ (b : Bool). b || list_any (is_opening id) others) (sym none)
    ∙ sym (list_any-append (is_opening id) first others)
    ∙ ap (list_any (is_opening id)) (sym e) ∙ opens

pub never : (b : Bool) → b ≡ true → b ≡ false → ⊥
never true e f = absurd cc
never false e f = absurd cc

full_runs : (id : ℕ) (old new : Situation) (groups : List Group) (given : List InEvent)
    → Runs old groups given new → IsFull old.history → list_any (is_opening id) given ≡ false
full_runs id old new [] given (e, same) full = ap (list_any (is_opening id)) e
full_runs id old new (group ∷ groups) given (first, others, next, gives, calm, runs, e) full =
    ap (list_any (is_opening id)) e ∙ list_any-append (is_opening id) first others
    ∙ ap (λ (b : Bool). b || list_any (is_opening id) others)
    (group_untold id old next group first gives full)
    ∙ full_runs id next new groups others runs (group_full old next group first gives full)

-- where a stream is told to begin, fewer were begun before than may be
pub few_before : (id : ℕ) (old new : Situation) (groups : List Group) (given : List InEvent)
    → Runs old groups given new → list_any (is_opening id) given ≡ true → IsFew old.history
few_before id old new groups given runs opens =
    elim (cases_Bool (nat_lt (length (begun old.history)) MAX_STREAMS)) [
      | inl few ↦ few
      | inr full ↦
          absurd (never (list_any (is_opening id) given) opens
          (full_runs id old new groups given runs full))
    ]

unbegun_runs : (id : ℕ) (old new : Situation) (groups : List Group) (given : List InEvent)
    → Runs old groups given new → AllByRecursion IsCounted (front_of groups)
    → half_at old.history id ≡ None → list_any (is_opening id) given ≡ true
    → pieces id given ≡ data_of id (front_of groups)
unbegun_runs id old new [] given (e, same) counts none opens =
    absurd (never (list_any (is_opening id) given) opens (ap (list_any (is_opening id)) e))
unbegun_runs id old new (group ∷ groups) given (first, others, next, gives, calm, runs, e)
    counts none opens =
    ap (pieces id) e ∙ pieces_append id first others
    ∙ elim (group_unbegun id old next group first gives calm none (few_before id old new
    (group ∷ groups) given (first, others, next, gives, calm, runs, e) opens)) [
      | inl (still, silent, due) ↦
          ap (λ (b : List ℕ). b ++ pieces id others) silent.0
          ∙ unbegun_runs id next new groups others runs
          (all_back (entries_of group) (front_of groups) counts) still
          (later id first others given e opens silent.1)
          ∙ sym (due (front_of groups))
      | inr (inl (half, nothing, due)) ↦
          ap (λ (b : List ℕ). b ++ pieces id others) nothing
          ∙ open_runs id next new groups others runs
          (all_back (entries_of group) (front_of groups) counts) half
          ∙ sym (due (front_of groups))
      | inr (inr (closed, nothing, inl untold)) ↦
          absurd (never (list_any (is_opening id) others)
          (later id first others given e opens untold)
          (closed_runs id next new groups others runs closed).1)
      | inr (inr (closed, nothing, inr due)) ↦
          ap (λ (b : List ℕ). b ++ pieces id others) nothing
          ∙ (closed_runs id next new groups others runs closed).0 ∙ sym (due (front_of groups))
    ]

-- ---- what is read counts its content

entry_counted : (entry : Entry) (text : List ℕ) → Spells text entry → IsCounted entry
entry_counted (Whole frame) text (skipped, fits, spells, fine) =
    within (payload_text frame.head skipped frame.content) frame.content skipped.priority
    skipped.padding (if is_padded frame.head then length skipped.padding ∷ [] else [])
    frame.head.length refl fits.payload
  where
    within : (payload content priority padding pad : List ℕ) (n : ℕ)
        → payload ≡ pad ++ (priority ++ (content ++ padding)) → length payload ≡ n
        → length content ≤ n
    within payload content priority padding pad n e f =
        omega (
          arith,
          ap length e,
          f,
          length-append pad (priority ++ (content ++ padding)),
          length-append priority (content ++ padding),
          length-append content padding,
        )
entry_counted (NoIncrement stream) text spells = tt

all_counted : (text : List ℕ) (entries : List Entry) (rest : List ℕ) → Joined text entries rest
    → AllByRecursion IsCounted entries
all_counted text [] rest e = tt
all_counted text (entry ∷ entries) rest (front, more, parts, spells, tail) =
    (entry_counted entry front spells, all_counted more entries rest tail)

pub data_told : (text : List ℕ) (entries behind : List Entry) (rest : List ℕ) (given : List InEvent)
    (now : Situation) (id : ℕ)
    → Joined text entries rest → Passes entries behind given now
    → list_any (is_opening id) given ≡ true
    → (front : List Entry) × (entries ≡ front ++ behind) × (pieces id given ≡ data_of id front)
data_told text entries behind rest given now id joined passes opens =
    let is : front_of passes.groups ≡ flat_map entries_of passes.groups = front_is passes.groups in
    let parts : entries ≡ front_of passes.groups ++ behind =
    passes.parts ∙ ap (λ (es : List Entry). es ++ behind) (sym is) in
    let counts : AllByRecursion IsCounted (front_of passes.groups) =
    all_front (front_of passes.groups) behind (subst
    (λ (es : List Entry). AllByRecursion IsCounted es) parts
    (all_counted text entries rest joined)) in (
      front_of passes.groups,
      parts,
      unbegun_runs id start now passes.groups given passes.runs counts (kept-None id []) opens,
    )

-- ---- the end of a stream

-- malformed trailers of the stream came in a run
pub record RunRefused (id : ℕ) (old : Situation) (groups : List Group)
    (given : List InEvent) : Type 0 where
  pub before : List Group
  pub group : Group
  pub behind : List Group
  pub told : List InEvent
  pub now : Situation
  pub parts : groups ≡ before ++ group ∷ behind
  pub runs : Runs old before told now
  pub refused : AreRefused id now group
  pub aborted : ending_told id given ≡ Aborted
  pub error : list_any (is_stream_error id) given ≡ true

abbrev RunEnds : ℕ → Situation → List Group → List InEvent → Ending → Type 0
RunEnds id old groups given due =
    (ending_told id given ≡ due) ⊎ (RunRefused id old groups given × (due ≡ Finished))

or_right : (a b : Bool) → b ≡ true → (a || b) ≡ true
or_right true b e = refl
or_right false b e = e

error_before : (id : ℕ) (first others given : List InEvent) → given ≡ first ++ others
    → list_any (is_stream_error id) first ≡ true → list_any (is_stream_error id) given ≡ true
error_before id first others given e some =
    ap (list_any (is_stream_error id)) e ∙ list_any-append (is_stream_error id) first others
    ∙ ap (λ (b : Bool). b || list_any (is_stream_error id) others) some

error_behind : (id : ℕ) (first others given : List InEvent) → given ≡ first ++ others
    → list_any (is_stream_error id) others ≡ true → list_any (is_stream_error id) given ≡ true
error_behind id first others given e some =
    ap (list_any (is_stream_error id)) e ∙ list_any-append (is_stream_error id) first others
    ∙ or_right (list_any (is_stream_error id) first) (list_any (is_stream_error id) others) some

told_behind : (id : ℕ) (first others given : List InEvent) → given ≡ first ++ others
    → ending_told id first ≡ Unended → ending_told id given ≡ ending_told id others
told_behind id first others given e quiet =
    ap (ending_told id) e ∙ told_append id first others
    ∙ ap (λ (b : Ending). first_end b (ending_told id others)) quiet

told_before : (id : ℕ) (first others given : List InEvent) (end : Ending) → given ≡ first ++ others
    → ending_told id first ≡ end → first_end end (ending_told id others) ≡ end
    → ending_told id given ≡ end
told_before id first others given end e told last =
    ap (ending_told id) e ∙ told_append id first others
    ∙ ap (λ (b : Ending). first_end b (ending_told id others)) told ∙ last

-- behind a group that tells no end of the stream
ends_behind : (id : ℕ) (old next : Situation) (group : Group) (groups : List Group)
    (given first others : List InEvent) (due rest : Ending)
    → GroupGives old group first next → IsCalm first → given ≡ first ++ others
    → ending_told id first ≡ Unended → due ≡ rest → RunEnds id next groups others rest
    → RunEnds id old (group ∷ groups) given due
ends_behind id old next group groups given first others due rest gives calm e quiet same
    (inl told) = inl (told_behind id first others given e quiet ∙ told ∙ sym same)
ends_behind id old next group groups given first others due rest gives calm e quiet same
    (inr (so, ended)) =
    inr (
      record {
        before = group ∷ so.before;
        group = so.group;
        behind = so.behind;
        told = first ++ so.told;
        now = so.now;
        parts = ap (λ (gs : List Group). group ∷ gs) so.parts;
        runs = (first, so.told, next, gives, calm, so.runs, refl);
        refused = so.refused;
        aborted = told_behind id first others given e quiet ∙ so.aborted;
        error = error_behind id first others given e so.error;
      },
      same ∙ ended,
    )

open_ends : (id : ℕ) (old new : Situation) (groups : List Group) (given : List InEvent)
    → Runs old groups given new → half_at old.history id ≡ Some Opened
    → RunEnds id old groups given (ending_behind id (front_of groups))
open_ends id old new [] given (e, same) at = inl (ap (ending_told id) e)
open_ends id old new (group ∷ groups) given (first, others, next, gives, calm, runs, e) at =
    elim (group_open_end id old next group first gives calm at) [
      | inl (inl (quiet, half, due)) ↦
          ends_behind id old next group groups given first others
          (ending_behind id (front_of (group ∷ groups))) (ending_behind id (front_of groups)) gives
          calm e quiet (due (front_of groups)) (open_ends id next new groups others runs half)
      | inl (inr (end, last, told, closed, due)) ↦
          inl (told_before id first others given end e told (last (ending_told id others))
          ∙ sym (due (front_of groups)))
      | inr so ↦ inr (
        record {
          before = [];
          group = group;
          behind = groups;
          told = [];
          now = old;
          parts = refl;
          runs = (refl, refl);
          refused = so.refused;
          aborted = told_before id first others given Aborted e so.aborted refl;
          error = error_before id first others given e so.error;
        },
        so.due (front_of groups),
      )
    ]

new_ends : (id : ℕ) (old new : Situation) (groups : List Group) (given : List InEvent)
    → Runs old groups given new → half_at old.history id ≡ None
    → list_any (is_opening id) given ≡ true
    → RunEnds id old groups given (ending_of id (front_of groups))
new_ends id old new [] given (e, same) none opens =
    absurd (never (list_any (is_opening id) given) opens (ap (list_any (is_opening id)) e))
new_ends id old new (group ∷ groups) given (first, others, next, gives, calm, runs, e) none opens =
    elim (group_new_end id old next group first gives calm none (few_before id old new
    (group ∷ groups) given (first, others, next, gives, calm, runs, e) opens)) [
      | Still still quiet untold due ↦
          ends_behind id old next group groups given first others
          (ending_of id (front_of (group ∷ groups))) (ending_of id (front_of groups)) gives calm e
          quiet (due (front_of groups))
          (new_ends id next new groups others runs still
          (later id first others given e opens untold))
      | Begins half quiet due ↦
          ends_behind id old next group groups given first others
          (ending_of id (front_of (group ∷ groups))) (ending_behind id (front_of groups)) gives calm
          e quiet (due (front_of groups)) (open_ends id next new groups others runs half)
      | Ends closed told due ↦
          inl (ap (ending_told id) e ∙ told_append id first others
          ∙ ap (λ (b : Ending). first_end b (ending_told id others)) told
          ∙ sym (due (front_of groups)))
      | Untold closed untold ↦
          absurd (never (list_any (is_opening id) others)
          (later id first others given e opens untold)
          (closed_runs id next new groups others runs closed).1)
    ]

-- ---- malformed trailers by the frames

front_append : (before behind : List Group)
    → front_of (before ++ behind) ≡ front_of before ++ front_of behind
front_append [] behind = refl
front_append (group ∷ before) behind =
    ap (λ (es : List Entry). entries_of group ++ es) (front_append before behind)
    ∙ sym (append_assoc (entries_of group) (front_of before) (front_of behind))

opens_front : (front behind : List Entry) → Opens (front ++ behind) → Opens front
opens_front [] behind opens = tt
opens_front (entry ∷ front) behind opens = opens

malformed_of : (id : ℕ) (groups before : List Group) (group : Group) (behind : List Group)
    (told : List InEvent) (now : Situation)
    → Opens (front_of groups) → groups ≡ before ++ group ∷ behind → Runs start before told now
    → AreRefused id now group → HasMalformedTrailers id (front_of groups)
malformed_of id groups before (Single frame) behind told now opens parts runs
    refused = absurd refused
malformed_of id groups before (Credit stream) behind told now opens parts runs
    refused = absurd refused
malformed_of id groups before (Block frames block) behind told now opens parts runs
    (fields, next, collects, whole, on, accepted, reads, malformed) =
    record {
      frames = frames;
      block = block;
      behind = front_of behind;
      given = told;
      now = now;
      fields = fields;
      next = next;
      passes = record {
        groups = before;
        parts =
            ap front_of parts ∙ front_append before (Block frames block ∷ behind)
            ∙ ap (λ (es : List Entry). es ++ (map Whole frames ++ front_of behind))
            (front_is before);
        opens = opens;
        runs = runs;
      };
      collects = collects;
      whole = whole;
      on = on;
      accepted = accepted;
      reads = reads;
      malformed = malformed;
    }

ends_as : (id : ℕ) (groups : List Group) (given : List InEvent) → Opens (front_of groups)
    → RunEnds id start groups given (ending_of id (front_of groups))
    → EndsAs id (front_of groups) given
ends_as id groups given opens (inl told) = inl told
ends_as id groups given opens (inr (so, ended)) =
    inr (record {
      trailers =
          malformed_of id groups so.before so.group so.behind so.told so.now opens so.parts
          so.runs so.refused;
      ended = ended;
      aborted = so.aborted;
      error = so.error;
    })

pub end_told_of : (entries behind : List Entry) (given : List InEvent) (now : Situation) (id : ℕ)
    → Passes entries behind given now → list_any (is_opening id) given ≡ true
    → (front : List Entry) × (entries ≡ front ++ behind) × EndsAs id front given
end_told_of entries behind given now id passes opens =
    let is : front_of passes.groups ≡ flat_map entries_of passes.groups = front_is passes.groups in
    let parts : entries ≡ front_of passes.groups ++ behind =
    passes.parts ∙ ap (λ (es : List Entry). es ++ behind) (sym is) in (
      front_of passes.groups,
      parts,
      ends_as id passes.groups given
          (opens_front (front_of passes.groups) behind (subst Opens parts passes.opens))
          (new_ends id start now passes.groups given passes.runs (kept-None id []) opens),
    )
