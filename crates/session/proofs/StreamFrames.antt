-- The frames that count, and what the events of a connection tell of its streams.
use Rattle.std.proofs.Common.{
  ◌≡◌,
  ℕ,
  inl,
  inr,
  Bool,
  true,
  false,
  nat_eq,
  ◌||◌,
  List,
  [],
  ◌∷◌,
  ◌++◌,
  refl,
  sym,
  ap,
  subst,
  ◌∙◌,
}
use Rattle.std.specs.Prelude.{◌⊎◌, flat_map, if◌then◌else◌}
use Rattle.std.specs.List.{list_any}
use Rattle.std.proofs.lemmas.List.{append-nil, append_cancel_right}
use Rattle.std.proofs.lemmas.List.Folds.{list_any-append}
use Rattle.h2frame.specs.FrameList.{Entry, Joined}
use Rattle.reasons.specs.declared.Reason.{Reason}
use Rattle.reasons.specs.declared.Reason.TheVariants as reason
use Rattle.session.specs.declared.event.InEvent.{InEvent}
use Rattle.session.specs.declared.event.InEvent.TheVariants as events
use Rattle.session.specs.Frames.{fatal}
use Rattle.session.specs.HeaderBlocks.{fragment_reason}
use Rattle.session.specs.Events.{
  Situation,
  entries_of,
  Passes,
  Close,
  Unfinished,
  Faulty,
  Refused,
  Broken,
  Ended,
  Closes,
  Events,
  Greeted,
  Departed,
  Unsettled,
  Read,
}
use Rattle.session.specs.Framings.{IsUnread, Framed}
use Rattle.session.specs.StreamData.{
  Ending,
  Unended,
  Finished,
  Aborted,
  data_of,
  pieces,
  is_opening,
  end_told,
  ending_told,
  first_end,
}
use Rattle.session.specs.Trailers.{EndsAs, is_stream_error}
use Rattle.session.proofs.StreamPieces.{IsSilent, pieces_append, silent_same}
use Rattle.session.proofs.StreamEnds.{first_unended, IsQuiet, told_append, quiet_same}
use Rattle.session.proofs.StreamRuns.{data_told, end_told_of}

-- ---- the list

pub frames_of : (bytes : List ℕ) (given : List InEvent) → Events bytes given
    → (entries : List Entry) × Framed bytes given entries
frames_of bytes given (Greeted due e silent) = ([], inl (inl (due, e, silent), refl))
frames_of bytes given (Departed departs e) = ([], inl (inr (inl (departs, e)), refl))
frames_of bytes given (Unsettled text entries rest e joined unsettled g) =
    ([], inl (inr (inr (text, entries, rest, e, joined, unsettled, g)), refl))
frames_of bytes given (Read text entries rest close e joined follows) = (
  flat_map entries_of follows.passes.groups,
  inr (record {
    text = text;
    behind = follows.behind;
    rest = rest;
    before = follows.before;
    last = follows.last;
    now = follows.now;
    close = close;
    greeted = e;
    joined = subst (λ (es : List Entry). Joined text es rest) follows.passes.parts joined;
    passes =
        subst (λ (es : List Entry). Passes es follows.behind follows.before follows.now)
        follows.passes.parts follows.passes;
    closes = follows.closes;
    all = follows.all;
  }),
)

-- ---- the events that end a connection tell nothing of a stream

abbrev pub IsLast : List InEvent → Type 0
IsLast given = (given ≡ []) ⊎ ((why : Reason) × (given ≡ fatal why))

pub close_last : (close : Close) (now : Situation) (behind : List Entry) (rest : List ℕ)
    (last : List InEvent)
    → Closes close now behind rest last → IsLast last
close_last Unfinished now behind rest last (partial, ends, e) = inl e
close_last (Faulty fault) now behind rest last (partial, faulty, e) = inr (reason.Frame fault, e)
close_last (Refused frame error) now behind rest last (is, kind, judged, e) =
    inr (reason.Stream frame.head.kind error, e)
close_last (Broken frames block entry fault) now behind rest last (begun, partial, is, breaks, e) =
    inr (fragment_reason fault, e)
close_last (Ended group next error) now behind rest last (is, gives, e) = inr (error, e)

pub unread_last : (bytes : List ℕ) (given : List InEvent) → IsUnread bytes given → IsLast given
unread_last bytes given (inl (due, e, silent)) = inl silent
unread_last bytes given (inr (inl (departs, e))) = inr (reason.Preface, e)
unread_last bytes given (inr (inr (text, entries, rest, e, joined, unsettled, g))) =
    inr (reason.First, g)

pub last_silent : (id : ℕ) (given : List InEvent) → IsLast given → IsSilent id given
last_silent id given (inl e) = silent_same id given [] e (refl, refl)
last_silent id given (inr (error, e)) = silent_same id given (fatal error) e (refl, refl)

last_quiet : (id : ℕ) (given : List InEvent) → IsLast given → IsQuiet id given
last_quiet id given (inl e) = quiet_same id given [] e refl
last_quiet id given (inr (error, e)) = quiet_same id given (fatal error) e refl

-- ---- so an opening is among those before

never : (b : Bool) → b ≡ true → b ≡ false → ⊥
never true e f = absurd cc
never false e f = absurd cc

or_before : (a b : Bool) → b ≡ false → (a || b) ≡ true → a ≡ true
or_before true b none some = refl
or_before false b none some = absurd (never b some none)

pub opens_before : (id : ℕ) (given before last : List InEvent) → given ≡ before ++ last
    → IsLast last → list_any (is_opening id) given ≡ true → list_any (is_opening id) before ≡ true
opens_before id given before last e is opens =
    or_before (list_any (is_opening id) before) (list_any (is_opening id) last)
    (last_silent id last is).1
    (sym (list_any-append (is_opening id) before last)
    ∙ ap (list_any (is_opening id)) (sym e) ∙ opens)

pub not_unread : (id : ℕ) (bytes : List ℕ) (given : List InEvent) → IsUnread bytes given
    → list_any (is_opening id) given ≡ true → ⊥
not_unread id bytes given unread opens =
    never (list_any (is_opening id) given) opens
    (last_silent id given (unread_last bytes given unread)).1

-- ---- the data and the end of a stream

pub framed_data : (bytes : List ℕ) (given : List InEvent) (entries : List Entry) (id : ℕ)
    → Framed bytes given entries → list_any (is_opening id) given ≡ true
    → pieces id given ≡ data_of id entries
framed_data bytes given entries id (inl (unread, none)) opens =
    absurd (not_unread id bytes given unread opens)
framed_data bytes given entries id (inr so) opens =
    let is : IsLast so.last = close_last so.close so.now so.behind so.rest so.last so.closes in
    let told =
    data_told so.text (entries ++ so.behind) so.behind so.rest so.before so.now id so.joined
    so.passes (opens_before id given so.before so.last so.all is opens) in
    let same : entries ≡ told.0 = append_cancel_right entries told.0 so.behind told.1 in
    ap (pieces id) so.all ∙ pieces_append id so.before so.last
    ∙ ap (λ (b : List ℕ). pieces id so.before ++ b) (last_silent id so.last is).0
    ∙ append-nil (pieces id so.before) ∙ told.2 ∙ ap (data_of id) (sym same)

end_unended : (a : Ending) → first_end a Unended ≡ a
end_unended Unended = refl
end_unended Finished = refl
end_unended Aborted = refl

-- events that tell no end of a stream are no errors of it either
told_error : (id : ℕ) (event : InEvent) → end_told id event ≡ Unended
    → is_stream_error id event ≡ false
told_error id (events.StreamError other error) quiet = by (nat_eq id other) quiet
  where
    by : (b : Bool) → (if b then Aborted else Unended) ≡ Unended → b ≡ false
    by true quiet = absurd cc
    by false quiet = refl
told_error id _ quiet = refl

pub quiet_no_error : (id : ℕ) (given : List InEvent) → IsQuiet id given
    → list_any (is_stream_error id) given ≡ false
quiet_no_error id [] quiet = refl
quiet_no_error id (event ∷ given) quiet =
    let parts = first_unended (end_told id event) (ending_told id given) quiet in
    ap (λ (b : Bool). b || list_any (is_stream_error id) given) (told_error id event parts.0)
    ∙ quiet_no_error id given parts.1

-- the events of one stream's end, from others around them that tell none
last_ends : (id : ℕ) (entries front : List Entry) (given before last : List InEvent)
    → entries ≡ front → given ≡ before ++ last → IsQuiet id last → EndsAs id front before
    → EndsAs id entries given
last_ends id entries front given before last same all quiet ends =
    let told : ending_told id given ≡ ending_told id before =
    ap (ending_told id) all ∙ told_append id before last
    ∙ ap (first_end (ending_told id before)) quiet ∙ end_unended (ending_told id before) in
    subst (λ (es : List Entry). EndsAs id es given) (sym same) (by told ends)
  where
    by : ending_told id given ≡ ending_told id before → EndsAs id front before
        → EndsAs id front given
    by told (inl is) = inl (told ∙ is)
    by told (inr so) =
        inr (record {
          trailers = so.trailers;
          ended = so.ended;
          aborted = told ∙ so.aborted;
          error =
              ap (list_any (is_stream_error id)) all
              ∙ list_any-append (is_stream_error id) before last
              ∙ ap (λ (b : Bool). b || list_any (is_stream_error id) last) so.error;
        })

pub framed_end : (bytes : List ℕ) (given : List InEvent) (entries : List Entry) (id : ℕ)
    → Framed bytes given entries → list_any (is_opening id) given ≡ true → EndsAs id entries given
framed_end bytes given entries id (inl (unread, none)) opens =
    absurd (not_unread id bytes given unread opens)
framed_end bytes given entries id (inr so) opens =
    let is : IsLast so.last = close_last so.close so.now so.behind so.rest so.last so.closes in
    let told =
    end_told_of (entries ++ so.behind) so.behind so.before so.now id so.passes
    (opens_before id given so.before so.last so.all is opens) in
    last_ends id entries told.0 given so.before so.last
    (append_cancel_right entries told.0 so.behind told.1) so.all (last_quiet id so.last is) told.2
