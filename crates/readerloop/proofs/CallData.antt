-- What a call was fed since it was admitted, and the data of its stream.
use Rattle.std.proofs.Common.{
  ◌≡◌,
  ◌≢◌,
  ◌∙◌,
  ◌≤◌,
  ℕ,
  inl,
  inr,
  Bool,
  true,
  ◌||◌,
  nat_eq,
  List,
  [],
  ◌∷◌,
  ◌++◌,
  ap,
  append_assoc,
  arith,
  length,
  refl,
  sym,
}
use Rattle.std.specs.List.{list_any}
use Rattle.std.proofs.lemmas.List.{append-nil}
use mathlib.Core.List.{IsPrefix}
use Rattle.h2frame.specs.FrameList.{Entry}
use Rattle.session.specs.declared.event.InEvent.{InEvent}
use Rattle.session.specs.declared.event.InEvent.TheVariants as events
use Rattle.session.specs.Framings.{Framed}
use Rattle.session.specs.StreamData.{
  Ending,
  Unended,
  Finished,
  data_of,
  ending_of,
  end_told,
  ending_told,
  first_end,
  is_opening,
  pieces,
}
use Rattle.session.specs.Trailers.{EndsAs, is_stream_error}
use Rattle.std.proofs.lemmas.List.Folds.{list_any-append}
use Rattle.session.proofs.StreamPieces.{pieces_append}
use Rattle.session.proofs.StreamEnds.{told_append}
use Rattle.session.proofs.StreamFrames.{framed_data, framed_end, quiet_no_error}
use Rattle.session.proofs.StreamOrder.{framed_before, framed_behind, opening_told}
use Rattle.readerloop.specs.Steps.{Step, admitted, events_of, fed_by, since}
use Rattle.readerloop.proofs.HalfLemmas.{same_number}
use Rattle.readerloop.proofs.EndLemmas.{
  IsWhole,
  end-finishes,
  ended-whole,
  fed-front,
  since-opening,
}
use Rattle.readerloop.specs.Streams.{HasStreamData}

end-ends : (id : ℕ) → end_told id (events.End id) ≢ Unended
end-ends id = λ (e : end_told id (events.End id) ≡ Unended).
    let wrong : Finished ≡ Unended = sym (end-finishes id) ∙ e in
    cc

-- data with nothing behind them
nothing-behind : (id : ℕ) (given before after : List InEvent) (event : InEvent)
    → given ≡ before ++ event ∷ after → pieces id (event ∷ []) ≡ [] → pieces id after ≡ []
    → pieces id given ≡ pieces id before
nothing-behind id given before after event parts here none =
    ap (pieces id) parts ∙ pieces_append id before (event ∷ after)
    ∙ ap (λ (b : List ℕ). pieces id before ++ b)
    (pieces_append id (event ∷ []) after ∙ ap (λ (b : List ℕ). b ++ pieces id after) here ∙ none)
    ∙ append-nil (pieces id before)

-- Of a stream that begins with this event, what is told behind it is all data, and the end.
abbrev pub IsAllBehind : ℕ → List InEvent → List Entry → List InEvent → Type 0
IsAllBehind id given entries behind =
    (pieces id behind ≡ data_of id entries) × EndsAs id entries behind

-- an error of the stream that is told, and not before, is told behind
error-behind : (id : ℕ) (front rest : List InEvent) → ending_told id front ≡ Unended
    → list_any (is_stream_error id) (front ++ rest) ≡ true
    → list_any (is_stream_error id) rest ≡ true
error-behind id front rest quiet some =
    ap (λ (b : Bool). b || list_any (is_stream_error id) rest) (sym (quiet_no_error id front quiet))
    ∙ sym (list_any-append (is_stream_error id) front rest) ∙ some

ends-behind : (id : ℕ) (given before behind : List InEvent) (event : InEvent) (entries : List Entry)
    → given ≡ before ++ event ∷ behind → ending_told id before ≡ Unended
    → end_told id event ≡ Unended
    → ending_told id given ≡ ending_told id behind → EndsAs id entries given
    → EndsAs id entries behind
ends-behind id given before behind event entries parts none quiet same (inl is) =
    inl (sym same ∙ is)
ends-behind id given before behind event entries parts none quiet same (inr so) =
    inr (record {
      trailers = so.trailers;
      ended = so.ended;
      aborted = sym same ∙ so.aborted;
      error = error-behind id (event ∷ []) behind (ap (λ (e : Ending). first_end e Unended) quiet)
          (error-behind id before (event ∷ behind) none
          (ap (list_any (is_stream_error id)) (sym parts) ∙ so.error));
    })

pub all-behind : (came : List ℕ) (given before behind : List InEvent) (event : InEvent)
    (entries : List Entry) (id : ℕ)
    → Framed came given entries → given ≡ before ++ event ∷ behind → is_opening id event ≡ true
    → pieces id (event ∷ []) ≡ [] → end_told id event ≡ Unended
    → IsAllBehind id given entries behind
all-behind came given before behind event entries id framed parts opens here quiet =
    let told : list_any (is_opening id) given ≡ true =
    opening_told id given before event behind parts opens in
    let nothing = framed_before came given before event behind entries id framed parts opens in
    let pieces-are : pieces id given ≡ pieces id behind =
    ap (pieces id) parts ∙ pieces_append id before (event ∷ behind)
    ∙ ap (λ (b : List ℕ). b ++ pieces id (event ∷ behind)) nothing.0
    ∙ pieces_append id (event ∷ []) behind ∙ ap (λ (b : List ℕ). b ++ pieces id behind) here in
    let ending-is : ending_told id given ≡ ending_told id behind =
    ap (ending_told id) parts ∙ told_append id before (event ∷ behind)
    ∙ ap (λ (e : Ending). first_end e (ending_told id (event ∷ behind))) nothing.1
    ∙ ap (λ (e : Ending). first_end e (ending_told id behind)) quiet in (
      sym pieces-are ∙ framed_data came given entries id framed told,
      ends-behind id given before behind event entries parts nothing.1 quiet ending-is
          (framed_end came given entries id framed told),
    )

front-of-all : (fed told rest all : List ℕ) → IsPrefix fed told → told ++ rest ≡ all
    → IsPrefix fed all
front-of-all fed told rest all (more, e) f =
    (more ++ rest, sym (append_assoc fed more rest) ∙ (ap (λ (l : List ℕ). l ++ rest) e ∙ f))

ended-as : (id : ℕ) (entries : List Entry) (given : List InEvent) → EndsAs id entries given
    → ending_told id given ≡ Finished → ending_of id entries ≡ Finished
ended-as id entries given (inl is) ended = sym is ∙ ended
ended-as id entries given (inr so) ended = so.ended

-- a half that ended was fed all
whole-of-all : (came : List ℕ) (given before later rest : List InEvent) (event : InEvent)
    (entries : List Entry) (id : ℕ) (fed : List ℕ)
    → Framed came given entries → given ≡ before ++ event ∷ (later ++ rest)
    → is_opening id event ≡ true → IsAllBehind id given entries (later ++ rest)
    → IsWhole id fed later → (fed ≡ data_of id entries) × (ending_of id entries ≡ Finished)
whole-of-all came given before later rest event entries id fed framed parts opens all
    (front, after, is, fed-is, ends) =
    let behind : later ++ rest ≡ front ++ events.End id ∷ (after ++ rest) =
    ap (λ (l : List InEvent). l ++ rest) is ∙ append_assoc front (events.End id ∷ after) rest in
    let split : given ≡ (before ++ event ∷ front) ++ events.End id ∷ (after ++ rest) =
    parts ∙ ap (λ (l : List InEvent). before ++ event ∷ l) behind
    ∙ sym (append_assoc before (event ∷ front) (events.End id ∷ (after ++ rest))) in
    let none : pieces id (after ++ rest) ≡ [] =
    framed_behind came given (before ++ event ∷ front) (events.End id) (after ++ rest) entries id
    framed (opening_told id given before event (later ++ rest) parts opens) split (end-ends id) in (
      fed-is
          ∙ sym (nothing-behind id (later ++ rest) front (after ++ rest)
          (events.End id) behind refl none)
          ∙ all.0,
      ended-as id entries (later ++ rest) all.1
          (told_append id later rest ∙ ap (λ (e : Ending). first_end e (ending_told id rest)) ends),
    )

pub call-data : (came : List ℕ) (given : List InEvent) (entries : List Entry)
    (told : List Step) (id : ℕ)
    → Framed came given entries → IsPrefix (events_of told) given
    → list_any (nat_eq id) (admitted told) ≡ true → HasStreamData id (since id told) entries
call-data came given entries told id framed (rest, begins) there =
    let at = since-opening id told there in
    let later : List InEvent = events_of (since id told) in
    let event : InEvent = events.Open id at.1 in
    let parts : given ≡ at.0 ++ event ∷ (later ++ rest) =
    sym begins ∙ ap (λ (l : List InEvent). l ++ rest) at.2
    ∙ append_assoc at.0 (event ∷ later) rest in
    let opens : is_opening id event ≡ true = same_number id in
    let all =
    all-behind came given at.0 (later ++ rest) event entries id framed parts opens refl refl in
    record {
      front =
          front-of-all (fed_by id (since id told)) (pieces id later) (pieces id rest)
          (data_of id entries) (fed-front id (since id told))
          (sym (pieces_append id later rest) ∙ all.0);
      whole = λ closed.
          whole-of-all came given at.0 later rest event entries id (fed_by id (since id told))
          framed parts opens all (ended-whole id (since id told) closed);
    }

-- where all events were heard, no more data than the frames' were told of it
pub since-data : (came : List ℕ) (given : List InEvent) (entries : List Entry)
    (told : List Step) (id : ℕ)
    → Framed came given entries → events_of told ≡ given
    → list_any (nat_eq id) (admitted told) ≡ true
    → length (pieces id (events_of (since id told))) ≤ length (data_of id entries)
since-data came given entries told id framed all there =
    let at = since-opening id told there in
    let behind =
    all-behind came given at.0 (events_of (since id told)) (events.Open id at.1) entries id framed
    (sym all ∙ at.2) (same_number id) refl refl in
    omega (arith, ap length behind.0)
