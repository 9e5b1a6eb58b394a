-- What one step more makes of a half.
use Rattle.std.proofs.Common.{
  ◌≡◌,
  ◌≢◌,
  ◌∙◌,
  ℕ,
  Bool,
  true,
  false,
  List,
  [],
  ◌∷◌,
  ◌++◌,
  Option,
  None,
  Some,
  ap,
  eq-eqb,
  nat_eq,
  refl,
  subst,
  sym,
}
use Rattle.std.specs.Prelude.{All, MatchBool}
use Rattle.std.specs.List.{concat}
use Rattle.std.proofs.lemmas.List.{append-nil}
use Rattle.std.proofs.lemmas.List.Elements.{All-append, All-cons, All-nil}
use Rattle.account.specs.declared.call.Shut.{Shut}
use Rattle.callbox.specs.declared.piece.InPiece.{InPiece}
use Rattle.callbox.specs.declared.piece.InPiece.TheVariants as in_piece
use Rattle.callbox.specs.InSides.{bytes_of, pieces_of}
use Rattle.callbox.proofs.InLemmas.{bytes_of-bytes}
use Rattle.connbook.specs.declared.answers.Receipt.TheVariants.{Feed}
use Rattle.session.specs.declared.event.InEvent.TheVariants as events
use Rattle.readerloop.specs.Halves.{HalfView, IsHalf, grown}
use Rattle.readerloop.specs.Steps.{
  Closing,
  Step,
  Told,
  Received,
  closing_at,
  closing_by,
  data_at,
  earlier,
  fed_by,
  unless,
}

-- ---- lists of pieces

pub pieces_of-append : (items more : List InPiece)
    → pieces_of (items ++ more) ≡ pieces_of items ++ pieces_of more
pieces_of-append [] more = refl
pieces_of-append (in_piece.Bytes bytes ∷ items) more =
    ap (λ (pieces : List (List ℕ)). bytes ∷ pieces) (pieces_of-append items more)
pieces_of-append (in_piece.Shut closed ∷ items) more = pieces_of-append items more

-- the shut of a half is no piece of it
pub pieces_of-shut : (placed : Bool) (kind : Shut) (items before : List InPiece)
    → MatchBool placed (items ≡ before ++ in_piece.Shut kind ∷ []) (items ≡ before)
    → pieces_of items ≡ pieces_of before
pieces_of-shut true kind items before is =
    ap pieces_of is
    ∙ (pieces_of-append before (in_piece.Shut kind ∷ []) ∙ append-nil (pieces_of before))
pieces_of-shut false kind items before is = ap pieces_of is

bytes_of-grown : (piece : List ℕ) (closed : Option Closing) (items : List InPiece)
    → bytes_of (grown piece closed items) ≡ bytes_of items ++ unless (earlier closed None) piece
bytes_of-grown [] None items = sym (append-nil (bytes_of items))
bytes_of-grown [] (Some kind) items = sym (append-nil (bytes_of items))
bytes_of-grown (byte ∷ bytes) None items = bytes_of-bytes items (byte ∷ bytes)
bytes_of-grown (byte ∷ bytes) (Some kind) items = sym (append-nil (bytes_of items))

abbrev IsFull : List InPiece → Type 0
IsFull items = All (λ (piece : List ℕ). piece ≢ []) (pieces_of items)

cons-not-nil : (byte : ℕ) (bytes : List ℕ) → (byte ∷ bytes) ≢ []
cons-not-nil byte bytes e = cc

full-grown : (piece : List ℕ) (closed : Option Closing) (items : List InPiece) → IsFull items
    → IsFull (grown piece closed items)
full-grown [] closed items full = full
full-grown (byte ∷ bytes) None items full =
    subst (λ (pieces : List (List ℕ)). All (λ (piece : List ℕ). piece ≢ []) pieces)
    (sym (pieces_of-append items (in_piece.Bytes (byte ∷ bytes) ∷ [])))
    (All-append (λ (piece : List ℕ). piece ≢ []) (pieces_of items) ((byte ∷ bytes) ∷ []) full
    (All-cons (λ (piece : List ℕ). piece ≢ []) (byte ∷ bytes) [] (cons-not-nil byte bytes)
    (All-nil (λ (piece : List ℕ). piece ≢ []))))
full-grown (byte ∷ bytes) (Some kind) items full = full

-- ---- lists of steps

pub earlier-none : (closed : Option Closing) → earlier closed None ≡ closed
earlier-none None = refl
earlier-none (Some kind) = refl

pub unless-nil : (closed : Option Closing) → unless closed [] ≡ []
unless-nil None = refl
unless-nil (Some kind) = refl

-- a half that is closed is fed nothing
pub fed-closed : (fed data_now : List ℕ) (kind : Closing) (closed : Option Closing)
    → closed ≡ Some kind → fed ++ unless closed data_now ≡ fed
fed-closed fed data_now kind closed is = rw is (append-nil fed)

pub same_number : (id : ℕ) → nat_eq id id ≡ true
same_number id = eq-eqb id id refl

-- a half of which nothing is changed that `IsHalf` speaks of
pub same-half : (id : ℕ) (steps : List Step) (old new : HalfView) → new ≡ old → IsHalf id steps old
    → IsHalf id steps new
same-half id steps old new is h = subst (λ (now : HalfView). IsHalf id steps now) (sym is) h

-- a step that is nothing to it
pub still-half : (id : ℕ) (steps : List Step) (step : Step) (half : HalfView)
    → closing_at id step ≡ None → data_at id step ≡ [] → IsHalf id steps half
    → IsHalf id (step ∷ steps) half
still-half id steps step half none empty h = record {
  there = h.there;
  fed =
      rw (
        empty,
        unless-nil (earlier (closing_by id steps) (closing_at id step)),
        append-nil (fed_by id steps),
      ) h.fed;
  closing = h.closing ∙ sym (rw (none, earlier-none (closing_by id steps)) refl);
  full = h.full;
}

-- a step that closes it, where it was open
pub close-half : (id : ℕ) (steps : List Step) (step : Step) (kind : Closing) (old new : HalfView)
    → closing_at id step ≡ Some kind → old.closing ≡ None
    → new.there ≡ true → new.closing ≡ Some kind → pieces_of new.items ≡ pieces_of old.items
    → IsHalf id steps old → IsHalf id (step ∷ steps) new
close-half id steps step kind old new by_step none there closed pieces h =
    let before : closing_by id steps ≡ None = sym h.closing ∙ none in
    let now : closing_by id (step ∷ steps) ≡ Some kind = rw (before, by_step) refl in
    record {
      there = there;
      fed =
          ap (λ (found : List (List ℕ)). concat found) pieces
          ∙ (h.fed
          ∙ sym (fed-closed (fed_by id steps) (data_at id step) kind
          (closing_by id (step ∷ steps)) now));
      closing = closed ∙ sym now;
      full =
          subst (λ (found : List (List ℕ)). All (λ (piece : List ℕ). piece ≢ []) found)
          (sym pieces) h.full;
    }

-- and where it was closed before
pub closed-before : (id : ℕ) (steps : List Step) (step : Step) (kind : Closing) (half : HalfView)
    → half.closing ≡ Some kind → IsHalf id steps half → IsHalf id (step ∷ steps) half
closed-before id steps step kind half closed h =
    let before : closing_by id steps ≡ Some kind = sym h.closing ∙ closed in
    let now : closing_by id (step ∷ steps) ≡ Some kind = rw before refl in
    record {
      there = h.there;
      fed =
          h.fed
          ∙ sym (fed-closed (fed_by id steps) (data_at id step) kind
          (closing_by id (step ∷ steps)) now);
      closing = closed ∙ sym now;
      full = h.full;
    }

-- a piece is fed
pub fed-half : (id counted : ℕ) (steps : List Step) (piece : List ℕ) (old new : HalfView)
    → new.there ≡ old.there → new.closing ≡ old.closing
    → (old.there ≡ true → new.items ≡ grown piece old.closing old.items)
    → IsHalf id steps old
    → IsHalf id (Told (events.Data id piece counted) (Received Feed) ∷ steps) new
fed-half id counted steps piece old new there closed items h =
    let same = same_number id in
    let more : new.items ≡ grown piece (closing_by id steps) old.items =
    items h.there ∙ ap (λ (found : Option Closing). grown piece found old.items) h.closing in
    let step = Told (events.Data id piece counted) (Received Feed) in
    let fed : bytes_of new.items ≡ fed_by id steps ++ unless
    (earlier (closing_by id steps) None) piece =
    ap (λ (now : List InPiece). bytes_of now) more
    ∙ (bytes_of-grown piece (closing_by id steps) old.items
    ∙ ap (λ (bytes : List ℕ). bytes ++ unless (earlier (closing_by id steps) None) piece) h.fed) in
    let by_data : data_at id step ≡ piece = rw same refl in
    let by_shut : closing_at id step ≡ None = rw same refl in
    record {
      there = there ∙ h.there;
      fed = fed ∙ sym (rw (by_shut, by_data) refl);
      closing = closed ∙ (h.closing ∙ sym (rw (by_shut, earlier-none (closing_by id steps)) refl));
      full =
          subst (λ (now : List InPiece). IsFull now) (sym more)
          (full-grown piece (closing_by id steps) old.items h.full);
    }
