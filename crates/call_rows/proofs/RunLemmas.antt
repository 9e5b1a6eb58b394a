-- A call in four threads, from what each of them says.
use Rattle.std.proofs.Common.{
  ◌≡◌,
  ℕ,
  Bool,
  true,
  false,
  List,
  [],
  ◌∷◌,
  ◌++◌,
  take,
  drop,
  Option,
  Some,
  None,
  refl,
  sym,
  ap,
  subst,
  ◌∙◌,
  append_assoc,
  MatchBool,
}
use Rattle.std.specs.Prelude.{map}
use Rattle.std.specs.List.{concat}
use Rattle.std.proofs.lemmas.List.{append-nil, map-append, take-append-drop}
use mathlib.Core.List.{IsPrefix}
use Rattle.lists.specs.declared.field.Field.{Field}
use Rattle.lane.proofs.Prefixes.{IsPrefix-take}
use Rattle.lpm.specs.Messages.{frame, frames}
use Rattle.account.specs.Accounts.{MayTell}
use Rattle.account.specs.declared.call.OutItem.{OutItem}
use Rattle.account.specs.declared.call.OutItem.TheVariants.{Head, Message, Trailers}
use Rattle.account.specs.declared.call.Shut.{Shut}
use Rattle.account.specs.declared.call.Shut.TheVariants as shut
use Rattle.account.specs.declared.call.RequestEnd.{RequestEnd}
use Rattle.account.specs.declared.call.RequestEnd.TheVariants as told
use Rattle.callbox.specs.declared.piece.InPiece.{InPiece}
use Rattle.callbox.specs.declared.piece.InPiece.TheVariants as piece
use Rattle.callbox.specs.declared.in_side.InAccount.{InAccount}
use Rattle.callbox.specs.InSides.{pieces_of}
use Rattle.callbox.specs.InAccounts.{CountsIn}
use Rattle.callbox.proofs.OutLemmas.{Placed}
use Rattle.call_rows.specs.Runs.{IsFed, RunsIn, answer_items, message_items}

whole_end : (pieces : List (List ℕ)) (kind : Shut) (fed : List (List ℕ)) (closed : Option Shut)
    (messages : List (List ℕ))
    → IsFed pieces kind fed closed → MayTell (Some told.End) (concat fed) closed messages
    → (kind ≡ shut.End) × (concat pieces ≡ frames messages)
whole_end pieces kind fed None messages asked may = let e = may.0 in absurd cc
whole_end pieces kind fed (Some closed) messages asked may =
    let ended = may.0 in
    let as_kind = asked.1 in
    (cc, ap concat (sym asked.0) ∙ may.1)

pub runs_in : (pieces : List (List ℕ)) (kind : Shut) (fed : List (List ℕ)) (closed : Option Shut)
    (messages : List (List ℕ)) (said : Option RequestEnd) (r : InAccount)
    → IsFed pieces kind fed closed → CountsIn fed closed messages said r
    → RunsIn pieces kind messages r
runs_in pieces kind fed closed messages said r asked counts =
    let same =
    subst (λ (s : Option RequestEnd). CountsIn fed closed messages s r) (sym counts.told) counts in
    record {
      fed = fed;
      as_asked = subst (IsFed pieces kind fed) (sym counts.shut) asked;
      counts = subst (λ (c : Option Shut). CountsIn fed c messages r.told r) (sym counts.shut) same;
      whole = λ ended.
          whole_end pieces kind fed closed messages asked (subst
          (λ (t : Option RequestEnd). MayTell t (concat fed) closed messages)
          (sym counts.told ∙ ended)
          counts.lawful.told);
    }

-- ---- an answer, as far as it was given

pub pieces_of-map : (pieces : List (List ℕ)) → pieces_of (map piece.Bytes pieces) ≡ pieces
pieces_of-map [] = refl
pieces_of-map (bytes ∷ pieces) = ap (λ (rest : List (List ℕ)). bytes ∷ rest) (pieces_of-map pieces)

pieces_of-shut : (items : List InPiece) (kind : Shut)
    → pieces_of (items ++ piece.Shut kind ∷ []) ≡ pieces_of items
pieces_of-shut [] kind = refl
pieces_of-shut (piece.Bytes bytes ∷ items) kind =
    ap (λ (rest : List (List ℕ)). bytes ∷ rest) (pieces_of-shut items kind)
pieces_of-shut (piece.Shut closed ∷ items) kind = pieces_of-shut items kind

pieces_shut : (placed : Bool) (put new : List InPiece) (kind : Shut)
    → MatchBool placed (new ≡ put ++ piece.Shut kind ∷ []) (new ≡ put)
    → pieces_of new ≡ pieces_of put
pieces_shut true put new kind is = ap pieces_of is ∙ pieces_of-shut put kind
pieces_shut false put new kind is = ap pieces_of is

pub fed_front : (put : List InPiece) (pieces : List (List ℕ)) (count : ℕ)
    → put ≡ map piece.Bytes (take count pieces) → IsPrefix (pieces_of put) pieces
fed_front put pieces count fed =
    IsPrefix-take (pieces_of put) pieces count
    (ap pieces_of fed ∙ pieces_of-map (take count pieces))

pub fed_all : (placed : Bool) (put new : List InPiece) (kind : Shut) (pieces : List (List ℕ))
    → MatchBool placed (new ≡ put ++ piece.Shut kind ∷ []) (new ≡ put)
    → put ≡ map piece.Bytes pieces → pieces_of new ≡ pieces
fed_all placed put new kind pieces shut fed =
    pieces_shut placed put new kind shut ∙ ap pieces_of fed ∙ pieces_of-map pieces

pub front_none : (put : List OutItem) (head trailers : List Field) (messages : List (List ℕ))
    → put ≡ [] → IsPrefix put (answer_items head messages trailers)
front_none put head trailers messages none = (
  answer_items head messages trailers,
  ap (λ (items : List OutItem). items ++ answer_items head messages trailers) none,
)

pub front_some : (put old : List OutItem) (head trailers : List Field)
    (messages : List (List ℕ)) (count : ℕ)
    → old ≡ [] ++ Head head ∷ [] → put ≡ old ++ message_items (take count messages)
    → IsPrefix put (answer_items head messages trailers)
front_some put old head trailers messages count begun given =
    let some = message_items (take count messages) in
    let rest = message_items (drop count messages) ++ Trailers trailers ∷ [] in
    let whole : some ++ message_items (drop count messages) ≡ message_items messages =
    sym
    (map-append (λ message. Message (frame message)) (take count messages) (drop count messages))
    ∙ ap message_items (take-append-drop count messages) in (
      rest,
      ap (λ (items : List OutItem). items ++ rest)
          (given ∙ ap (λ (items : List OutItem). items ++ some) begun)
          ∙ ap (λ (items : List OutItem). Head head ∷ items)
          (sym (append_assoc some (message_items (drop count messages)) (Trailers trailers ∷ []))
          ∙ ap (λ (items : List OutItem). items ++ Trailers trailers ∷ []) whole),
    )

pub front_all : (placed : Bool) (new put old : List OutItem) (head trailers : List Field)
    (messages : List (List ℕ))
    → old ≡ [] ++ Head head ∷ [] → put ≡ old ++ message_items messages
    → Placed placed put new trailers
    → IsPrefix new (answer_items head messages trailers)
front_all true new put old head trailers messages begun given shut = (
  [],
  append-nil new ∙ shut
      ∙ ap (λ (items : List OutItem). items ++ Trailers trailers ∷ [])
      (given ∙ ap (λ (items : List OutItem). items ++ message_items messages) begun),
)
front_all false new put old head trailers messages begun given shut = (
  Trailers trailers ∷ [],
  ap (λ (items : List OutItem). items ++ Trailers trailers ∷ [])
      (shut ∙ given ∙ ap (λ (items : List OutItem). items ++ message_items messages) begun),
)
