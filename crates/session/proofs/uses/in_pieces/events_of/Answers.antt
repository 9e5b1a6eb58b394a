use Rattle.std.proofs.Common.{
  ◌≡◌,
  flat_map,
  arith,
  take,
  length,
  get_or,
  ℕ,
  ◌+◌,
  ◌<◌,
  List,
  [],
  ◌∷◌,
  ◌++◌,
  Bor,
  ap,
  subst,
  ◌∙◌,
}
use Rattle.std.proofs.lemmas.List.{take_more, take_all, append-nil}
use Rattle.std.proofs.lemmas.Grind.{flat_map-append}
use Rattle.session.specs.Events.{Events}
use Rattle.session.proofs.EventLaws.{reached_events}
use Rattle.session.proofs.uses.in_pieces.events_of.Goals as goal

taken_more : {X A : Type 0} (f : X → List A) (xs : List X) (i : ℕ) (d : X) → i < length xs
    → flat_map f (take (i + 1) xs) ≡ flat_map f (take i xs) ++ f (get_or xs i d)
taken_more {X} {A} f xs i d below =
    ap (λ (l : List X). flat_map f l) (take_more xs i d below)
    ∙ flat_map-append f (take i xs) (get_or xs i d ∷ [])
    ∙ ap (λ (l : List A). flat_map f (take i xs) ++ l) (append-nil (f (get_or xs i d)))

pub loop-piece-preserved : goal.loop-piece-preserved
loop-piece-preserved c =
    let item =
    taken_more (λ (piece : Bor (List ℕ)). piece.now) c.args.pieces.now c.loop-piece.piece-index
    (record { ref_ptr = (0, 0); now = [] }) c.loop-piece-test.true in
    let gained = c.in_ok-append.ensures.items in
    rw (item, gained)
    (c.in_ok-more.ensures.events _ c.loop-piece.events.items c.loop-piece.invariant)

pub returns : goal.returns
returns c =
    subst (λ (taken : List (Bor (List ℕ))).
    Events (flat_map (λ piece. piece.now) taken) c.loop-piece.events.items)
    (take_all c.loop-piece.piece-index c.args.pieces.now (omega arith))
    (reached_events _ _ _ c.loop-piece.invariant)
