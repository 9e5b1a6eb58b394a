use Rattle.std.proofs.Common.{
  ◌≡◌,
  map,
  take,
  length,
  get_or,
  ℕ,
  ◌+◌,
  ◌<◌,
  List,
  [],
  ◌∷◌,
  ◌++◌,
  Bor,
  sym,
  ap,
  ◌∙◌,
}
use Rattle.std.proofs.lemmas.List.{take-map, take_more, map-append}
use Rattle.handlers.proofs.uses.whole_call.run.Goals as goal

taken_more : {X Y : Type 0} (f : X → Y) (xs : List X) (i : ℕ) (d : X) → i < length xs
    → take (i + 1) (map f xs) ≡ take i (map f xs) ++ f (get_or xs i d) ∷ []
taken_more {X} {Y} f xs i d below =
    take-map f (i + 1) xs ∙ ap (λ (l : List X). map f l) (take_more xs i d below)
    ∙ map-append f (take i xs) (get_or xs i d ∷ [])
    ∙ ap (λ (l : List Y). l ++ f (get_or xs i d) ∷ []) (sym (take-map f i xs))

pub loop-message-preserved : goal.loop-message-preserved
loop-message-preserved g c =
    let item =
    taken_more (λ (message : Bor (List ℕ)). message.now) c.args.messages.now
    c.loop-message.message-index (record { ref_ptr = (0, 0); now = [] }) c.loop-message-test.true in
    let step = c.in_ok-step.ensures in
    rw (item, c.in_ok-join.ensures) (
      step.0 _ c.loop-message.given c.loop-message.invariant.0,
      step.1.0 _ c.loop-message.given c.loop-message.invariant.0,
    )
