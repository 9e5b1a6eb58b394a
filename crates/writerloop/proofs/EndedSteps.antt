-- How the writing side cuts the calls that are stuck.
use Rattle.std.proofs.Common.{
  ◌≡◌,
  ◌∙◌,
  ◌∷◌,
  ◌++◌,
  ◌+◌,
  ◌<◌,
  ◌≤◌,
  ◌⊎◌,
  ℕ,
  zero,
  suc,
  length,
  List,
  [],
  Option,
  Some,
  None,
  ap,
  arith,
  inl,
  inr,
  refl,
  subst,
  sym,
  true,
  false,
  get_or,
  true≢false,
}
use Rattle.std.specs.Prelude.{All, Contains, slice_get}
use Rattle.std.proofs.Math.Nat.{eq-or-lt_of_le}
use Rattle.std.proofs.lemmas.List.{length-map}
use Rattle.std.proofs.lemmas.List.Elements.{All-push}
use Rattle.std.proofs.lemmas.List.Sums.{fold_push}
use Rattle.std.proofs.lemmas.Option.{slice_get-get_or}
use Rattle.device.specs.declared.conn.ConnWrite.{Ghosts as ConnGhosts}
use Rattle.creditbook.specs.Books.{Books, after_cut}
use Rattle.callparts.specs.declared.register.Naming.{Ghosts}
use Rattle.outwriter.specs.Cores.{open_stream}
use Rattle.outwriter.specs.RunState.{is_held}
use Rattle.sendwindows.specs.Windows.{room}
use Rattle.writerloop.specs.declared.writing.Writing.{Writing}
use Rattle.writerloop.specs.Ended.{CutsStuck, IsStuckCall, after_cuts}
use Rattle.writerloop.specs.Sent.{ids_of}
use Rattle.writerloop.specs.Written.{stream_at}

contains-at : (xs : List ℕ) (k id : ℕ) → slice_get xs k ≡ Some id → Contains xs id
contains-at [] k id is = cc
contains-at (x ∷ xs) zero id is = let same : x ≡ id = cc in (0, omega arith, same)
contains-at (x ∷ xs) (suc k) id is =
    let rest = contains-at xs k id is in (suc rest.0, omega (arith, rest.1), rest.2)

contains-last : (xs : List ℕ) (x : ℕ) → Contains (xs ++ x ∷ []) x
contains-last [] x = (0, omega arith, refl)
contains-last (y ∷ ys) x =
    let rest = contains-last ys x in (suc rest.0, omega (arith, rest.1), rest.2)

contains-more : (xs : List ℕ) (y x : ℕ) → Contains xs x → Contains (xs ++ y ∷ []) x
contains-more [] y x has = absurd (omega (arith, has.1))
contains-more (z ∷ zs) y x (zero, within, is) = (0, omega arith, is)
contains-more (z ∷ zs) y x (suc k, within, is) =
    let rest = contains-more zs y x (k, omega (arith, within), is) in
    (suc rest.0, omega (arith, rest.1), rest.2)

-- the calls at the first places that are stuck are cut, and no others
pub record CutsBelow {J W : Type 0} {naming : Ghosts J} {conn : ConnGhosts W} (places : ℕ)
    (writer : Writing J W naming conn) (old new : Books) : Type 0 where
  pub ids : List ℕ
  pub stuck : All (IsStuckCall writer) ids
  pub each : (place id : ℕ) → place < places → stream_at place writer ≡ Some id
      → IsStuckCall writer id → Contains ids id
  pub cut : new ≡ after_cuts old ids

module _ {J W : Type 0} {naming : Ghosts J} {conn : ConnGhosts W}
    (writer : Writing J W naming conn) where
  pub cuts-none : (old : Books) → CutsBelow 0 writer old old
  cuts-none old = record {
    ids = [];
    stuck = λ k d within. absurd (omega (arith, within));
    each = λ place id within at stuck. absurd (omega (arith, within));
    cut = refl;
  }

  -- the call at the next place is stuck, and is cut
  pub cuts-more : (places id : ℕ) (old mid new : Books) → CutsBelow places writer old mid
      → stream_at places writer ≡ Some id → writer.input_ended ≡ true
      → is_held (open_stream writer.frames.core id)
      (room writer.frames.core.sending.outbound.states.windows id) ≡ true
      → new ≡ after_cut mid id → CutsBelow (places + 1) writer old new
  cuts-more places id old mid new cuts at ended held is = record {
    ids = cuts.ids ++ id ∷ [];
    stuck = All-push (IsStuckCall writer) cuts.ids id cuts.stuck (record {
      ended = ended;
      sent = contains-at _ _ _ at;
      held = held;
    });
    each = each;
    cut = is ∙ ap (λ b. after_cut b id) cuts.cut ∙ sym (fold_push after_cut old cuts.ids id);
  }
    where
      each : (place other : ℕ) → place < places + 1 → stream_at place writer ≡ Some other
          → IsStuckCall writer other → Contains (cuts.ids ++ id ∷ []) other
      each place other within there stuck = elim split [
        | inl same ↦ here same
        | inr below ↦ contains-more cuts.ids id other (cuts.each place other below there stuck)
      ]
        where
          split : (place ≡ places) ⊎ (place < places)
          split = eq-or-lt_of_le (omega (arith, within))

          here : place ≡ places → Contains (cuts.ids ++ id ∷ []) other
          here same =
              let there_too : stream_at places writer ≡ Some other =
              subst (λ n. stream_at n writer ≡ Some other) same there in
              let id_is : id ≡ other = cc in
              subst (λ n. Contains (cuts.ids ++ id ∷ []) n) id_is (contains-last cuts.ids id)

  -- the call at the next place isn't stuck
  pub cuts-same : (places : ℕ) (old new : Books) → CutsBelow places writer old new
      → (writer.input_ended ≡ true → (id : ℕ) → stream_at places writer ≡ Some id
      → is_held (open_stream writer.frames.core id)
      (room writer.frames.core.sending.outbound.states.windows id) ≡ false)
      → CutsBelow (places + 1) writer old new
  cuts-same places old new cuts free = record {
    ids = cuts.ids;
    stuck = cuts.stuck;
    each = each;
    cut = cuts.cut;
  }
    where
      each : (place other : ℕ) → place < places + 1 → stream_at place writer ≡ Some other
          → IsStuckCall writer other → Contains cuts.ids other
      each place other within there stuck = elim split [
        | inl same ↦ absurd (here same)
        | inr below ↦ cuts.each place other below there stuck
      ]
        where
          split : (place ≡ places) ⊎ (place < places)
          split = eq-or-lt_of_le (omega (arith, within))

          here : place ≡ places → ⊥
          here same =
              let there_too = subst (λ n. stream_at n writer ≡ Some other) same there in
              true≢false (sym stuck.held ∙ free stuck.ended other there_too)

  -- all places were looked at
  pub cuts-all : (places : ℕ) (old new : Books) → length writer.sends.calls.items ≤ places
      → CutsBelow places writer old new → CutsStuck writer old new
  cuts-all places old new all cuts = record {
    ids = cuts.ids;
    stuck = cuts.stuck;
    each = λ id stuck.
        let sent = stuck.sent in
        let within : sent.0 < places =
        omega (arith, sent.1, length-map writer.sends.calls.items (λ call. call.id), all) in
        cuts.each sent.0 id within
        (slice_get-get_or (ids_of writer.sends.calls.items) sent.0 id sent.1 ∙ ap Some sent.2)
        stuck;
    cut = cuts.cut;
  }
