-- When nothing can be written on any open stream.
use Rattle.std.proofs.Common.{
  ◌≡◌,
  ◌⊎◌,
  inl,
  inr,
  Result,
  Ok,
  Err,
  ℕ,
  zero,
  suc,
  ◌+◌,
  ◌<◌,
  ◌≤◌,
  refl,
  sym,
  ap,
  subst,
  ◌∙◌,
  Bool,
  true,
  false,
  List,
  [],
  ◌∷◌,
  Option,
  Some,
  None,
  length,
  get_or,
  arith,
  nat_eq,
  true≢false,
}
use Rattle.std.specs.Prelude.{All, is_some, map, IfNone, IfOk, nat_lt}
use Rattle.std.proofs.lemmas.Bool.{eqb-true, eq-eqb}
use Rattle.std.proofs.lemmas.Bool.Decides.{nat_tests}
use Rattle.std.proofs.lemmas.List.{get_or-map, length-map}
use Rattle.account.specs.declared.call.OutItem.{OutItem}
use Rattle.callbox.specs.declared.sender.Sender.{Sender}
use Rattle.sendwindows.specs.Windows.{room}
use Rattle.outwriter.specs.declared.out_core.OutCore.{OutCore}
use Rattle.outwriter.specs.declared.sending.Sending.{Sending}
use Rattle.outwriter.specs.declared.stream.OpenStream.{OpenStream}
use Rattle.h2frame.specs.declared.frame.Frame.{Frame}
use Rattle.outwriter.specs.Cores.{
  calls,
  lanes,
  AreStuck,
  IsStuck,
  IsQuiet,
  HasNoFrame,
  Ended,
  WasReset,
  Stuck,
  HaveNoFrame,
}
use Rattle.outwriter.specs.Calls.{is_served}
use Rattle.outwriter.specs.Histories.{is_stream, was_reset}
use Rattle.outwriter.specs.Parts.{Mark}
use Rattle.outwriter.specs.States.{over_on, open_at}
use Rattle.outwriter.specs.CallState.{Serves}
use Rattle.outwriter.specs.RunState.{HasOver}
use Rattle.outwriter.specs.StreamLooks.{
  AllStuck,
  GetsQuiet,
  GetsStuck,
  Gives,
  Holds,
  HoldsOn,
  Picks,
  StuckAt,
  aheads,
}
use Rattle.outwriter.specs.Steps.{Step}
use Rattle.outwriter.proofs.ServeStepsCore.{gives-then, picks-then}

pub lt-from : (a b : ℕ) → true ≡ nat_lt a b → a < b
lt-from a b e = grind (arith, nat_tests)

-- the streams of the senders, in their order
module _ {L In Out Shut : Type 0} where
  abbrev pub numbers : List (ℕ × Sender L In Out Shut) → List ℕ
  numbers senders = map (λ call. call.0) senders

  -- they are the same, where the senders are ends of the same lanes
  lanes-numbers : {Name : Type 0} (name : Out → Name) (senders : List (ℕ × Sender L In Out Shut))
      → map (λ lane. lane.0) (lanes name senders) ≡ numbers senders
  lanes-numbers name [] = refl
  lanes-numbers name (call ∷ senders) =
      ap (λ (rest : List ℕ). call.0 ∷ rest) (lanes-numbers name senders)

  pub same-numbers : {Name : Type 0} (name : Out → Name) (old new : List (ℕ × Sender L In Out Shut))
      → lanes name new ≡ lanes name old → numbers new ≡ numbers old
  same-numbers {Name} name old new e =
      sym (lanes-numbers name new) ∙ ap (λ (all : List (ℕ × ℕ × Name)). map (λ lane. lane.0) all) e
      ∙ lanes-numbers name old

  -- the number at a place
  pub number-at : (senders : List (ℕ × Sender L In Out Shut)) (n : ℕ) (e : ℕ × Sender L In Out Shut)
      → n < length senders → e ≡ get_or senders n e → get_or (numbers senders) n 0 ≡ e.0
  number-at senders n e within is =
      get_or-map (λ (call : ℕ × Sender L In Out Shut). call.0) senders n e 0 within
      ∙ ap (λ (call : ℕ × Sender L In Out Shut). call.0) (sym is)

  pub number-of : (got : Out → List OutItem) (senders : List (ℕ × Sender L In Out Shut)) (n : ℕ)
      (d : ℕ × List OutItem)
      → n < length (calls got senders)
      → get_or (numbers senders) n 0 ≡ (get_or (calls got senders) n d).0
  number-of got [] n d within = absurd (omega (arith, within))
  number-of got (call ∷ senders) zero d within = refl
  number-of got (call ∷ senders) (suc n) d within =
      number-of got senders n d (omega (arith, within))

module _ {L In Out Shut : Type 0} (got ahead : Out → List OutItem) where
  -- nothing can be written on the streams of the first senders
  abbrev pub StuckBelow : ℕ → Sending L In Out Shut → Sending L In Out Shut → Type 0
  StuckBelow n old new = (numbers new.senders.items ≡ numbers old.senders.items)
      × ((run : List Step) → Holds got run old
      → Holds got run new
      × ((k : ℕ) → k < n → StuckAt ahead (get_or (numbers old.senders.items) k 0) new))

  pub stuck-below-none : (core : Sending L In Out Shut) → StuckBelow 0 core core
  stuck-below-none core = (refl, λ run h. (h, λ k within. absurd (omega (arith, within))))

  -- with one more
  pub stuck-below-more : (n : ℕ) (old mid new : Sending L In Out Shut) (id : ℕ)
      → StuckBelow n old mid → get_or (numbers mid.senders.items) n 0 ≡ id
      → HoldsOn got None mid new → numbers new.senders.items ≡ numbers mid.senders.items
      → GetsStuck got ahead id mid new → StuckBelow (n + 1) old new
  stuck-below-more n old mid new id below at keeps same gets = (
    same ∙ below.0,
    λ run h. (
      keeps run (below.1 run h).0,
      λ k within. by run h k within (nat_eq (get_or (numbers old.senders.items) k 0) id) refl,
    ),
  )
    where
      here : get_or (numbers old.senders.items) n 0 ≡ id
      here = ap (λ (l : List ℕ). get_or l n 0) (sym below.0) ∙ at

      by : (run : List Step) → Holds got run old → (k : ℕ) → k < n + 1 → (b : Bool)
          → nat_eq (get_or (numbers old.senders.items) k 0) id ≡ b
          → StuckAt ahead (get_or (numbers old.senders.items) k 0) new
      by run h k within true e =
          subst (λ (i : ℕ). StuckAt ahead i new)
          (sym (eqb-true (get_or (numbers old.senders.items) k 0) id e))
          (gets run (below.1 run h).0).0
      by run h k within false e =
          let apart : get_or (numbers old.senders.items) k 0 ≡ id → ⊥ = λ same.
          true≢false (sym (eq-eqb (get_or (numbers old.senders.items) k 0) id same) ∙ e) in
          let other : k ≡ n → ⊥ = λ same.
          apart (ap (λ j. get_or (numbers old.senders.items) j 0) same ∙ here) in
          let less : k < n = omega (arith, within, other) in
          (gets run (below.1 run h).0).1 (get_or (numbers old.senders.items) k 0) apart
          ((below.1 run h).1 k less)

  -- with all of them: each open stream has its sender
  pub all-stuck : (n : ℕ) (old new : Sending L In Out Shut) → StuckBelow n old new
      → length old.senders.items ≤ n → (run : List Step) → Holds got run old
      → AreStuck new.outbound (open_at new.outbound.states) (aheads ahead new.senders.items)
  all-stuck n old new below all run h id stream found =
      let call_of : ℕ × Sender L In Out Shut → ℕ × List OutItem = λ call. (call.0, got call.1.rx) in
      let after = below.1 run h in
      let there = after.0.1.exact id stream found in
      let long : length (numbers new.senders.items) ≡ length (numbers old.senders.items) =
      ap length below.0 in
      let within : stream.place < n =
      omega (
        arith,
        there.0,
        all,
        long,
        length-map new.senders.items call_of,
        length-map new.senders.items (λ (call : ℕ × Sender L In Out Shut). call.0),
        length-map old.senders.items (λ (call : ℕ × Sender L In Out Shut). call.0),
      ) in
      let is : get_or (numbers old.senders.items) stream.place 0 ≡ id =
      ap (λ (l : List ℕ). get_or l stream.place 0) (sym below.0)
      ∙ number-of got new.senders.items stream.place (0, []) there.0 ∙ (there.1 (0, [])).0 in
      subst (λ (i : ℕ). StuckAt ahead i new) is (after.1 stream.place within) stream found

module _ {L In Out Shut Name : Type 0} (got ahead : Out → List OutItem) (name : Out → Name) where
  -- what holds of the loop over all senders
  abbrev pub Looked : ℕ → Sending L In Out Shut → Sending L In Out Shut → Type 0
  Looked n old now =
      Picks got None old now × Gives got name old now × StuckBelow got ahead n old now

  -- after a stream that has no frame
  pub looked-more : (n : ℕ) (old mid new : Sending L In Out Shut) (id : ℕ) → Looked n old mid
      → get_or (numbers mid.senders.items) n 0 ≡ id
      → Picks got None mid new → Gives got name mid new → GetsStuck got ahead id mid new
      → Looked (n + 1) old new
  looked-more n old mid new id l at picks gives gets = (
    picks-then got old mid new None l.0 picks,
    gives-then got name old mid new l.1 gives,
    stuck-below-more got ahead n old mid new id l.2 at picks.3
        (same-numbers name mid.senders.items new.senders.items gives.1) gets,
  )

-- what is stuck behind a step that writes nothing
module _ {L In Out Shut : Type 0} (got ahead : Out → List OutItem) {E : Type 0} where
  pub stuck-after : (old mid new : Sending L In Out Shut) (r : Result (Option Frame) E)
      → HoldsOn got None old mid
      → IfOk r (λ o. IfNone o (AllStuck got ahead mid new))
      → IfOk r (λ o. IfNone o (AllStuck got ahead old new))
  stuck-after old mid new (Ok None) keeps stuck = λ run h. stuck run (keeps run h)
  stuck-after old mid new (Ok (Some frame)) keeps stuck = tt
  stuck-after old mid new (Err e) keeps stuck = tt

  pub quiet-after : (old mid new : Sending L In Out Shut) (r : Result (Option Frame) E)
      → HoldsOn got None old mid
      → IfOk r (λ o. IfNone o (AllStuck got ahead mid new))
      → IfOk r (λ o. IfNone o (GetsQuiet got ahead old new))
  quiet-after old mid new (Ok None) keeps stuck = λ run h. inr (stuck run (keeps run h))
  quiet-after old mid new (Ok (Some frame)) keeps stuck = tt
  quiet-after old mid new (Err e) keeps stuck = tt

-- ---- each call

module _ {L In Out Shut : Type 0} (got ahead : Out → List OutItem) (run : List Step)
    (core : OutCore L In Out Shut) (marks : List (ℕ × Mark))
    (s :
    Serves run core.sending.outbound (open_at core.sending.outbound.states)
    (calls got core.sending.senders.items) marks) (over : HasOver run core.sending.outbound.states)
    (stuck :
    AreStuck core.sending.outbound (open_at core.sending.outbound.states)
    (aheads ahead core.sending.senders.items)) where
  -- the call of an open stream stands at the stream's place
  place-of : (k : ℕ) (d : ℕ × List OutItem) (stream : OpenStream)
      → k < length (calls got core.sending.senders.items)
      → (open_at core.sending.outbound.states) (get_or (calls got core.sending.senders.items) k d).0
      ≡ Some stream
      → is_served (get_or (calls got core.sending.senders.items) k d).0 run ≡ true
      → stream.place ≡ k
  place-of k d stream within found served = by (nat_eq stream.place k) refl
    where
      by : (b : Bool) → nat_eq stream.place k ≡ b → stream.place ≡ k
      by true e = eqb-true stream.place k e
      by false e =
          let there = s.exact (get_or (calls got core.sending.senders.items) k d).0 stream found in
          let not : is_served
          (get_or (calls got core.sending.senders.items) stream.place d).0 run ≡ false =
          s.apart stream.place k d there.0 within
          (λ same. true≢false (sym (eq-eqb stream.place k same) ∙ e)) (there.1 d).0 in
          absurd (true≢false (sym (ap (λ n. is_served n run) (there.1 d).0 ∙ served) ∙ not))

  no-frame-at : (k : ℕ) (d : ℕ × Sender L In Out Shut) → k < length core.sending.senders.items
      → (id : ℕ) → (get_or core.sending.senders.items k d).0 ≡ id
      → is_served id run ≡ true → is_stream id ≡ true → (found : Option OpenStream)
      → (open_at core.sending.outbound.states) id ≡ found
      → HasNoFrame run core id (ahead (get_or core.sending.senders.items k d).1.rx)
  no-frame-at k d within id is served there None e = by (s.stays id served there e)
    where
      by : (is_some (over_on core.sending.outbound.states id) ≡ true) ⊎ (was_reset id run ≡ true)
          → HasNoFrame run core id (ahead (get_or core.sending.senders.items k d).1.rx)
      by (inl ended) = Ended (sym (over id).0 ∙ ended)
      by (inr reset) = WasReset reset
  no-frame-at k d within id is served there (Some stream) e =
      let call : ℕ × Sender L In Out Shut → ℕ × List OutItem = λ c. (c.0, got c.1.rx) in
      let at : get_or (calls got core.sending.senders.items) k (0, [])
      ≡ (
        (get_or core.sending.senders.items k d).0,
        got
            (get_or core.sending.senders.items k d).1.rx,
      ) =
      get_or-map call core.sending.senders.items k d (0, []) within in
      let number : (get_or (calls got core.sending.senders.items) k (0, [])).0 ≡ id =
      ap (λ (c : ℕ × List OutItem). c.0) at ∙ is in
      let place : stream.place ≡ k =
      place-of k (0, []) stream (omega (arith, within, length-map core.sending.senders.items call))
      (ap (λ n. (open_at core.sending.outbound.states) n) number ∙ e)
      (ap (λ n. is_served n run) number ∙ served) in
      let hand : get_or (aheads ahead core.sending.senders.items) stream.place [] ≡ ahead
      (get_or core.sending.senders.items k d).1.rx =
      ap (λ n. get_or (aheads ahead core.sending.senders.items) n []) place
      ∙ get_or-map (λ (c : ℕ × Sender L In Out Shut). ahead c.1.rx)
      core.sending.senders.items k d [] within in
      Stuck stream e (subst (IsStuck (room core.sending.outbound.states.windows id) stream.in_hand)
      hand (stuck id stream e))

  pub all-no-frame :
      All (λ call.
      is_served call.0 run ≡ true → is_stream call.0 ≡ true
      → HasNoFrame run core call.0 (ahead call.1.rx)) core.sending.senders.items
  all-no-frame k d within served there =
      no-frame-at k d within (get_or core.sending.senders.items k d).0 refl served there
      ((open_at core.sending.outbound.states) (get_or core.sending.senders.items k d).0) refl

pub no-frame-if : {L In Out Shut : Type 0} (got ahead : Out → List OutItem) (run : List Step)
    (core : OutCore L In Out Shut)
    → Holds got run core.sending
    → HasOver run core.sending.outbound.states → IsQuiet ahead core.sending
    → HaveNoFrame ahead run core
no-frame-if got ahead run core (marks, s, heeds) over (inl gone) = inl gone
no-frame-if got ahead run core (marks, s, heeds) over (inr stuck) =
    inr (all-no-frame got ahead run core marks s over stuck)
