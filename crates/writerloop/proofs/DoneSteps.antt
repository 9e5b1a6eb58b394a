-- Why nothing more is written of the calls of a writer that is at its end.
use Rattle.std.proofs.Common.{
  ◌≡◌,
  ◌≢◌,
  ◌⊎◌,
  ◌∙◌,
  ◌<◌,
  inl,
  inr,
  arith,
  ℕ,
  Bool,
  true,
  false,
  true≢false,
  nat_eq,
  List,
  [],
  ◌∷◌,
  ◌++◌,
  Option,
  None,
  Some,
  ap,
  append-nil,
  get_or,
  length,
  map,
  refl,
  subst,
  sym,
}
use Rattle.std.specs.Prelude.{All, is_some, nat_le, nat_lt}
use Rattle.std.specs.List.{list_any, swap_remove}
use Rattle.std.proofs.lemmas.Bool.{and_parts, eqb-true, eq-eqb, ltb-true}
use Rattle.std.proofs.lemmas.List.{get_or-map, length-map}
use Rattle.std.proofs.lemmas.List.Elements.{All-tail, All-weaker}
use Rattle.std.proofs.lemmas.List.Sorted.{All-permutation, IsPermutation-swap_remove}
use Rattle.account.specs.declared.call.OutItem.{OutItem}
use Rattle.callbox.specs.declared.sender.Sender.{Sender}
use Rattle.limits.specs.declared.TheConstants.{MAX_WINDOW}
use Rattle.sendwindows.specs.Windows.{room}
use Rattle.sendwindows.proofs.WindowSteps.{room-follows}
use Rattle.hpack_codec.specs.Codec.{Encoding}
use Rattle.hpack_codec.specs.Table.{Table}
use Rattle.outwriter.specs.declared.blocks.HeaderBlock.{HeaderBlock}
use Rattle.outwriter.specs.declared.out_core.OutCore.{OutCore}
use Rattle.outwriter.specs.declared.stream.OpenStream.{OpenStream}
use Rattle.outwriter.specs.CallState.{bytes_marks}
use Rattle.outwriter.specs.Calls.{is_served}
use Rattle.outwriter.specs.Cores.{
  HasNoFrame,
  HaveNoFrame,
  IsAtRest,
  IsStuck,
  Leads,
  calls,
  open_stream,
}
use Rattle.outwriter.specs.Histories.{is_over, is_stream, was_reset}
use Rattle.outwriter.specs.Parts.{IsPart, Mark, Tells, marks_on, spelled}
use Rattle.outwriter.specs.Releases.{Releases}
use Rattle.outwriter.specs.RunState.{HasBlock, IsAnswered}
use Rattle.outwriter.specs.Runs.{unfinished}
use Rattle.outwriter.specs.States.{over_on}
use Rattle.outwriter.specs.Steps.{Step, Returned, frames_of}
use Rattle.outwriter.specs.ToldByNow.{Spells}
use Rattle.writerloop.specs.Done.{
  Ended,
  GotAll,
  HasAllBut,
  HasFailed,
  HasNoMore,
  HaveNoMore,
  TellBack,
  Waits,
  WasReset,
}

above : (id : ℕ) → is_stream id ≡ true → 0 < id
above id is =
    ltb-true 0 id (and_parts (nat_lt 0 id) (nat_le id MAX_WINDOW) is).0

-- a run that has no header block unfinished has all the marks that are spelled
told-whole : (run : List Step) (block : Option HeaderBlock) (encoder : Option Encoding)
    (marks : List (ℕ × Mark))
    → HasBlock run block → Spells run block encoder marks → unfinished run ≡ None
    → (table : Table) × Tells run table marks
told-whole run None encoder marks goes (table, told, rest, tells, owes, are, least) none = (
  table,
  subst (λ (all : List (ℕ × Mark)). Tells run table all)
      (sym (are ∙ (ap (λ (more : List (ℕ × Mark)). told ++ more) owes.1 ∙ append-nil told)))
      tells,
)
told-whole run (Some block) encoder marks goes spells none = absurd (goes.2 none)

module _ {L In Out Shut : Type 0} (got : Out → List OutItem) (run : List Step)
    (core : OutCore L In Out Shut) (leads : Leads got run core) (alive : core.is_dead ≡ false) where
  closed-over : (id : ℕ) → is_served id run ≡ true → is_stream id ≡ true
      → open_stream core id ≡ None
      → (is_over id run ≡ true) ⊎ (was_reset id run ≡ true)
  closed-over id served there none = by ((leads.keeps alive).serves.stays id served there none)
    where
      by : (is_some (over_on core.sending.outbound.states id) ≡ true) ⊎ (was_reset id run ≡ true)
          → (is_over id run ≡ true) ⊎ (was_reset id run ≡ true)
      by (inl over) = inl (sym ((leads.keeps alive).mirrors.stand.over id).0 ∙ over)
      by (inr was) = inr was

  pub tell-back : TellBack run
  tell-back id items returned served there =
      closed-over id served there ((leads.keeps alive).serves.returned id items returned served).0

  -- the call of an open stream stands at the stream's place
  place-of : (k : ℕ) (d : ℕ × List OutItem) (stream : OpenStream) (id : ℕ)
      → k < length (calls got core.sending.senders.items)
      → (get_or (calls got core.sending.senders.items) k d).0 ≡ id
      → open_stream core id ≡ Some stream → is_served id run ≡ true → stream.place ≡ k
  place-of k d stream id within whose found served = by (nat_eq stream.place k) refl
    where
      by : (b : Bool) → nat_eq stream.place k ≡ b → stream.place ≡ k
      by true e = eqb-true stream.place k e
      by false e =
          let there = (leads.keeps alive).serves.exact id stream found in
          let not : is_served
          (get_or (calls got core.sending.senders.items) stream.place d).0 run ≡ false =
          (leads.keeps alive).serves.apart stream.place k d there.0 within
          (λ same. true≢false (sym (eq-eqb stream.place k same) ∙ e))
          ((there.1 d).0 ∙ sym whose) in
          absurd (true≢false (sym (ap (λ n. is_served n run) (there.1 d).0 ∙ served) ∙ not))

  stuck-by : (hand : Option (List ℕ)) (id : ℕ) (items more : List OutItem) (part : List Mark)
      → IsPart id run part → part ++ bytes_marks hand ≡ spelled items
      → IsStuck (room core.sending.outbound.states.windows id) hand more → is_stream id ≡ true
      → HasNoMore run id items more
  stuck-by None id items more part written all stuck there =
      GotAll (record { part = part; written = written; all = sym all }) stuck
  stuck-by (Some bytes) id items more part written all stuck there =
      let windows = (leads.keeps alive).mirrors.windows_follow in
      Waits bytes (record { part = part; written = written; all = sym all }) (
        windows.0,
        windows.1,
        room-follows windows.0 core.sending.outbound.states.windows windows.2 id (above id there)
            ∙ stuck,
      )

  no-more-at : unfinished run ≡ None → (k : ℕ) (d : ℕ × Sender L In Out Shut)
      → k < length core.sending.senders.items
      → (id : ℕ) → (get_or core.sending.senders.items k d).0 ≡ id → is_served id run ≡ true
      → is_stream id ≡ true → (more : List OutItem) → HasNoFrame run core id more
      → HasNoMore run id (got (get_or core.sending.senders.items k d).1.rx) more
  no-more-at whole k d within id whose served there more (HasNoFrame.Ended over) = Ended over
  no-more-at whole k d within id whose served there more (HasNoFrame.WasReset was) = WasReset was
  no-more-at whole k d within id whose served there more (HasNoFrame.Stuck stream found stuck) =
      let call : ℕ × Sender L In Out Shut → ℕ × List OutItem = λ c. (c.0, got c.1.rx) in
      let at : get_or (calls got core.sending.senders.items) k (0, [])
      ≡ (
        (get_or core.sending.senders.items k d).0,
        got
            (get_or core.sending.senders.items k d).1.rx,
      ) =
      get_or-map call core.sending.senders.items k d (0, []) within in
      let place : stream.place ≡ k =
      place-of k (0, []) stream id
      (omega (arith, within, length-map core.sending.senders.items call))
      (ap (λ (c : ℕ × List OutItem). c.0) at ∙ whose) found served in
      let kept = leads.keeps alive in
      let exact = (kept.serves.exact id stream found).1 (0, []) in
      let told =
      told-whole run core.sending.outbound.block core.sending.outbound.encoder kept.marks
      kept.mirrors.goes_on kept.serves.spells.1 whole in
      stuck-by stream.in_hand id (got (get_or core.sending.senders.items k d).1.rx) more
      (marks_on id kept.marks) (told.0, kept.marks, told.1, refl)
      (exact.1
      ∙ (ap (λ (n : ℕ). spelled (get_or (calls got core.sending.senders.items) n (0, [])).1) place
      ∙ ap (λ (c : ℕ × List OutItem). spelled c.1) at))
      stuck there

  pub no-more : (ahead : Out → List OutItem) → IsAtRest ahead run core
      → HaveNoMore got ahead run core.sending.senders.items
  no-more ahead rest = by rest.no_frame rest.answered
    where
      by : HaveNoFrame ahead run core → IsAnswered run
          → HaveNoMore got ahead run core.sending.senders.items
      by (inl gone) answered = inl ((leads.keeps alive).mirrors.goes ∙ gone)
      by (inr all) (inl failed) = inl failed
      by (inr all) (inr answered) =
          inr (λ k d within served there.
          no-more-at answered.1 k d within (get_or core.sending.senders.items k d).0 refl served
          there (ahead (get_or core.sending.senders.items k d).1.rx) (all k d within served there))

  pub failed-or : {B : Type 0} → (core.sending.outbound.gone ≡ true) ⊎ B → HasFailed run ⊎ B
  failed-or (inl gone) = inl ((leads.keeps alive).mirrors.goes ∙ gone)
  failed-or (inr other) = inr other

-- ---- a sender is given back

still-but : (id k : ℕ) (items found : List OutItem) (bytes : List ℕ) (run : List Step)
    → HasAllBut bytes run id items → HasAllBut bytes (Returned k found ∷ run) id items
still-but id k items found bytes run has =
    record { part = has.part; written = has.written; all = has.all }

still-done : (id k : ℕ) (items found more : List OutItem) (run : List Step)
    → HasNoMore run id items more → HasNoMore (Returned k found ∷ run) id items more
still-done id k items found more run (Ended over) = Ended over
still-done id k items found more run (WasReset was) = WasReset was
still-done id k items found more run (Waits bytes has shut) =
    Waits bytes (still-but id k items found bytes run has) shut
still-done id k items found more run (GotAll has none) =
    GotAll (still-but id k items found [] run has) none

module _ {L In Out Shut : Type 0} (got ahead : Out → List OutItem) where
  -- a call has no more behind these steps, if this run serves it
  abbrev HasDone : List Step → List Step → ℕ × Sender L In Out Shut → Type 0
  HasDone run now call =
      is_served call.0 run ≡ true → is_stream call.0 ≡ true
      → HasNoMore now call.0 (got call.1.rx) (ahead call.1.rx)

  pub done-less : (id : ℕ) (sender : Sender L In Out Shut) (run : List Step)
      (old new : List (ℕ × Sender L In Out Shut)) → Releases id sender old new
      → HaveNoMore got ahead run old → HaveNoMore got ahead (Returned id (got sender.rx) ∷ run) new
  done-less id sender run old new releases (inl failed) = inl failed
  done-less id sender run old new releases (inr all) =
      let now : List Step = Returned id (got sender.rx) ∷ run in
      inr (subst (λ (senders : List (ℕ × Sender L In Out Shut)). All (HasDone run now) senders)
      (sym releases.3) (All-tail (HasDone run now) (id, sender)
      (swap_remove old releases.0 (id, sender))
      (All-permutation (HasDone run now) old
      ((id, sender) ∷ swap_remove old releases.0 (id, sender))
      (IsPermutation-swap_remove old releases.0 (id, sender) releases.1 releases.2)
      (All-weaker (HasDone run run) (HasDone run now)
      (λ call was served there.
      still-done call.0 id (got call.1.rx) (got sender.rx) (ahead call.1.rx) run
      (was served there)) old all))))

-- ---- where no more is known to be ahead

pub done-known : (run : List Step) (id : ℕ) (items more : List OutItem)
    → HasNoMore run id items more
    → HasNoMore run id items []
done-known run id items more (Ended over) = Ended over
done-known run id items more (WasReset was) = WasReset was
done-known run id items more (Waits bytes has shut) = Waits bytes has shut
done-known run id items more (GotAll has none) = GotAll has refl

pub done-closed : (run : List Step) (id : ℕ) (items : List OutItem)
    → (is_over id run ≡ true) ⊎ (was_reset id run ≡ true) → HasNoMore run id items []
done-closed run id items (inl over) = Ended over
done-closed run id items (inr was) = WasReset was
