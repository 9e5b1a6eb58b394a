-- Where a look at a stream finds nothing to write, nothing can be written on it, and of the other
-- streams all is the same.
use Rattle.std.proofs.Common.{
  true,
  ◌≡◌,
  inl,
  inr,
  ℕ,
  refl,
  sym,
  ap,
  subst,
  ◌∙◌,
  false,
  List,
  [],
  Option,
  Some,
  None,
  true≢false,
}
use Rattle.std.specs.Prelude.{get_or, ◌≢◌, is_some, if◌then◌else◌}
use Rattle.std.specs.Option.{option_map}
use Rattle.std.proofs.lemmas.Bool.{eq-eqb, ne_eqb}
use Rattle.account.specs.declared.call.OutItem.{OutItem}
use Rattle.sendwindows.specs.Windows.{Windows, room}
use Rattle.outwriter.specs.declared.sending.Sending.{Sending}
use Rattle.outwriter.specs.declared.outbound.Outbound.{Outbound}
use Rattle.outwriter.specs.declared.stream.OpenStream.{OpenStream}
use Rattle.outwriter.specs.declared.stream.SenderItem.{SenderItem}
use Rattle.outwriter.specs.declared.stream.SenderItem.TheVariants as polled
use Rattle.outwriter.specs.declared.stream.NextData.{NextData}
use Rattle.outwriter.specs.declared.stream.NextData.TheVariants as looked
use Rattle.outwriter.specs.Cores.{calls, IsStuck}
use Rattle.outwriter.specs.declared.stream_state.StreamState.{StreamState}
use Rattle.outwriter.specs.declared.stream_state.StreamState.TheVariants.{NoCall, Call, Reset}
use Rattle.outwriter.specs.Histories.{is_stream}
use Rattle.outwriter.specs.States.{
  IsShut,
  by_reset,
  can_write,
  end_of,
  is_reset,
  is_reset_state,
  state_on,
  open_at,
}
use Rattle.outwriter.specs.OpenStreams.{HandIs, OpenStreams, Shown, shown, shows, with_hand}
use Rattle.outwriter.specs.StreamLooks.{
  SameAhead,
  aheads,
  Holds,
  HoldsOn,
  StuckAt,
  GetsStuck,
  LeavesStuck,
  LooksAt,
}
use Rattle.outwriter.specs.Steps.{Step}
use Rattle.outwriter.proofs.DataSteps.{TellsData}
use Rattle.outwriter.proofs.Others.{known-stream}
use Rattle.outwriter.proofs.ServeSteps.{shown-some, from_some, none-some}
use Rattle.outwriter.proofs.ServeStepsLook.{Took, takes-nothing}

hand-of : (hand : Option (List ℕ)) (v : Shown) (s : ℕ × Option (List ℕ)) → with_hand hand v ≡ Some s
    → (s.1 ≡ hand) × ((was : Option (List ℕ)) × (v ≡ Some (s.0, was)))
hand-of hand None s e = absurd (none-some s e)
hand-of hand (Some x) s e = (
  sym (ap (λ (o : Shown). (from_some s o).1) e),
  (x.1, ap (λ (n : ℕ). Some (n, x.1)) (ap (λ (o : Shown). (from_some s o).0) e)),
)

stuck-same : (r room_now : ℕ) (h hand : Option (List ℕ)) (a ahead : List OutItem) → room_now ≡ r
    → hand ≡ h → ahead ≡ a → IsStuck r h a → IsStuck room_now hand ahead
stuck-same r room_now h hand a ahead e f g is =
    subst (λ (n : ℕ). IsStuck n hand ahead) (sym e) (subst
    (λ (x : Option (List ℕ)). IsStuck r x ahead) (sym f)
    (subst (λ (l : List OutItem). IsStuck r h l) (sym g) is))

here-is : (hand : Option (List ℕ)) (id : ℕ) (middle left : OpenStreams) (stream : OpenStream)
    → HandIs id hand middle left → left id ≡ Some stream
    → with_hand hand (shows middle id) ≡ Some (stream.place, stream.in_hand)
here-is hand id middle left stream is e =
    sym (is id
    ∙ ap (λ b. if b then with_hand hand (shows middle id) else shows middle id) (eq-eqb id id refl))
    ∙ ap shown e

elsewhere-is : (hand : Option (List ℕ)) (id k : ℕ) (middle left : OpenStreams)
    → HandIs id hand middle left → k ≢ id → shows left k ≡ shows middle k
elsewhere-is hand id k middle left is ne =
    is k ∙ ap (λ b. if b then with_hand hand (shows middle k) else shows middle k) (ne_eqb k id ne)

module _ {L In Out Shut : Type 0} where
  others-stuck : (got ahead : Out → List OutItem) (old mid new : Sending L In Out Shut)
      (id : ℕ) (run : List Step)
      → Holds got run old
      → SameAhead (shows (open_at old.outbound.states) id) (aheads ahead old.senders.items)
      (aheads ahead mid.senders.items)
      → ((k : ℕ) → k ≢ id
      → shows (open_at new.outbound.states) k ≡ shows (open_at old.outbound.states) k)
      → new.senders ≡ mid.senders → new.outbound.states.windows ≡ old.outbound.states.windows
      → (k : ℕ) → k ≢ id → StuckAt ahead k old → StuckAt ahead k new
  others-stuck got ahead old mid new id run (marks, s, heeds) same hands senders windows k
      ne stuck stream e =
      stuck-same (room old.outbound.states.windows k) (room new.outbound.states.windows k)
      f.0.in_hand stream.in_hand
      (get_or (aheads ahead old.senders.items) f.0.place [])
      (get_or (aheads ahead new.senders.items) stream.place [])
      (ap (λ (w : Windows). room w k) windows) (sym f.3)
      (ap (λ senders. get_or (aheads ahead senders.items) stream.place []) senders
      ∙ by (shows (open_at old.outbound.states) id) refl same
      ∙ ap (λ n. get_or (aheads ahead old.senders.items) n []) (sym f.2)) (stuck f.0 f.1)
    where
      f : (st : OpenStream) × ((open_at old.outbound.states) k ≡ Some st)
          × (st.place ≡ stream.place) × (st.in_hand ≡ stream.in_hand)
      f =
          shown-some ((open_at old.outbound.states) k) (stream.place, stream.in_hand)
          (sym (hands k ne) ∙ ap shown e)

      apart : (x : ℕ × Option (List ℕ)) → shows (open_at old.outbound.states) id ≡ Some x
          → stream.place ≡ x.0 → ⊥
      apart x v p =
          let i = shown-some ((open_at old.outbound.states) id) x v in
          let d : ℕ × List OutItem = (0, []) in
          ne (sym ((s.exact k f.0 f.1).1 d).0
          ∙ ap (λ n. (get_or (calls got old.senders.items) n d).0) (f.2 ∙ p ∙ sym i.2)
          ∙ ((s.exact id i.0 i.1).1 d).0)

      by : (v : Shown) → shows (open_at old.outbound.states) id ≡ v
          → SameAhead v (aheads ahead old.senders.items) (aheads ahead mid.senders.items)
          → get_or (aheads ahead mid.senders.items) stream.place []
          ≡ get_or (aheads ahead old.senders.items) stream.place []
      by None v same_all = ap (λ (l : List (List OutItem)). get_or l stream.place []) same_all
      by (Some x) v same_but = same_but stream.place (apart x v)

  -- a stream on which nothing more may be written, or that isn't open
  pub stuck-shut : (got ahead : Out → List OutItem) (core : Sending L In Out Shut) (id : ℕ)
      → IsShut core.outbound.states id → GetsStuck got ahead id core core
  stuck-shut got ahead core id shut run (marks, s, heeds) =
      (λ stream e. absurd (by stream e shut), λ k ne stuck. stuck)
    where
      written : (state : StreamState) → option_map by_reset (end_of state) ≡ None
          → is_reset_state state ≡ false → can_write state ≡ true
      written (NoCall None) over unreset = refl
      written (NoCall (Some by)) over unreset = absurd (none-some (by_reset by) (sym over))
      written (Call owed None) over unreset = refl
      written (Call owed (Some by)) over unreset = absurd (none-some (by_reset by) (sym over))
      written (Reset is_call over_by) over unreset = absurd (true≢false unreset)

      by : (stream : OpenStream) → (open_at core.outbound.states) id ≡ Some stream
          → IsShut core.outbound.states id → ⊥
      by stream e (inl denied) =
          let there : is_stream id ≡ true =
          known-stream run core.outbound s.brought id (s.known id stream e) in
          let unreset : is_reset core.outbound.states id ≡ false =
          heeds.1 id there ∙ heeds.2 id (ap is_some e) in
          true≢false
          (sym (written (state_on core.outbound.states id) (s.not_over id stream e) unreset)
          ∙ denied)
      by stream e (inr none) = none-some stream (sym none ∙ e)

  pub stuck-nothing : (got ahead : Out → List OutItem) (old mid : Sending L In Out Shut)
      (id : ℕ) (result : SenderItem)
      → Took got ahead old mid id result
      → SameAhead (shows (open_at old.outbound.states) id) (aheads ahead old.senders.items)
      (aheads ahead mid.senders.items)
      → result ≡ polled.Nothing → GetsStuck got ahead id old mid
  stuck-nothing got ahead old mid id result took same is run h = (
    λ stream e.
        let found =
        takes-nothing (shows (open_at old.outbound.states) id) (calls got old.senders.items)
        (calls got mid.senders.items) (aheads ahead mid.senders.items) old.outbound.encoder
        mid.outbound.encoder
        (subst (λ (p : SenderItem). Took got ahead old mid id p) is took).takes in
        let hand =
        hand-of None (shows (open_at old.outbound.states) id) (stream.place, stream.in_hand)
        (found.2
        ∙ sym (ap (λ (o : Outbound). shows (open_at o.states) id) took.outbound) ∙ ap shown e) in
        subst (λ (x : Option (List ℕ)).
        IsStuck (room mid.outbound.states.windows id) x
        (get_or (aheads ahead mid.senders.items) stream.place [])) (sym hand.0)
        (found.3 (stream.place, hand.1.0) hand.1.1),
    others-stuck got ahead old mid mid id run h same
        (λ k ne. ap (λ (o : Outbound). shows (open_at o.states) k) took.outbound) refl
        (ap (λ (o : Outbound). o.states.windows) took.outbound),
  )

  pub stuck-data : (got ahead : Out → List OutItem) (old mid new : Sending L In Out Shut) (id : ℕ)
      (bytes : List ℕ) (result : SenderItem)
      → Took got ahead old mid id result
      → SameAhead (shows (open_at old.outbound.states) id) (aheads ahead old.senders.items)
      (aheads ahead mid.senders.items)
      → TellsData id bytes looked.Nothing mid new → new.senders ≡ mid.senders
      → GetsStuck got ahead id old new
  stuck-data got ahead old mid new id bytes result took same tells senders run h = (
    λ stream e.
        let hand =
        hand-of (Some bytes) (shows (open_at mid.outbound.states) id)
        (stream.place, stream.in_hand) (here-is (Some bytes) id (open_at mid.outbound.states)
        (open_at new.outbound.states) stream tells.0 e) in
        subst (λ (x : Option (List ℕ)).
        IsStuck (room new.outbound.states.windows id) x
        (get_or (aheads ahead new.senders.items) stream.place [])) (sym hand.0)
        (ap (λ (o : Outbound). room o.states.windows id) tells.1 ∙ tells.2),
    others-stuck got ahead old mid new id run h same
        (λ k ne.
        elsewhere-is (Some bytes) id k (open_at mid.outbound.states)
        (open_at new.outbound.states) tells.0 ne
        ∙ ap (λ (o : Outbound). shows (open_at o.states) k) took.outbound) senders
        (ap (λ (o : Outbound). o.states.windows) tells.1
        ∙ ap (λ (o : Outbound). o.states.windows) took.outbound),
  )

  -- a message without bytes
  pub leaves-empty : (got ahead : Out → List OutItem) (old mid new : Sending L In Out Shut) (id : ℕ)
      (bytes : List ℕ) (result : SenderItem)
      → Took got ahead old mid id result
      → SameAhead (shows (open_at old.outbound.states) id) (aheads ahead old.senders.items)
      (aheads ahead mid.senders.items)
      → TellsData id bytes looked.Empty mid new → new.senders ≡ mid.senders
      → LeavesStuck got ahead id old new
  leaves-empty got ahead old mid new id bytes result took same tells senders run h =
      others-stuck got ahead old mid new id run h same
      (λ k ne.
      elsewhere-is None id k (open_at mid.outbound.states) (open_at new.outbound.states) tells.1 ne
      ∙ ap (λ (o : Outbound). shows (open_at o.states) k) took.outbound) senders
      (ap (λ (o : Outbound). o.states.windows) tells.2
      ∙ ap (λ (o : Outbound). o.states.windows) took.outbound)

  pub looks-data : (got ahead : Out → List OutItem) (old mid new : Sending L In Out Shut) (id : ℕ)
      (bytes : List ℕ) (result : SenderItem) (found : NextData)
      → Took got ahead old mid id result
      → SameAhead (shows (open_at old.outbound.states) id) (aheads ahead old.senders.items)
      (aheads ahead mid.senders.items)
      → TellsData id bytes found mid new → new.senders ≡ mid.senders
      → LooksAt got ahead id found old new
  looks-data got ahead old mid new id bytes result (looked.Frame frame) took same tells senders = tt
  looks-data got ahead old mid new id bytes result looked.Nothing took same tells senders =
      stuck-data got ahead old mid new id bytes result took same tells senders
  looks-data got ahead old mid new id bytes result looked.Empty took same tells senders =
      leaves-empty got ahead old mid new id bytes result took same tells senders

  -- one look after another
  pub leaves-then : (got ahead : Out → List OutItem) (old mid new : Sending L In Out Shut) (id : ℕ)
      → HoldsOn got None old mid
      → LeavesStuck got ahead id old mid → LeavesStuck got ahead id mid new
      → LeavesStuck got ahead id old new
  leaves-then got ahead old mid new id holds first second = λ run h k ne stuck.
      second run (holds run h) k ne (first run h k ne stuck)

  pub gets-then : (got ahead : Out → List OutItem) (old mid new : Sending L In Out Shut) (id : ℕ)
      → HoldsOn got None old mid
      → LeavesStuck got ahead id old mid → GetsStuck got ahead id mid new
      → GetsStuck got ahead id old new
  gets-then got ahead old mid new id holds first second run h =
      let found = second run (holds run h) in
      (found.0, λ k ne stuck. found.1 k ne (first run h k ne stuck))
