-- A look at what is next on a stream: what is in hand, or what its sender has.
use Rattle.std.proofs.Common.{
  ◌≡◌,
  inl,
  inr,
  ℕ,
  refl,
  sym,
  ap,
  subst,
  ◌∙◌,
  Bool,
  List,
  [],
  Option,
  None,
  Some,
}
use Rattle.std.specs.Prelude.{Ok, get_or}
use Rattle.account.specs.declared.call.OutItem.{OutItem}
use Rattle.callbox.specs.declared.sender.Sender.{Sender}
use Rattle.h2frame.specs.declared.frame.Frame.{Frame}
use Rattle.hpack_codec.specs.Codec.{Encoding}
use Rattle.sendwindows.specs.Windows.{SharedWindow, room}
use Rattle.outwriter.specs.declared.sending.Sending.{Sending}
use Rattle.outwriter.specs.declared.outbound.Outbound.{Outbound}
use Rattle.outwriter.specs.declared.states.Stream.{Stream}
use Rattle.outwriter.specs.declared.stream.NextItem.{NextItem}
use Rattle.outwriter.specs.declared.stream.NextItem.TheVariants as found
use Rattle.outwriter.specs.declared.stream.MessageInHand.{MessageInHand}
use Rattle.outwriter.specs.declared.stream.MessageInHand.TheVariants as hand
use Rattle.outwriter.specs.declared.stream.NextData.{NextData}
use Rattle.outwriter.specs.declared.stream.OpenStream.{OpenStream}
use Rattle.outwriter.specs.declared.stream.SenderItem.{SenderItem}
use Rattle.outwriter.specs.declared.stream.SenderItem.TheVariants as polled
use Rattle.outwriter.specs.CallState.{Heeds, Serves}
use Rattle.outwriter.specs.Cores.{calls, IsStuck}
use Rattle.outwriter.specs.Data.{LooksAtStream, TakesFrames}
use Rattle.outwriter.specs.Frames.{IsSound}
use Rattle.outwriter.specs.NextOn.{Asks, EndsOn, NextOnStream, TakesNext, TakesUp}
use Rattle.outwriter.specs.OpenStreams.{Removes, Shown, kept, shows, with_hand}
use Rattle.outwriter.specs.RunState.{BeginsBlock, Ends, IsBetween, MirrorsOf}
use Rattle.outwriter.specs.States.{IsShut, SameOwed, States, open_at, owed_on}
use Rattle.outwriter.specs.StreamLooks.{
  GetsStuck,
  LooksAt,
  Picks,
  SameAhead,
  StuckAt,
  TakesAt,
  aheads,
  frame_in,
}
use Rattle.outwriter.specs.ToldByNow.{TellsBlock}
use Rattle.outwriter.proofs.DataSteps.{TellsData, data-own, data-progress, data-sound, tells-data}
use Rattle.outwriter.proofs.EndSteps.{block-heads}
use Rattle.outwriter.proofs.ServeStepsLook.{
  Took,
  look-block,
  look-data,
  look-nothing,
  look-picks,
  progress-none,
}
use Rattle.outwriter.proofs.StuckSteps.{looks-data, stuck-nothing, stuck-shut}

-- ---- a stream

module _ {L In Out Shut : Type 0} (got ahead : Out → List OutItem) (id : ℕ) (old : Stream)
    (from : SharedWindow) (senders : List (ℕ × Sender L In Out Shut))
    (before : Option Encoding) where
  pub next-hand : (new : Stream) (to : SharedWindow) (found_it : MessageInHand) (l : NextData)
      → new.state ≡ old.state → LooksAtStream id old new from to found_it
      → found_it ≡ hand.Message l
      → NextOnStream got ahead id old new from to senders senders before before (found.Message l)
  next-hand new to found_it l state at is =
      let looks = subst (LooksAtStream id old new from to) is at in
      inr (
        looks.0,
        polled.Message looks.2,
        (
          subst (λ (v : Shown).
              TakesAt {E = Unit {0}} v (calls got senders) (calls got senders)
              (aheads ahead senders) before before (Ok (polled.Message looks.2))) (sym looks.4)
              (refl, refl, refl),
          subst (λ (v : Shown). SameAhead v (aheads ahead senders) (aheads ahead senders))
              (sym looks.4) (λ k ne. refl),
        ),
        (state, (looks.3, looks.5 ∙ sym (ap (with_hand (kept looks.3)) looks.4), looks.6)),
      )

-- ---- a core

module _ {L In Out Shut : Type 0} where
  -- nothing was changed
  module _ (got ahead : Out → List OutItem) (old new : Sending L In Out Shut)
      (outbound : new.outbound ≡ old.outbound)
      (senders : new.senders.items ≡ old.senders.items) where
    still-picks : IsBetween old.outbound → Picks got None old new
    still-picks between = (
      tt,
      (λ run m. subst (MirrorsOf run) (sym outbound) m, subst IsBetween (sym outbound) between),
      (
        ap (λ (o : Outbound). o.due) outbound,
        λ k. ap (λ (o : Outbound). owed_on o.states k) outbound,
        ap (λ (o : Outbound). o.block) outbound,
      ),
      λ run h. (
        h.0,
        subst (λ (o : Outbound).
            Serves run o (open_at o.states) (calls got new.senders.items) h.0) (sym outbound)
            (subst (λ (l : List (ℕ × Sender L In Out Shut)).
            Serves run old.outbound (open_at old.outbound.states) (calls got l) h.0)
            (sym senders) h.1),
        subst (λ (o : Outbound). Heeds run o (open_at o.states)) (sym outbound) h.2,
      ),
    )

    abbrev StuckIn : ℕ → Outbound → List (ℕ × Sender L In Out Shut) → Type 0
    StuckIn k o senders =
        (stream : OpenStream) → (open_at o.states) k ≡ Some stream
        → IsStuck (room o.states.windows k) stream.in_hand
        (get_or (aheads ahead senders) stream.place [])

    stuck-as : (k : ℕ) → StuckAt ahead k old → StuckAt ahead k new
    stuck-as k stuck =
        subst (λ (o : Outbound). StuckIn k o new.senders.items) (sym outbound) (subst
        (λ (l : List (ℕ × Sender L In Out Shut)). StuckIn k old.outbound l) (sym senders) stuck)

    still-stuck : (id : ℕ) → IsShut old.outbound.states id → GetsStuck got ahead id old new
    still-stuck id shut run h =
        let was = stuck-shut got ahead old id shut run h in
        (stuck-as id was.0, λ k ne stuck. stuck-as k (was.1 k ne stuck))

  module _ (got ahead : Out → List OutItem) (old left : Sending L In Out Shut)
      (encoder : Option Encoding) (states : States) (id : ℕ)
      (between : IsBetween old.outbound) where
    -- what was found is taken from a sender
    abbrev mid : Sending L In Out Shut
    mid = record left { outbound = record old.outbound { encoder = encoder } }

    -- and taken up
    abbrev after : Sending L In Out Shut
    after = record left { outbound = record old.outbound { encoder = encoder; states = states } }

    abbrev AsksFor : SenderItem → Type 0
    AsksFor one =
        Asks got ahead (shows (open_at old.outbound.states) id) old.senders.items left.senders.items
        old.outbound.encoder encoder one

    abbrev IsNext : NextItem → Type 0
    IsNext result =
        TakesNext got ahead id old.outbound.states states old.senders.items left.senders.items
        old.outbound.encoder encoder result

    took-for : (one : SenderItem) → AsksFor one → Took got ahead old mid id one
    took-for one asks = record { takes = asks.0; outbound = refl }

    unchanged : states ≡ old.outbound.states → encoder ≡ old.outbound.encoder
        → after.outbound ≡ old.outbound
    unchanged same kept_encoder =
        ap (λ (x : States). record old.outbound { encoder = encoder; states = x }) same
        ∙ ap (λ (x : Option Encoding). record old.outbound { encoder = x }) kept_encoder

    -- ---- nothing

    quiet-picks : (one : SenderItem) → AsksFor one
        → TakesUp id old.outbound.states states one found.Nothing → Picks got None old after
    quiet-picks polled.Nothing asks same =
        subst (λ (x : States).
        Picks got None old (record left {
          outbound = record old.outbound { encoder = encoder; states = x };
        })) (sym same) (
          tt,
          progress-none old.outbound mid.outbound refl between,
          (refl, λ k. refl, refl),
          look-nothing got ahead old mid id polled.Nothing (took-for polled.Nothing asks) refl,
        )
    quiet-picks (polled.Message bytes) asks up = absurd up
    quiet-picks (polled.Block bytes ends) asks up = absurd up

    quiet-stuck : (one : SenderItem) → AsksFor one
        → TakesUp id old.outbound.states states one found.Nothing → GetsStuck got ahead id old after
    quiet-stuck polled.Nothing asks same =
        subst (λ (x : States).
        GetsStuck got ahead id old (record left {
          outbound = record old.outbound { encoder = encoder; states = x };
        })) (sym same)
        (stuck-nothing got ahead old mid id polled.Nothing
        (took-for polled.Nothing asks) asks.1 refl)
    quiet-stuck (polled.Message bytes) asks up = absurd up
    quiet-stuck (polled.Block bytes ends) asks up = absurd up

    pub nothing-picks : (result : NextItem) → IsNext result → result ≡ found.Nothing
        → Picks got None old after
    nothing-picks result next is = by (subst IsNext is next)
      where
        by : IsNext found.Nothing → Picks got None old after
        by (inl (shut, none, same, asks)) =
            still-picks got ahead old after (unchanged same asks.1) asks.0 between
        by (inr (can, one, asks, up)) = quiet-picks one asks up

    pub nothing-stuck : (result : NextItem) → IsNext result → result ≡ found.Nothing
        → GetsStuck got ahead id old after
    nothing-stuck result next is = by (subst IsNext is next)
      where
        by : IsNext found.Nothing → GetsStuck got ahead id old after
        by (inl (shut, none, same, asks)) =
            still-stuck got ahead old after (unchanged same asks.1) asks.0 id shut
        by (inr (can, one, asks, up)) = quiet-stuck one asks up

    -- ---- DATA

    message-looks : (l : NextData) (one : SenderItem)
        → TakesFrames old.outbound.states id → AsksFor one
        → TakesUp id old.outbound.states states one (found.Message l)
        → Picks got (frame_in l) old after × LooksAt got ahead id l old after
    message-looks l (polled.Message bytes) can asks begins =
        let but : after.outbound ≡ record mid.outbound {
          states = record mid.outbound.states
              { opened = states.opened; windows = states.windows };
        } =
        ap (λ (x : States). record mid.outbound { states = x }) begins.0 in
        let none = progress-none old.outbound mid.outbound refl between in
        let tells : TellsData id bytes l mid after =
        tells-data l mid after id bytes begins.1 none.1 can begins.2 but begins.3 in (
          look-picks got old mid after l none.0 (refl, λ k. refl, refl)
              (data-sound mid.outbound after.outbound id bytes begins.1 none.1 can but l begins.3)
              (data-progress mid.outbound after.outbound id bytes begins.1 none.1
              can but l begins.3)
              (data-own mid.outbound after.outbound id bytes begins.1 none.1 can but l begins.3)
              (look-data got ahead old mid after id bytes
              (took-for (polled.Message bytes) asks) refl l tells),
          looks-data got ahead old mid after id bytes (polled.Message bytes) l
              (took-for (polled.Message bytes) asks) asks.1 tells refl,
        )
    message-looks l polled.Nothing can asks up = absurd up
    message-looks l (polled.Block bytes ends) can asks up = absurd up

    pub message-found : (result : NextItem) (l : NextData) → IsNext result
        → result ≡ found.Message l
        → Picks got (frame_in l) old after × LooksAt got ahead id l old after
    message-found result l next is = by (subst IsNext is next)
      where
        message-nothing : (r : NextItem) → r ≡ found.Message l → r ≡ found.Nothing → ⊥
        message-nothing r e f = cc

        by : IsNext (found.Message l)
            → Picks got (frame_in l) old after × LooksAt got ahead id l old after
        by (inl (shut, none, same, asks)) = absurd (message-nothing (found.Message l) refl none)
        by (inr (can, one, asks, up)) = message-looks l one can asks up

    -- ---- a header block

    abbrev TakesBlock : List ℕ → Bool → Type 0
    TakesBlock bytes ends =
        TakesFrames old.outbound.states id × AsksFor (polled.Block bytes ends)
        × EndsOn id ends old.outbound.states states

    block-of : (bytes : List ℕ) (ends : Bool) (one : SenderItem)
        → TakesFrames old.outbound.states id
        → AsksFor one → TakesUp id old.outbound.states states one (found.Block bytes ends)
        → TakesBlock bytes ends
    block-of bytes ends (polled.Block block ends_it) can asks up =
        subst (λ (l : List ℕ). TakesBlock l ends) (sym up.0)
        (subst (λ (b : Bool). TakesBlock block b) (sym up.1) (can, asks, up.2))
    block-of bytes ends polled.Nothing can asks up = absurd up
    block-of bytes ends (polled.Message message) can asks up = absurd up

    pub block-found : (result : NextItem) (bytes : List ℕ) (ends : Bool) → IsNext result
        → result ≡ found.Block bytes ends → TakesBlock bytes ends
    block-found result bytes ends next is = by (subst IsNext is next)
      where
        block-nothing : (r : NextItem) → r ≡ found.Block bytes ends → r ≡ found.Nothing → ⊥
        block-nothing r e f = cc

        by : IsNext (found.Block bytes ends) → TakesBlock bytes ends
        by (inl (shut, none, same, asks)) =
            absurd (block-nothing (found.Block bytes ends) refl none)
        by (inr (can, one, asks, up)) = block-of bytes ends one can asks up

    pub block-picks : (bytes : List ℕ) (ends : Bool) (frame : Frame) (new : Outbound)
        → TakesBlock bytes ends → IsSound frame
        → BeginsBlock id ends bytes frame after.outbound new
        → TellsBlock id ends bytes frame after.outbound new
        → Picks got (Some frame) old (record left { outbound = new })
    block-picks bytes ends frame new (can, asks, (removes, ended, owed, moves)) sound begins tells =
        let is : new.states ≡ states = ap (λ (o : Outbound). o.states) begins.1 in (
          sound,
          λ run m.
              block-heads old.outbound after.outbound new id ends bytes frame between
              can.stream can.not_over can.not_reset refl ended owed moves begins run
              old.outbound.due.items m m.answers,
          tt,
          look-block got ahead old mid (record left { outbound = new }) id bytes ends frame
              (took-for (polled.Block bytes ends) asks) refl
              (subst (λ (x : States). Removes id ends (open_at old.outbound.states) (open_at x))
              (sym is) removes)
              (subst (Ends old.outbound.states id ends) (sym is) ended)
              (subst (SameOwed old.outbound.states) (sym is) owed)
              (ap (λ (o : Outbound). o.due) begins.1) tells,
        )
