-- The same of a core: one step after another.
use Rattle.std.proofs.Common.{
  ◌≡◌,
  ℕ,
  refl,
  sym,
  ap,
  subst,
  ◌∙◌,
  true,
  List,
  [],
  ◌∷◌,
  ◌++◌,
  inl,
  inr,
  Option,
  Some,
  None,
}
use Rattle.account.specs.declared.call.OutItem.{OutItem}
use Rattle.h2frame.specs.declared.frame.Frame.{Frame}
use Rattle.outwriter.specs.States.{open_at, owed_on}
use Rattle.outwriter.specs.declared.sending.Sending.{Sending}
use Rattle.outwriter.specs.declared.outbound.Outbound.{Outbound}
use Rattle.outwriter.specs.Cores.{calls}
use Rattle.outwriter.specs.Parts.{Mark, Reset, on_stream}
use Rattle.outwriter.specs.OpenStreams.{OpenStreams, SameHands, shown}
use Rattle.outwriter.specs.RunState.{IsBetween, SameButOpen, SameOwn}
use Rattle.outwriter.specs.StreamLooks.{Gives, Holds, HoldsOn, KeepsFronts, Picks}
use Rattle.outwriter.specs.CallState.{Serves, Heeds, IsOwn, OwnOrRests}
use Rattle.outwriter.specs.Steps.{Step, Written}
use Rattle.outwriter.specs.ToldByNow.{block_marks}
use Rattle.outwriter.proofs.EndsKept.{heeds-but-open, heeds-kept, heeds-own, own-ends, rests-ends}
use Rattle.outwriter.proofs.RunStateSteps.{mirrors-but-open}
use Rattle.outwriter.proofs.ServeSteps.{none-shown}
use Rattle.outwriter.proofs.ServeStepsOwn.{
  serves-hands,
  serves-rests,
  serves-plain,
  serves-reset,
  serves-refusal,
  serves-but-open,
}

-- what is owed, by one look behind another
pub own-then : (old mid new : Outbound) → SameOwn old mid → SameOwn mid new → SameOwn old new
own-then old mid new a b = (b.0 ∙ a.0, λ id. b.1 id ∙ a.1 id, b.2 ∙ a.2)

-- what is kept of the open streams changes
pub own-but-open : (o after : Outbound) → SameButOpen o after → SameOwn o after
own-but-open o after e = (
  ap (λ (x : Outbound). x.due) e,
  λ id. ap (λ (x : Outbound). owed_on x.states id) e,
  ap (λ (x : Outbound). x.block) e,
)

pub between-but-open : (o after : Outbound) → SameButOpen o after → IsBetween o → IsBetween after
between-but-open o after e between = record {
  begun = ap (λ (x : Outbound). x.begun) e ∙ between.begun;
  going = ap (λ (x : Outbound). x.gone) e ∙ between.going;
  no_block = ap (λ (x : Outbound). x.block) e ∙ between.no_block;
}

module _ {L In Out Shut : Type 0} where
  -- no frame came, and then this one did, if any
  pub holds-then : (got : Out → List OutItem) (old mid new : Sending L In Out Shut)
      (o : Option Frame)
      → HoldsOn got None old mid → HoldsOn got o mid new → HoldsOn got o old new
  holds-then got old mid new None f g = λ run h. g run (f run h)
  holds-then got old mid new (Some frame) f g = λ run h. g run (f run h)

  -- the places and what is in hand are the same, and all else that is kept of the calls
  pub holds-hands : (got : Out → List OutItem) (old new : Sending L In Out Shut)
      → SameHands (open_at old.outbound.states) (open_at new.outbound.states)
      → SameButOpen old.outbound new.outbound → new.senders ≡ old.senders → (run : List Step)
      → Holds got run old → Holds got run new
  holds-hands got old new hands outbound senders run (marks, s, heeds) = (
    marks,
    serves-but-open run old.outbound new.outbound (open_at new.outbound.states)
        (calls got new.senders.items) marks outbound
        (subst (λ senders.
        Serves run old.outbound (open_at new.outbound.states) (calls got senders.items)
        marks) (sym senders)
        (serves-hands run old.outbound (open_at old.outbound.states) (open_at new.outbound.states)
        (calls got old.senders.items) marks hands s)),
    heeds-but-open run old.outbound new.outbound (open_at new.outbound.states) outbound
        (heeds-kept run old.outbound old.outbound (open_at old.outbound.states)
        (open_at new.outbound.states) (λ id there e. e) (λ id. (refl, refl, λ e. e))
        (λ id none.
        none-shown ((open_at new.outbound.states) id) (hands id ∙ ap shown none)) heeds),
  )

  pub holds-after : (got : Out → List OutItem) (old mid new : Sending L In Out Shut)
      (o : Option Frame)
      → HoldsOn got o old mid
      → SameHands (open_at mid.outbound.states) (open_at new.outbound.states)
      → SameButOpen mid.outbound new.outbound → new.senders ≡ mid.senders → HoldsOn got o old new
  holds-after got old mid new None f hands outbound senders = λ run h.
      holds-hands got mid new hands outbound senders run (f run h)
  holds-after got old mid new (Some frame) f hands outbound senders = λ run h.
      holds-hands got mid new hands outbound senders (Written frame ∷ run) (f run h)

  pub fronts-then : (got : Out → List OutItem) (old mid new : Sending L In Out Shut)
      → KeepsFronts got old mid → KeepsFronts got mid new → KeepsFronts got old new
  fronts-then got old mid new f g run all = g run (f run all)

  pub gives-then : {Name : Type 0} (got : Out → List OutItem) (name : Out → Name)
      (old mid new : Sending L In Out Shut)
      → Gives got name old mid → Gives got name mid new → Gives got name old new
  gives-then got name old mid new a b =
      (fronts-then got old mid new a.0 b.0, b.1 ∙ a.1, λ id gave. b.2 id (a.2 id gave))

  -- no frame came, and then this one did, if any
  pub picks-then : (got : Out → List OutItem) (old mid new : Sending L In Out Shut)
      (o : Option Frame)
      → Picks got None old mid → Picks got o mid new → Picks got o old new
  picks-then got old mid new None a b = (
    tt,
    (λ run m. b.1.0 run (a.1.0 run m), b.1.1),
    own-then old.outbound mid.outbound new.outbound a.2 b.2,
    holds-then got old mid new None a.3 b.3,
  )
  picks-then got old mid new (Some frame) a b =
      (b.0, λ run m. b.1 run (a.1.0 run m), tt, holds-then got old mid new (Some frame) a.3 b.3)

  pub picks-none : (got : Out → List OutItem) (s : Sending L In Out Shut) → IsBetween s.outbound
      → Picks got None s s
  picks-none got s between = (tt, (λ run m. m, between), (refl, λ id. refl, refl), λ run h. h)

  -- and the places and what is in hand are the same
  pub picks-after : (got : Out → List OutItem) (old mid new : Sending L In Out Shut)
      (o : Option Frame)
      → Picks got o old mid
      → SameHands (open_at mid.outbound.states) (open_at new.outbound.states)
      → SameButOpen mid.outbound new.outbound → new.senders ≡ mid.senders → Picks got o old new
  picks-after got old mid new None p hands same senders = (
    tt,
    (
      λ run m. mirrors-but-open run mid.outbound new.outbound same (p.1.0 run m),
      between-but-open mid.outbound new.outbound same p.1.1,
    ),
    own-then old.outbound mid.outbound new.outbound p.2
        (own-but-open mid.outbound new.outbound same),
    holds-after got old mid new None p.3 hands same senders,
  )
  picks-after got old mid new (Some frame) p hands same senders = (
    p.0,
    λ run m. (
      (p.1 run m).0,
      mirrors-but-open (Written frame ∷ run) mid.outbound new.outbound same (p.1 run m).1,
    ),
    tt,
    holds-after got old mid new (Some frame) p.3 hands same senders,
  )

  -- what is kept of the open streams is the same
  open-same : (got : Out → List OutItem) (run : List Step) (core : Sending L In Out Shut)
      (after : Outbound)
      → (open_at after.states) ≡ (open_at core.outbound.states) → (marks : List (ℕ × Mark))
      → Serves run after (open_at core.outbound.states) (calls got core.senders.items) marks
      → Heeds run after (open_at core.outbound.states)
      → Holds got run (record core { outbound = after })
  open-same got run core after kept marks s heeds = (
    marks,
    subst (λ (streams : OpenStreams).
        Serves run after streams (calls got core.senders.items) marks) (sym kept) s,
    subst (λ (streams : OpenStreams). Heeds run after streams) (sym kept) heeds,
  )

  -- a frame that is none of an open stream
  own-serves : (got : Out → List OutItem) (core : Sending L In Out Shut)
      (after : Outbound) (frame : Frame)
      → IsOwn frame core.outbound after
      → (run : List Step) → Holds got run core
      → Holds got (Written frame ∷ run) (record core { outbound = after })
  own-serves got core after frame (known, inl plain, kept) run (marks, s, heeds) =
      open-same got (Written frame ∷ run) core after kept (marks ++ [])
      (serves-plain run core.outbound after (open_at core.outbound.states)
      (calls got core.senders.items) marks frame (λ k. (known k).0) plain s)
      (heeds-own run core.outbound after (open_at core.outbound.states)
      (own-ends frame core.outbound after (known, inl plain, kept)) known heeds)
  own-serves got core after frame (known, inr (inl r), kept) run (marks, s, heeds) =
      open-same got (Written frame ∷ run) core after kept
      (marks ++ on_stream r.0 (Reset r.4.0 ∷ []))
      (serves-reset run core.outbound after (open_at core.outbound.states)
      (calls got core.senders.items) marks frame (λ k. (known k).0) r s)
      (heeds-own run core.outbound after (open_at core.outbound.states)
      (own-ends frame core.outbound after (known, inr (inl r), kept)) known heeds)
  own-serves got core after frame (known, inr (inr r), kept) run (marks, s, heeds) =
      open-same got (Written frame ∷ run) core after kept (marks ++ block_marks r.0 r.1 true)
      (serves-refusal run core.outbound after (open_at core.outbound.states)
      (calls got core.senders.items) marks frame (λ k. (known k).0) r s)
      (heeds-own run core.outbound after (open_at core.outbound.states)
      (own-ends frame core.outbound after (known, inr (inr r), kept)) known heeds)

  pub own-holds : (got : Out → List OutItem) (core : Sending L In Out Shut) (after : Outbound)
      (o : Option Frame)
      → OwnOrRests o core.outbound after
      → HoldsOn got o core (record core { outbound = after })
  own-holds got core after (Some frame) own = own-serves got core after frame own
  own-holds got core after None rests = λ run h.
      open-same got run core after rests.same_open h.0
      (serves-rests run core.outbound after (open_at core.outbound.states)
      (calls got core.senders.items) h.0 rests h.1)
      (heeds-own run core.outbound after (open_at core.outbound.states)
      (rests-ends core.outbound after rests) rests.standing h.2)
