-- Which sender is given back.
use Rattle.std.specs.Prelude.{
  ◌≡◌,
  ◌≢◌,
  ◌⊎◌,
  ◌<◌,
  ℕ,
  All,
  true,
  false,
  List,
  Option,
  None,
  Some,
  length,
  get_or,
}
use Rattle.std.specs.List.{swap_remove}
use Rattle.account.specs.declared.call.OutItem.{OutItem}
use Rattle.callbox.specs.declared.sender.Sender.{Sender}
use Rattle.outwriter.specs.declared.blocks.HeaderBlock.{HeaderBlock}
use Rattle.outwriter.specs.declared.out_core.OutCore.{OutCore}
use Rattle.outwriter.specs.Calls.{is_served}
use Rattle.outwriter.specs.Cores.{Leads, open_stream}
use Rattle.outwriter.specs.Histories.{is_stream, is_over, was_reset}
use Rattle.outwriter.specs.Steps.{Step}
use Rattle.outwriter.specs.OpenStreams.{OpenStreams, PlaceIs}

-- the header block that was begun is none of this stream's
abbrev pub IsWhole : ℕ → Option HeaderBlock → Type 0
IsWhole id None = Unit {0}
IsWhole id (Some block) = block.id ≢ id

module _ {L In Out Shut : Type 0} where
  -- a stream isn't open, and no header block of it is unfinished
  abbrev pub IsThrough : ℕ → OutCore L In Out Shut → Type 0
  IsThrough id core = (open_stream core id ≡ None) × IsWhole id core.sending.outbound.block

  -- no sender of this stream is kept
  abbrev pub HasNone : ℕ → List (ℕ × Sender L In Out Shut) → Type 0
  HasNone id senders = All (λ call. call.0 ≢ id) senders

  -- none of the senders before a place is of this stream
  abbrev pub HasNoneBelow : ℕ → ℕ → List (ℕ × Sender L In Out Shut) → Type 0
  HasNoneBelow n id senders =
      (k : ℕ) (d : ℕ × Sender L In Out Shut) → k < n → k < length senders
      → (get_or senders k d).0 ≢ id

  -- a sender of this stream is at a place
  abbrev pub IsAt : ℕ → ℕ → List (ℕ × Sender L In Out Shut) → Type 0
  IsAt id place senders =
      (place < length senders) × ((d : ℕ × Sender L In Out Shut) → (get_or senders place d).0 ≡ id)

  -- the sender that was last is at this place now, if any is
  abbrev pub MovedTo : ℕ → List (ℕ × Sender L In Out Shut) → OpenStreams → OpenStreams → Type 0
  MovedTo place senders streams left =
      ((moved : ℕ × Sender L In Out Shut) × (moved ≡ get_or senders place moved)
      × PlaceIs moved.0 (length senders) place streams left)
      ⊎ ((left ≡ streams) × (place < length senders → ⊥))

  -- the first sender of a stream is taken out, and the last takes its place
  abbrev pub Releases : ℕ → Sender L In Out Shut → List (ℕ × Sender L In Out Shut)
      → List (ℕ × Sender L In Out Shut) → Type 0
  Releases id sender old new =
      (place : ℕ) × (place < length old) × ((id, sender) ≡ get_or old place (id, sender))
      × (new ≡ swap_remove old place (id, sender)) × HasNoneBelow place id old

  -- the end of a call's stream was written, or a Reset of it was taken
  abbrev pub HasEnded : (Out → List OutItem) → ℕ → OutCore L In Out Shut → Type 0
  HasEnded got id core =
      (run : List Step) → Leads got run core → core.is_dead ≡ false → is_stream id ≡ true
      → is_served id run ≡ true
      → (is_over id run ≡ true) ⊎ (was_reset id run ≡ true)
