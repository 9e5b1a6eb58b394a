-- What callers see of a writer's core: which runs lead to it, and where no frame comes from it.
use Rattle.std.specs.Prelude.{
  ◌≡◌,
  ◌⊎◌,
  ℕ,
  Bool,
  true,
  false,
  All,
  List,
  [],
  ◌∷◌,
  ◌++◌,
  map,
  get_or,
  Option,
  None,
  Some,
  Result,
  Ok,
  Err,
}
use Rattle.account.specs.declared.call.OutItem.{OutItem}
use Rattle.callbox.specs.declared.sender.Sender.{Sender}
use Rattle.sendwindows.specs.Windows.{room}
use Rattle.reasons.specs.declared.Reason.{Reason}
use Rattle.outwriter.specs.States.{open_at, pays}
use Rattle.outwriter.specs.declared.control.WriterOrder.{WriterOrder}
use Rattle.outwriter.specs.declared.control.WriterOrder.TheVariants.{Open, Goaway}
use Rattle.outwriter.specs.declared.control.OutFault.{OutFault}
use Rattle.outwriter.specs.declared.control.OutFault.TheVariants.{OutOfMemory, PeerWindow}
use Rattle.outwriter.specs.declared.next.Next.{Next}
use Rattle.outwriter.specs.declared.next.Next.TheVariants as next
use Rattle.outwriter.specs.declared.out_core.OutCore.{OutCore}
use Rattle.outwriter.specs.declared.outbound.Outbound.{Outbound}
use Rattle.outwriter.specs.declared.sending.Sending.{Sending}
use Rattle.outwriter.specs.declared.stream.OpenStream.{OpenStream}
use Rattle.outwriter.specs.Calls.{
  TellEnds,
  TellFronts,
  TellReturned,
  TellOthers,
  is_closed,
  is_served,
}
use Rattle.outwriter.specs.Drains.{IsUnsaid}
use Rattle.outwriter.specs.Frames.{goaway_frame}
use Rattle.outwriter.specs.Histories.{is_stream, is_over, was_reset}
use Rattle.outwriter.specs.OpenStreams.{OpenStreams}
use Rattle.outwriter.specs.RunState.{IsAnswered}
use Rattle.outwriter.specs.Runs.{IsLawful, MayWrite}
use Rattle.outwriter.specs.CallState.{Kept}
use Rattle.outwriter.specs.Steps.{Step, Taken, Written, order_of}

-- a stream is stuck: nothing is ahead of its sender, or what is in hand has no room
abbrev pub IsStuck : ℕ → Option (List ℕ) → List OutItem → Type 0
IsStuck room_now None ahead = ahead ≡ []
IsStuck room_now (Some bytes) ahead = room_now ≡ 0

-- each open stream is stuck, if this is ahead of the senders
abbrev pub AreStuck : Outbound → OpenStreams → List (List OutItem) → Type 0
AreStuck o streams aheads = (id : ℕ) (stream : OpenStream) → streams id ≡ Some stream
    → IsStuck (room o.states.windows id) stream.in_hand (get_or aheads stream.place [])

module _ {L In Out Shut : Type 0} where
  -- what is kept of a stream, if it is open
  abbrev pub open_stream : OutCore L In Out Shut → ℕ → Option OpenStream
  open_stream core id = (open_at core.sending.outbound.states) id

  -- credit that is granted on a stream counts (RFC 9113, section 6.9): it is the stream of a call
  -- that wasn't reset, or the connection, stream 0
  abbrev pub takes_credit : OutCore L In Out Shut → ℕ → Bool
  takes_credit core id = pays core.sending.outbound.states id

  -- each call's stream, with the items that its sender gave, in the order of the Opens
  abbrev pub calls : (Out → List OutItem) → List (ℕ × Sender L In Out Shut)
      → List (ℕ × List OutItem)
  calls got senders = map (λ call. (call.0, got call.1.rx)) senders

  -- each call's stream, the number that its sender has, and the sender's lane
  abbrev pub lanes : {Name : Type 0} → (Out → Name) → List (ℕ × Sender L In Out Shut)
      → List (ℕ × ℕ × Name)
  lanes name senders = map (λ call. (call.0, call.1.id, name call.1.rx)) senders

  -- the sender that an Open brings comes after the others; nothing else changes them
  abbrev pub Brings : Result (Unit {0}) (OutFault (Sender L In Out Shut))
      → WriterOrder (Sender L In Out Shut) → List (ℕ × Sender L In Out Shut)
      → List (ℕ × Sender L In Out Shut) → Type 0
  Brings (Ok done) (Open id sender) old new = new ≡ old ++ (id, sender) ∷ []
  Brings (Ok done) _ old new = new ≡ old
  Brings (Err fault) control old new = new ≡ old

  -- ---- the runs that lead to a core

  -- all that is kept follows from the run
  abbrev pub Keeps : (Out → List OutItem) → List Step → Sending L In Out Shut → Type 0
  Keeps got run s = Kept run s.outbound (calls got s.senders.items)

  -- a dead core that may still say a last word may write any GOAWAY after this run
  abbrev pub Parts : List Step → OutCore L In Out Shut → Type 0
  Parts run core = core.is_dead ≡ true → core.may_part ≡ true
      → (last : ℕ) (reason : Reason)
      → MayWrite (Taken (Goaway last reason) ∷ run) (goaway_frame last reason)

  -- This run leads to the core. Each of its frames was lawful. What was written of each call is a
  -- front of what its sender gave, also where the sender was given back, and on other streams there
  -- is only what they may have. As long as the core lives, all that it keeps follows from the run.
  pub record Leads (got : Out → List OutItem) (run : List Step)
      (core : OutCore L In Out Shut) : Type 0 where
    pub lawful : IsLawful run
    pub fronts : TellFronts run (calls got core.sending.senders.items)
    pub returned : TellReturned run
    pub others : TellOthers run
    pub closed : is_closed run ≡ core.closed
    pub parts : Parts run core
    pub unsaid : core.is_dead ≡ false → IsUnsaid run core.is_leaving core.has_probed core.has_failed
    pub keeps : core.is_dead ≡ false → Keeps got run core.sending

  -- whatever run led to the core before leads to the core after, with this step or alone
  abbrev pub LeadsOn : (Out → List OutItem) → Step → OutCore L In Out Shut
      → OutCore L In Out Shut → Type 0
  LeadsOn got step old new = (run : List Step) → Leads got run old → Leads got (step ∷ run) new

  abbrev pub LeadsStill : (Out → List OutItem) → OutCore L In Out Shut
      → OutCore L In Out Shut → Type 0
  LeadsStill got old new = (run : List Step) → Leads got run old → Leads got run new

  -- the sender of an Open gave nothing before
  abbrev pub IsUnused : (Out → List OutItem) → WriterOrder (Sender L In Out Shut) → Type 0
  IsUnused got (Open id sender) = got sender.rx ≡ []
  IsUnused got _ = Unit {0}

  -- a control that is taken is the next step; where it is handed back, there is none
  abbrev pub LeadsControl : (Out → List OutItem)
      → Result (Unit {0}) (OutFault (Sender L In Out Shut)) → WriterOrder (Sender L In Out Shut)
      → OutCore L In Out Shut → OutCore L In Out Shut → Type 0
  LeadsControl got (Ok done) control old new =
      IsUnused got control → LeadsOn got (Taken (order_of control)) old new
  LeadsControl got (Err (PeerWindow id)) control old new =
      LeadsOn got (Taken (order_of control)) old new
  LeadsControl got (Err (OutOfMemory back)) control old new =
      (back ≡ Some control) × LeadsStill got old new

  -- a frame is the next step
  abbrev pub LeadsNext : (Out → List OutItem) → Result Next (OutFault (Sender L In Out Shut))
      → OutCore L In Out Shut → OutCore L In Out Shut → Type 0
  LeadsNext got (Ok (next.Frame frame)) old new = LeadsOn got (Written frame) old new
  LeadsNext got (Ok next.Idle) old new = LeadsStill got old new
  LeadsNext got (Ok next.Over) old new = LeadsStill got old new
  LeadsNext got (Err fault) old new = LeadsStill got old new

  -- ---- where no frame comes

  -- The last frame was a GOAWAY with an error, or each open stream is stuck: nothing is ahead of
  -- its sender, or what is in hand has no room.
  abbrev pub IsQuiet : (Out → List OutItem) → Sending L In Out Shut → Type 0
  IsQuiet ahead s =
      (s.outbound.gone ≡ true)
      ⊎ AreStuck s.outbound (open_at s.outbound.states)
      (map (λ call. ahead call.1.rx) s.senders.items)

  -- A call whose stream was opened once and not refused before has no frame: its end was written,
  -- or it was reset; or its stream is stuck, since nothing is ahead of its sender, or what is in
  -- hand has no room.
  pub data HasNoFrame (run : List Step) (core : OutCore L In Out Shut) (id : ℕ)
      (ahead : List OutItem) : Type 0 where
    Ended : is_over id run ≡ true → HasNoFrame run core id ahead
    WasReset : was_reset id run ≡ true → HasNoFrame run core id ahead
    Stuck : (stream : OpenStream) → open_stream core id ≡ Some stream
        → IsStuck (room core.sending.outbound.states.windows id) stream.in_hand ahead
        → HasNoFrame run core id ahead

  -- no call has a frame, unless the last frame was a GOAWAY with an error
  abbrev pub HaveNoFrame : (Out → List OutItem) → List Step → OutCore L In Out Shut → Type 0
  HaveNoFrame ahead run core = (core.sending.outbound.gone ≡ true)
      ⊎ All (λ call.
      is_served call.0 run ≡ true → is_stream call.0 ≡ true
      → HasNoFrame run core call.0 (ahead call.1.rx)) core.sending.senders.items

  -- All that controls asked for was written, with each header block whole, and no credit is owed.
  -- Nothing can be written on an open stream, so each call has ended, was reset, or has nothing
  -- that can be written now. The end of each stream that was called off was written. After a GOAWAY
  -- with an error none of this is needed.
  pub record IsAtRest (ahead : Out → List OutItem) (run : List Step)
      (core : OutCore L In Out Shut) : Type 0 where
    pub answered : IsAnswered run
    pub quiet : IsQuiet ahead core.sending
    pub no_frame : HaveNoFrame ahead run core
    pub ended : (core.sending.outbound.gone ≡ true) ⊎ TellEnds run

  -- nothing more comes where a Close was taken, and nothing comes now where none was; an InputEnded
  -- is no Close
  abbrev pub RestsNext : (Out → List OutItem) → List Step → Next → OutCore L In Out Shut → Type 0
  RestsNext ahead run (next.Frame frame) core = Unit {0}
  RestsNext ahead run next.Idle core = IsAtRest ahead run core × (is_closed run ≡ false)
  RestsNext ahead run next.Over core = IsAtRest ahead run core × (is_closed run ≡ true)
