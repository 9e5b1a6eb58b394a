-- What is told on the connection is at most what was heard.
use Rattle.std.proofs.Common.{◌≤◌, ap, arith, ℕ, Bool, List, Option}
use Rattle.std.proofs.lemmas.List.Sums.{sum_by-append}
use Rattle.callparts.specs.declared.report.Ending.{Ending}
use Rattle.h2frame.specs.FrameList.{Entry}
use Rattle.outwriter.specs.Credit.{updated}
use Rattle.outwriter.specs.Steps.{Order}
use Rattle.outwriter.specs.Steps.{Step as RunStep}
use Rattle.outwriter.proofs.CreditGranted.{no-more-than-granted}
use Rattle.session.specs.declared.event.InEvent.{InEvent}
use Rattle.session.specs.Events.{Events}
use Rattle.session.specs.FlowBytes.{counted_by, counted_told, payloads}
use Rattle.session.specs.Framings.{Framed}
use Rattle.session.proofs.FlowTold.{told_within}
use Rattle.readerloop.specs.Reports.{AreHeard}
use Rattle.readerloop.specs.Steps.{Step, events_of}
use Rattle.writerloop.specs.Written.{HasWritten}

-- what was written tells no more than was granted
pub told-within : {W : Type 0} {faultless : Bool} (contents : W → Option (List ℕ))
    (failed : W → Bool) (before : Option (List ℕ)) (credit : ℕ) (orders : List Order)
    (ending : Option Ending) (device : W) (bound : ℕ)
    → (written : HasWritten contents failed before credit orders ending faultless device)
    → credit ≤ bound → updated 0 written.run ≤ bound
told-within contents failed before credit orders ending device bound written within =
    omega (arith, no-more-than-granted 0 written.run written.lawful, written.credited, within)

-- a front of the events tells no more than they
pub by-frames : (end : Ending) (came : List ℕ) (told : List Step) (run : List RunStep)
    (given : List InEvent) (entries : List Entry)
    → AreHeard end came (events_of told) → updated 0 run ≤ counted_told (events_of told)
    → Events came given → Framed came given entries → updated 0 run ≤ payloads entries
by-frames end came told run given entries heard within events framed =
    let front = heard.front given events in
    omega (
      arith,
      within,
      told_within came given entries framed,
      ap counted_told front.1,
      sum_by-append counted_by (events_of told) front.0,
    )
