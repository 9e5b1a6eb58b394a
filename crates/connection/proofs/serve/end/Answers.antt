use Rattle.std.proofs.Common.{◌≢◌, ◌∙◌, arith, ap, le_trans, sym, subst, Some}
use Rattle.callparts.specs.Blocks.{items_of}
use Rattle.callparts.specs.declared.accounts.Accounts.{Accounts}
use Rattle.callparts.specs.declared.report.Ending.{Ending}
use Rattle.callparts.specs.declared.report.Ending.TheVariants.{WriteFailed}
use Rattle.lane.specs.Ring.{taken}
use Rattle.writerloop.specs.Endings.{ending_told}
use Rattle.connection.proofs.Endings.{Meets, meets, untold}
use Rattle.connection.proofs.Ends.{ended-accounted, ended-served, gave, gave-there}
use Rattle.connection.proofs.Reports.{served-by}
use Rattle.connection.proofs.serve.end.Goals as goal

pub meet_writer-requires-clause-route : goal.meet_writer-requires-clause-route
meet_writer-requires-clause-route g c = λ κs within.
    c.requires.route ∙ ap Some (sym c.join-written.ensures.0)

pub meet_writer-requires-clause-way : goal.meet_writer-requires-clause-way
meet_writer-requires-clause-way g c = λ κs within.
    c.end.ensures.finishes.grows.name ∙ (c.requires.way ∙ sym c.join-written.ensures.1)

pub meet_writer-requires-clause-none_left : goal.meet_writer-requires-clause-none_left
meet_writer-requires-clause-none_left g c = λ κs within. c.end.ensures.finishes.none_left

pub returns : goal.returns
returns g c =
    let known = g.M.Answering.known in
    let names = g.M.Answering.names in
    let contents = g.O.ConnWrite.contents in
    let failed = g.O.ConnWrite.failed in
    let before = contents c.args.writing.promise.device.value in
    let amount = c.join-written.result.announced.amount in
    let written = c.join-written.result.written in
    let took = taken written.orders in
    let sent = c.join-written.ensures.2 in
    let reading = c.args.reader.reading in
    let mid = c.end.new.self.reading in
    let old = c.args.reader.orders in
    let orders = c.end.new.self.orders in
    let is = c.meet_writer.ensures in
    let report = c.meet_writer.result.report in
    let told = ending_told written.ending in
    record {
      served = (
        gave known names (λ (calls : Accounts). items_of calls.full calls.last) contents failed
            reading mid old orders c.end.ensures.finishes.grows c.end.ensures.finishes.ended c.requires.heard before
            amount took written.senders told written.device sent is.back.came is.met.obeyed,
        gave-there known names (λ (calls : Accounts). items_of calls.full calls.last) contents
            failed reading mid old orders c.end.ensures.finishes.grows c.end.ensures.finishes.ended c.requires.heard
            before amount took written.senders told written.device sent is.back.came is.met.obeyed,
        λ came rest read_failed has. (
          served-by known names (λ (calls : Accounts). items_of calls.full calls.last) contents
              failed came rest before read_failed report.ending report.calls written.device
              c.meet_writer.result.output is.met.output
              (ended-served known names
              (λ (calls : Accounts). items_of calls.full calls.last) contents failed reading
              mid old orders c.end.ensures.finishes.grows c.end.ensures.finishes.ended c.requires.heard before
              amount took written.senders told written.device sent is.back.came is.met.obeyed
              c.args.read report.ending report.calls came rest has.told read_failed
              (λ (unbroken : c.args.read ≢ WriteFailed).
              subst (λ (ending : Ending). Meets c.args.read ending told orders.has_dropped)
              (sym is.met.ends.ending) (meets c.args.read written.ending orders.has_dropped unbroken))
              is.back.accounts has.read (omega (arith, c.audit.ensures.within, has.covered.came))
              has.failed has.over
              (λ stopped none. is.met.ends.halted stopped (untold written.ending none))),
          le_trans has.covered.calls
              (ended-accounted known names
              (λ (calls : Accounts). items_of calls.full calls.last) contents failed reading mid
              old orders c.end.ensures.finishes.grows c.end.ensures.finishes.ended c.requires.heard before amount
              took written.senders told written.device sent is.back.came is.met.obeyed
              report.calls has.told is.back.accounts has.read.reads),
        ),
      );
    }
