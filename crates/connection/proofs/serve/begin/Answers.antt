use Rattle.std.proofs.Common.{◌≡◌, ◌≢◌, ◌∙◌, ◌++◌, arith, false, [], ◌∷◌, Some, ap, sym}
use Rattle.callparts.specs.Blocks.{items_of}
use Rattle.callparts.specs.declared.report.Ending.{Ending}
use Rattle.callparts.specs.declared.report.Ending.TheVariants.{Drained, OutOfMemory, WriteFailed}
use Rattle.lane.specs.Ring.{in_name, out_name, taken}
use Rattle.outwriter.specs.declared.control.WriterOrder.TheVariants.{InputEnded}
use Rattle.writerloop.specs.Endings.{ending_told}
use Rattle.writerloop.specs.Orders.{order_in, orders_of}
use Rattle.writerloop.proofs.EndSteps.{told-on}
use Rattle.connection.specs.Puts.{put_of, put_orders}
use Rattle.connection.specs.Served.{is_drained}
use Rattle.connection.proofs.Endings.{lacked-by}
use Rattle.connection.proofs.Heard.{closed-put}
use Rattle.connection.proofs.HeardBytes.{kept-none, ordered-none}
use Rattle.connection.proofs.Reports.{drained-is, none-served, served-by, unbegun}
use Rattle.connection.proofs.Serving.{given-first}
use Rattle.connection.proofs.serve.begin.Goals as goal

some-is : {one other : Ending} → Some one ≡ Some other → one ≡ other
some-is same = cc

not-both : (one : Ending) → one ≡ OutOfMemory → one ≡ WriteFailed → ⊥
not-both one lacked broke = cc

not-drained : (one : Ending) → one ≡ OutOfMemory → one ≡ Drained → ⊥
not-drained one lacked drained = cc

spare : {P : Type 0} (one : Ending) → one ≡ OutOfMemory → (Some one ≢ Some OutOfMemory) → P
spare one lacked other = absurd (other (ap Some lacked))

pub returns-in-Ok-start-clause-begun : goal.returns-in-Ok-start-clause-begun
returns-in-Ok-start-clause-begun g c =
    let begun = c.in-Ok-start.ensures.begun in
    let rings = c.requires.rings.1 in
    let handle = c.requires.handle in
    let orders = c.new-in-Ok-start.ensures.orders ∙ begun.3 in
    record {
      kept = λ sent.
          kept-none sent _ _ (c.new-in-Ok-start.ensures.reads sent)
          (ap put_of orders ∙ c.new-orders.ensures.put rings.unput.0)
          (ap (λ orders. orders.unput) orders ∙ c.new-orders.ensures.unput);
      none_home = ap taken c.new-in-Ok-start.ensures.home ∙ rings.unsent.1;
      uncounted = (
        c.new-intake.ensures.calls ∙ handle.calls.2,
        c.new-intake.ensures.came ∙ handle.came.2,
      );
      unasked = c.new-in-Ok-start.ensures.unasked;
      device = begun.2;
      orders = c.requires.rings.0 ∙ ap Some (rings.orders ∙ sym (ap out_name begun.0));
      way =
          ap out_name c.new-in-Ok-start.ensures.home
          ∙ (sym rings.senders ∙ sym (ap in_name begun.1));
    }

pub returns-in_default-clause-served : goal.returns-in_default-clause-served
returns-in_default-clause-served g c = λ rest read_failed.
    let is = c.unserved.ensures in
    unbegun _ _ (λ calls. items_of calls.full calls.last) g.O.ConnWrite.contents
    g.O.ConnWrite.failed rest read_failed c.unserved.result.report.ending
    c.unserved.result.report.calls c.args.output c.unserved.result.output
    is.ending is.output is.calls

pub returns-in-Err-clause-served : goal.returns-in-Err-clause-served
returns-in-Err-clause-served g c = λ rest read_failed.
    let contents = g.O.ConnWrite.contents in
    let failed = g.O.ConnWrite.failed in
    let is = c.meet.ensures in
    let parted = c.in-Err.field-0 in
    let written = parted.written in
    let sent = c.in-Err.ensures.sent in
    let lacked : c.meet.result.report.ending ≡ OutOfMemory =
    is.ends.ending ∙ lacked-by written.ending c.start.new.orders.has_dropped in
    let left = orders_of (order_in written.senders.aside) ++ orders_of is.obeyed.0 in
    let all : put_orders c.start.new.orders ≡ orders_of sent.given ++ left =
    given-first sent.given (order_in written.senders.aside) (taken written.orders) is.obeyed.0
    (put_of c.start.new.orders) sent.orders_are is.obeyed.1 in
    let put =
    told-on contents failed (contents c.args.output) parted.announced.amount (orders_of sent.given)
    (put_orders c.start.new.orders) (ending_told written.ending)
    (Some c.meet.result.report.ending) false
    (is_drained c.meet.result.report.ending) written.device
    (λ was. ap Some lacked) (λ broke other. spare c.meet.result.report.ending lacked other)
    (λ marked. absurd (not-both c.meet.result.report.ending lacked (some-is marked)))
    left (sym all) (λ other broke. spare c.meet.result.report.ending lacked other)
    sent.written (λ drained.
    absurd (not-drained c.meet.result.report.ending lacked
    (drained-is c.meet.result.report.ending drained))) in
    let ordered = closed-put (InputEnded ∷ []) c.start.new.orders
    (c.in-Err.ensures.closed.1 (ordered-none c.new-orders.result
    (c.new-orders.ensures.put c.requires.rings.1.unput.0) c.new-orders.ensures.unput)) in
    served-by _ _ (λ calls. items_of calls.full calls.last) contents failed _ rest _
    _ _ _ _ _ is.keeps.0
    (none-served _ _ (λ calls. items_of calls.full calls.last) contents failed rest
    (contents c.args.output) _ _ c.meet.result.report.ending _
    c.meet.result.report.calls written.device lacked
    (ap (λ calls. items_of calls.full calls.last) is.keeps.1 ∙ c.new-calls.ensures) ordered
    (omega (arith, c.audit.ensures.within, c.new-intake.ensures.came, c.requires.handle.came.2)) put)
