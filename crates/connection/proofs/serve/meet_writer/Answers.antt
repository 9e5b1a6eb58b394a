use Rattle.std.proofs.Common.{◌∙◌, ap, subst, sym}
use Rattle.callparts.specs.Blocks.{items_of}
use Rattle.readerloop.specs.Calls.{carried_in}
use Rattle.readerloop.specs.Reports.{AreAccounts}
use Rattle.readerloop.specs.Steps.{reported}
use Rattle.connection.specs.Endings.{ended_by}
use Rattle.connection.proofs.Heard.{put-same}
use Rattle.connection.proofs.serve.meet_writer.Goals as goal

pub returns-clause-back : goal.returns-clause-back
returns-clause-back g c = record {
  came = c.meet-calls.ensures.back.came;
  accounts = λ sent told carried rest unput reads.
      subst (λ calls.
      AreAccounts g.M.Answering.known g.M.Answering.names (carried_in sent) told (reported told)
      (items_of calls.full calls.last)) (sym c.meet.ensures.keeps.1)
      (c.meet-calls.ensures.back.accounts sent told carried rest unput reads);
}

pub returns-clause-met : goal.returns-clause-met
returns-clause-met g c =
    let first = c.meet.ensures.obeyed in
    let orders = c.meet-calls.ensures.orders in
    let ends = c.meet.ensures.ends in
    let dropped = ap (λ orders. orders.has_dropped) orders in
    let stopped = ap (λ orders. orders.has_stopped) orders in
    record {
      obeyed = (
        first.0,
        first.1
            ∙ put-same c.args.reader.orders c.meet-calls.result.1
            (ap (λ orders. orders.outbox) orders) (ap (λ orders. orders.backlog) orders),
      );
      output = c.meet.ensures.keeps.0;
      ends = record {
        ending = ends.ending ∙ ap (ended_by c.args.read c.args.written.ending) dropped;
        halted = λ was none. sym dropped ∙ ends.halted (stopped ∙ was) none;
      };
    }
