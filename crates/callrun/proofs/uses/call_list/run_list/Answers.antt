use Rattle.std.proofs.Common.{◌<◌, length, rules, true, false}
use Rattle.lane.specs.End.{of_end}
use Rattle.handlers.specs.Listed.{listed}
use Rattle.callrun.specs.Listings.{HadTurns, IsUntouched}
use Rattle.callrun.proofs.Listing.{
  first_of,
  none_left,
  none_more,
  none_yet,
  one_more,
  rest_of,
  still_run,
}
use Rattle.callrun.proofs.Taking.{if_more}
use Rattle.callrun.proofs.Turns.{all_push, counts_none, counts_push}
use Rattle.callrun.proofs.uses.call_list.run_list.Goals as goal

pub loop-call-init : goal.loop-call-init
loop-call-init g c = record {
  run = none_yet _ _ _ c.in_ok-ended.ensures.items;
  turns = counts_none _ _ _ c.in_ok-ended.ensures.items;
  lefts = counts_none _ _ _ c.in_ok-ended.ensures.items;
  had = search (rules, c.in_ok-ended.ensures.items);
  index = c.requires.index;
  untouched = c.requires.untouched;
}

pub run_call-requires-clause-index : goal.run_call-requires-clause-index
run_call-requires-clause-index g c κs within =
    first_of c.in-Some.call _ _ (λ call. call.index < length (listed c.args.methods.now))
    c.in-Some.ensures.items c.loop-call.invariant.index

pub run_call-requires-clause-untouched : goal.run_call-requires-clause-untouched
run_call-requires-clause-untouched g c κs within =
    first_of c.in-Some.call _ _ (λ call.
    IsUntouched (g.I.Lane.got call.taker.rx) call.taker.progress (g.O.Lane.put_in call.giver.tx))
    c.in-Some.ensures.items c.loop-call.invariant.untouched

pub loop-call-preserved : goal.loop-call-preserved
loop-call-preserved g c = record {
  run = one_more _ _ _ _ _ _ _ c.in-Some.call c.run_call.result
      (λ call end holds. (
        if_more _ _ _ (λ method run.
            still_run _ _ _ _ _ _ _ _ _ c.run_call.ensures.stays run) holds.0,
        holds.1,
        holds.2,
      ))
      c.in-Some.ensures.items c.in_ok-push.ensures.items c.loop-call.invariant.run
      (c.run_call.ensures.run, c.run_call.ensures.in_name, c.run_call.ensures.name);
  turns =
      counts_push _ _ _ _ _ _ _ c.in_ok-push.ensures.items c.loop-call.invariant.turns
      c.run_call.ensures.turns;
  lefts =
      counts_push _ _ _ _ _ _ _ c.in_ok-push.ensures.items c.loop-call.invariant.lefts
      c.run_call.ensures.lefts;
  had =
      all_push (λ end.
      HadTurns c.args.turns end.turns end.why (of_end (λ giver. false) (λ s. true) end.end)
      end.ran_out g.O.Lane.MayMiss) _ _ _ c.in_ok-push.ensures.items c.loop-call.invariant.had
      c.run_call.ensures.had;
  index =
      rest_of c.in-Some.call _ _ (λ call. call.index < length (listed c.args.methods.now))
      c.in-Some.ensures.items c.loop-call.invariant.index;
  untouched =
      rest_of c.in-Some.call _ _ (λ call.
      IsUntouched (g.I.Lane.got call.taker.rx) call.taker.progress (g.O.Lane.put_in call.giver.tx))
      c.in-Some.ensures.items c.loop-call.invariant.untouched;
}

pub returns-clause-run : goal.returns-clause-run
returns-clause-run g c =
    none_more _ _ _ _ _ (λ call end holds. holds.0)
    (none_left _ _ c.in_default.ensures.items c.in_default.ensures.rest) c.loop-call.invariant.run

pub returns-clause-in_names : goal.returns-clause-in_names
returns-clause-in_names g c =
    none_more _ _ _ _ _ (λ call end holds. holds.1)
    (none_left _ _ c.in_default.ensures.items c.in_default.ensures.rest) c.loop-call.invariant.run

pub returns-clause-names : goal.returns-clause-names
returns-clause-names g c =
    none_more _ _ _ _ _ (λ call end holds. holds.2)
    (none_left _ _ c.in_default.ensures.items c.in_default.ensures.rest) c.loop-call.invariant.run
