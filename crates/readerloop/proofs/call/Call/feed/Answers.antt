use Rattle.std.proofs.Common.{sym, ◌∙◌}
use Rattle.readerloop.specs.Halves.{shown}
use Rattle.readerloop.proofs.CallSteps.{call-fed, call-same}
use Rattle.readerloop.proofs.Heard.{err-map, ok-map}
use Rattle.readerloop.proofs.call.Call.feed.Goals as goal

pub returns-clause-heard : goal.returns-clause-heard
returns-clause-heard g c = ok-map c.feed.result (λ taken sent counted told is.
    let call = c.args.self.now in
    call-fed told counted c.args.piece call.id call.method call.number (shown call.half)
    (shown c.feed.new.self) call.finished call.returning c.feed.ensures.there c.feed.ensures.closing
    taken is) c.feed.ensures.taken

pub returns-clause-stays : goal.returns-clause-stays
returns-clause-stays g c = err-map c.feed.result (λ kept sent told is.
    let call = c.args.self.now in
    call-same told call.id call.method call.number (shown call.half) (shown c.feed.new.self)
    call.finished call.returning kept is) c.feed.ensures.kept

pub invariant_of-self-clause-one_lane : goal.invariant_of-self-clause-one_lane
invariant_of-self-clause-one_lane g c = c.args.self.now.one_lane ∙ sym c.feed.ensures.lane
