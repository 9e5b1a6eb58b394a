use Rattle.readerloop.proofs.Collecting.{next-calls, same-items, same-room}
use Rattle.readerloop.proofs.Heard.{err-any, err-map, ok-map}
use Rattle.readerloop.proofs.KeptCalls.{kept-same}
use Rattle.readerloop.proofs.Starting.{next-again, same-rest}
use Rattle.readerloop.proofs.reading.Reading.start.Goals as goal

pub start_in_room-requires-clause-next : goal.start_in_room-requires-clause-next
start_in_room-requires-clause-next g c =
    let done = c.reserve.ensures in
    next-calls c.args.self.now.calls c.reserve.new.self c.args.self.now.is_draining done.last
    (same-room _ _ done.accounts) c.args.request.id c.requires.next

pub returns-clause-heard : goal.returns-clause-heard
returns-clause-heard g c =
    let done = c.reserve.ensures in
    ok-map c.start_in_room.result (λ heard sent told going kept.
    heard sent told going (kept-same told c.args.self.now.calls c.reserve.new.self done.calls
    (same-items _ _ done.accounts) done.last kept)) c.start_in_room.ensures.heard

pub returns-clause-kept : goal.returns-clause-kept
returns-clause-kept g c =
    let done = c.reserve.ensures in
    err-map c.start_in_room.result (λ same sent told kept.
    rw same (kept-same told c.args.self.now.calls c.reserve.new.self done.calls
    (same-items _ _ done.accounts) done.last kept)) c.start_in_room.ensures.calls

pub returns-clause-next : goal.returns-clause-next
returns-clause-next g c =
    let done = c.reserve.ensures in
    err-map c.start_in_room.result (λ same.
    next-again c.args.self.now c.start_in_room.new.self c.reserve.new.self done.last
    (same-room _ _ done.accounts) same c.start_in_room.ensures.rest.draining)
    c.start_in_room.ensures.calls

pub returns-clause-rest : goal.returns-clause-rest
returns-clause-rest g c =
    let rest = c.start_in_room.ensures.rest in
    same-rest _ _ rest.draining rest.last rest.begun rest.goaway rest.home

pub returns-in_err-reserve-clause-kept : goal.returns-in_err-reserve-clause-kept
returns-in_err-reserve-clause-kept g c = err-any c.from_residual.result _ (λ sent told kept.
    let done = c.reserve.ensures in
    kept-same told c.args.self.now.calls c.reserve.new.self done.calls
    (same-items _ _ done.accounts) done.last kept)

pub returns-in_err-reserve-clause-next : goal.returns-in_err-reserve-clause-next
returns-in_err-reserve-clause-next g c = err-any c.from_residual.result _ (
    let done = c.reserve.ensures in
    next-calls c.args.self.now.calls c.reserve.new.self c.args.self.now.is_draining done.last
    (same-room _ _ done.accounts))
