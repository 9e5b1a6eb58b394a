use Rattle.std.proofs.Common.{false, map, take}
use Rattle.handlers.proofs.uses.whole_call.run.Given as goal

-- the state stands for the messages that were taken, and what was given is the answer to them
abbrev pub invariant-loop-message : goal.invariant-loop-message
invariant-loop-message g l =
    let method = goal.Method-dyn g l.method.now in
    let taken = take l.message-index (map (λ message. message.now) l.messages) in
    method.stands l.method.now.1 l.state taken l.given
    × method.answers l.method.now.1 taken false l.given
