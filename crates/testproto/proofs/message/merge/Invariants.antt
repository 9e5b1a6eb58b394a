use Rattle.std.proofs.Common.{List, ◌++◌, length}
use Rattle.std.specs.List.{AllByRecursion}
use Rattle.pbwire.specs.Fields.{Field, StartsWithFields}
use Rattle.testproto.proofs.message.merge.Given as goal

-- the fields so far are accepted, and the message has them
abbrev pub invariant-loop-answer : goal.invariant-loop-answer
invariant-loop-answer g l =
    let message = g.M.Message in
    (read : List Field) × StartsWithFields l.bytes read l.fields
    × AllByRecursion message.accepts read
    × ((before : List Field) → message.is_value before l.initial.message
    → message.is_value (before ++ read) l.message)

abbrev pub decreases-loop-answer : goal.decreases-loop-answer
decreases-loop-answer g l = length l.fields
