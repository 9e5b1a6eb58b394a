use Rattle.std.proofs.Common.{length, map}
use Rattle.pbwire.specs.Fields.{field_of, StartsWithFields}
use Rattle.pbwire.proofs.all_fields.read_fields.Given as goal

-- the message is the fields so far, and then what is unread
abbrev pub invariant-loop-answer : goal.invariant-loop-answer
invariant-loop-answer l = StartsWithFields l.bytes (map field_of l.fields.items) l.unread

abbrev pub decreases-loop-answer : goal.decreases-loop-answer
decreases-loop-answer l = length l.unread
