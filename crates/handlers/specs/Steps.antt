-- Replies and a status, and how they are joined.
use Rattle.std.specs.Prelude.{List, [], ◌++◌, Option, Some, None}
use Rattle.handlers.specs.declared.status.Status.{Status}
use Rattle.handlers.specs.declared.reply.Reply.{Reply}
use Rattle.handlers.specs.declared.step.MethodStep.{MethodStep}
use Rattle.handlers.specs.Statuses.{ok_status}

abbrev pub nothing : MethodStep
nothing = record { replies = []; ends = None }

-- replies, and nothing more for now
abbrev pub replying : List Reply → MethodStep
replying replies = record { replies = replies; ends = None }

abbrev pub ending : List Reply → Status → MethodStep
ending replies status = record { replies = replies; ends = Some status }

abbrev pub done : List Reply → MethodStep
done replies = ending replies ok_status

abbrev pub status_or_ok : Option Status → Status
status_or_ok None = ok_status
status_or_ok (Some status) = status

-- at the end an answer has a status: the one that there is, or OK
abbrev pub finished : MethodStep → MethodStep
finished step = ending step.replies (status_or_ok step.ends)

-- the first status stays
abbrev pub first_status : Option Status → Option Status → Option Status
first_status None later = later
first_status (Some status) later = Some status

-- what was given, and what a step gives more
abbrev pub joined : MethodStep → MethodStep → MethodStep
joined given more =
    record { replies = given.replies ++ more.replies; ends = first_status given.ends more.ends }
