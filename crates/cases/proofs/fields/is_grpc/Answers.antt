use Rattle.std.proofs.Common.{codes}
use Rattle.callhead.specs.Fields.{first_of}
use Rattle.callhead.proofs.HeadLemmas.{first_begins}
use Rattle.cases.proofs.fields.is_grpc.Goals as goal

pub returns-in-Some : goal.returns-in-Some
returns-in-Some c =
    first_begins (codes "application/grpc") (first_of (codes "content-type") c.args.fields.now)
    c.in-Some.content_type.now c.starts_with.result c.in-Some.ensures c.starts_with.ensures.value
