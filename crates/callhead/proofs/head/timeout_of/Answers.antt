use Rattle.std.proofs.Common.{codes}
use Rattle.callhead.specs.Fields.{first_of}
use Rattle.callhead.proofs.HeadLemmas.{no_timeout}
use Rattle.callhead.proofs.head.timeout_of.Goals as goal

pub returns-in_err-read_timeout-in-Some-clause-only :
    goal.returns-in_err-read_timeout-in-Some-clause-only
returns-in_err-read_timeout-in-Some-clause-only c = λ timeout has.
    absurd (no_timeout (first_of (codes "grpc-timeout") c.args.fields.now)
    c.in-Some.text.now c.in-Some.ensures
    (λ n is. let e = c.in_err-read_timeout-in-Some.ensures.only n is in cc) timeout has)
