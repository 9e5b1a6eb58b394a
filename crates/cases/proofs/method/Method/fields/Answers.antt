use Rattle.cases.proofs.AskedLemmas.{one_millisecond}
use Rattle.cases.proofs.method.Method.fields.Goals as goal

pub request_fields-requires-in-OneMillisecond-clause-timeout :
    goal.request_fields-requires-in-OneMillisecond-clause-timeout
request_fields-requires-in-OneMillisecond-clause-timeout c = one_millisecond
