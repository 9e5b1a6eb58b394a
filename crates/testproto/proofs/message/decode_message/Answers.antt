use Rattle.std.proofs.Common.{[], rules}
use Rattle.std.proofs.lemmas.Result.{err_from_is_err_and}
use Rattle.testproto.specs.Unique.{one_value_of}
use Rattle.testproto.proofs.Faults.{only_memory}
use Rattle.testproto.proofs.message.decode_message.Goals as goal

-- The laws of a trait with a lifetime are asked for at the call's lifetimes, and by what the call
-- knows of them.
pub returns-in_err-merge-clause-every_value : goal.returns-in_err-merge-clause-every_value
returns-in_err-merge-clause-every_value g c =
    let message = g.M.Message in
    let laws = g.met.M.Message c.lifetimes (search rules) in
    let p = err_from_is_err_and c.from_residual.result c.from_residual.ensures.1 in
    λ value is.
    rw (p.1, p.2) (only_memory message.accepts message.refuses message.is_value laws.apart
    c.args.bytes.now value _ c.in_err-merge.ensures.err is)

pub returns-clause-every_value : goal.returns-clause-every_value
returns-clause-every_value g c value is =
    let message = g.M.Message in
    let laws = g.met.M.Message c.lifetimes (search rules) in
    let added = c.in_ok-merge.ensures.ok in
    one_value_of message.accepts message.is_value laws.one_value c.args.bytes.now
    c.merge.new.message value (added.0, added.1, added.2, added.3 [] c.empty-message.ensures) is
