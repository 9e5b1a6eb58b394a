use Rattle.testproto.proofs.Writing.{kept_append, kept_trans}
use Rattle.testproto.proofs.schema.put_parameters.Goals as goal

pub returns-in_err-put_one-clause-kept : goal.returns-in_err-put_one-clause-kept
returns-in_err-put_one-clause-kept c =
    kept_trans c.args.out.now.items c.loop-parameters.out.items c.put_one.new.out.items
    (kept_append c.args.out.now.items c.loop-parameters.out.items _ c.loop-parameters.invariant)
    c.put_one.ensures.kept
