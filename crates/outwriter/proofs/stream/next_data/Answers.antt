use Rattle.std.proofs.Common.{arith}
use Rattle.outwriter.proofs.DataSteps.{data-cut}
use Rattle.outwriter.proofs.stream.next_data.Goals as goal

pub returns : goal.returns
returns c =
    data-cut c.args.id c.spend_up_to-len.result c.args.window.now c.spend_up_to-len.new.window
    c.args.balance.now c.spend_up_to-len.new.balance c.args.message.now c.in_ok-piece.piece
    c.split_to.new.self c.make_data.result c.in_ok-piece.ensures.front c.in_ok-piece.ensures.rest
    (omega arith) (omega arith) (omega arith) c.make_data.ensures c.spend_up_to-len.ensures.spends
