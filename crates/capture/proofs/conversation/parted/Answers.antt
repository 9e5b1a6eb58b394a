use Rattle.std.proofs.Common.{sym}
use Rattle.std.proofs.lemmas.List.{take_all, drop_all}
use Rattle.capture.proofs.conversation.parted.Goals as goal

pub returns-then-bytes-le-MOST_PAYLOAD-clause-front :
    goal.returns-then-bytes-le-MOST_PAYLOAD-clause-front
returns-then-bytes-le-MOST_PAYLOAD-clause-front c =
    sym (take_all 65000 c.args.bytes.now c.if-bytes-le-MOST_PAYLOAD.true)

pub returns-then-bytes-le-MOST_PAYLOAD-clause-behind :
    goal.returns-then-bytes-le-MOST_PAYLOAD-clause-behind
returns-then-bytes-le-MOST_PAYLOAD-clause-behind c =
    sym (drop_all 65000 c.args.bytes.now c.if-bytes-le-MOST_PAYLOAD.true)
