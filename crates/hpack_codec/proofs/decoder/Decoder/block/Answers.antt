use Rattle.std.proofs.lemmas.Result.{MatchResult-from_both, IfOk-weaker, IfErr-weaker}
use Rattle.hpack_codec.proofs.NoFault.{only_fields, only_memory}
use Rattle.hpack_codec.proofs.OneBlock.{first_answer}
use Rattle.hpack_codec.proofs.decoder.Decoder.block.Goals as goal

pub returns-clause-only : goal.returns-clause-only
returns-clause-only c = λ fields kept reads.
    MatchResult-from_both c.read.result _ _
    (IfOk-weaker c.read.result _ _ (λ read is.
    only_fields c.args.self.now c.read.new.self kept c.args.block.now read.items fields reads is)
    c.read.ensures.ok)
    (IfErr-weaker c.read.result _ _
    (λ fault is. only_memory fault c.args.self.now kept c.args.block.now fields reads is)
    c.read.ensures.err)

pub returns-clause-first : goal.returns-clause-first
returns-clause-first c =
    first_answer _ c.read.result c.args.self.now c.read.new.self c.args.block.now c.read.ensures.ok
    c.read.ensures.err
