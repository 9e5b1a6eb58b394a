use Rattle.callhead.proofs.PartLemmas.{reads_padded, reads_unpadded}
use Rattle.callhead.proofs.bin.read_part.Goals as goal

pub returns-then-is_padded : goal.returns-then-is_padded
returns-then-is_padded c =
    reads_padded c.args.part.now (c.is_padded.ensures.0 c.if-is_padded.true) c.decode.result
    c.decode.ensures.none c.decode.ensures.some

pub returns-else-is_padded : goal.returns-else-is_padded
returns-else-is_padded c =
    reads_unpadded c.args.part.now
    (λ ends. let yes = c.is_padded.ensures.1 ends in let other = c.if-is_padded.false in cc)
    c.decode-else-is_padded.result c.decode-else-is_padded.ensures.none
    c.decode-else-is_padded.ensures.some
