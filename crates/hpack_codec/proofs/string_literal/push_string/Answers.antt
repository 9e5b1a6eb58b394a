use Rattle.std.proofs.lemmas.Result.{on_ok_weaker}
use Rattle.hpack_codec.proofs.Strings.{wrote_huffman}
use Rattle.hpack_codec.proofs.string_literal.push_string.Goals as goal

pub returns-then-len-octets : goal.returns-then-len-octets
returns-then-len-octets c =
    on_ok_weaker c.push_text.result
    (wrote_huffman _ _ _ c.args.octets.now c.text_len-len.result c.text_len-len.ensures
    c.in_ok-push_integer.ensures)
    c.push_text.ensures
