use Rattle.std.proofs.Common.{refl}
use Rattle.hpack_codec.specs.Huffman.{code_length, code_number, codes_of_length, first_code}
use Rattle.hpack_codec.specs.CodeTable.{is_code_list, each_below}
use Rattle.hpack_codec.proofs.huffman_writing.code_of.Goals as goal

-- the lists are the code, by computation
pub code_by-requires : goal.code_by-requires
unfolding is_code_list each_below code_length code_number codes_of_length first_code
code_by-requires c = refl
