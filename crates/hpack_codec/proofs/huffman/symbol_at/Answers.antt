use Rattle.std.proofs.Common.{refl}
use Rattle.hpack_codec.specs.Huffman.{code_length, code_number, codes_of_length, first_code}
use Rattle.hpack_codec.specs.CodeTable.{is_code_table, each_below}
use Rattle.hpack_codec.proofs.huffman.symbol_at.Goals as goal

-- the tables are the code, by computation
pub symbol_by-requires-clause-table : goal.symbol_by-requires-clause-table
unfolding is_code_table each_below code_length code_number codes_of_length first_code
symbol_by-requires-clause-table c = refl
