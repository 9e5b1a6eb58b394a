use Rattle.hpack_codec.proofs.CodeTables.{code_listed}
use Rattle.hpack_codec.proofs.huffman_writing.code_by.Goals as goal

pub bounds-numbers-place : goal.bounds-numbers-place
bounds-numbers-place c = (code_listed _ _ c.args.octet c.requires c.ranges.octet.fits).in_numbers

pub bounds-lengths-place : goal.bounds-lengths-place
bounds-lengths-place c = (code_listed _ _ c.args.octet c.requires c.ranges.octet.fits).in_lengths

pub returns-clause-number : goal.returns-clause-number
returns-clause-number c =
    (code_listed c.args.numbers.now c.args.lengths.now c.args.octet c.requires
    c.ranges.octet.fits).number

pub returns-clause-len : goal.returns-clause-len
returns-clause-len c =
    (code_listed c.args.numbers.now c.args.lengths.now c.args.octet c.requires
    c.ranges.octet.fits).len
