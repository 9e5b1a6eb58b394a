use Rattle.hpack_codec.specs.Reading.{IsFound}
use Rattle.hpack_codec.proofs.search_table.SearchTable.find_recent.Given as goal

abbrev pub invariant-loop-mark : goal.invariant-loop-mark
invariant-loop-mark l = IsFound l.self l.found l.name l.value
