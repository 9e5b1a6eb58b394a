use Rattle.hpack_codec.specs.Reading.{IsStatic}
use Rattle.hpack_codec.proofs.static_table.find.Given as goal

abbrev pub invariant-loop-place : goal.invariant-loop-place
invariant-loop-place l = IsStatic l.found l.name l.value
