use Rattle.std.proofs.Common.{◌≡◌, ◌==◌, map, take}
use Rattle.std.specs.List.{flat_map, slice_split}
use Rattle.words.proofs.reporting.all_parts_of.Given as goal

abbrev pub invariant-loop-text : goal.invariant-loop-text
invariant-loop-text l =
    map (λ word. word.now) l.words.items
    ≡ flat_map (λ text. slice_split (λ byte. byte == 44) text.now) (take l.text-index l.texts)
