use Rattle.std.proofs.Common.{◌≡◌, vec_len, take}
use Rattle.std.proofs.lemmas.List.{take-map}
use Rattle.lane.specs.KnownCells.{cell_of, cells_of}
use Rattle.lane.proofs.row_lane.cells.compare.Goals as goal

pub agree-requires : goal.agree-requires
agree-requires g c =
    let h : cells_of c.args.got.items ≡ take (vec_len c.args.got) (cells_of c.args.put.items) =
    c.requires.cells in
    let e : take (vec_len c.args.got) (cells_of c.args.put.items) ≡ cells_of
    (take (vec_len c.args.got) c.args.put.items) =
    take-map cell_of (vec_len c.args.got) c.args.put.items in
    cc
