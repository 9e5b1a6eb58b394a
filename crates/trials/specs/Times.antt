-- How long runs of a case took.
use Rattle.std.specs.Prelude.{ℕ, ◌*◌, ◌-◌}
use Rattle.std.specs.Int.{div_ceil}

-- the index of the nearest rank: that of the least of `count` times, in order, within which
-- `percent` of 100 are
abbrev pub rank_of : ℕ → ℕ → ℕ
rank_of count percent = div_ceil (count * percent) 100 - 1
