use Rattle.std.proofs.Common.{subst, sym, arith, rules}
use Rattle.lpm.specs.Fronts.{IsExtent}
use Rattle.lpm.proofs.Extents.{
  extent_is,
  extent_of-nil,
  extent_of-compressed,
  extent_of-bad_flag,
  extent_of-short,
  extent_of-too_long,
  extent_of-lawful,
}
use Rattle.lpm.proofs.front.frame_len.Goals as goal

pub returns-then-is_empty-clause-extent : goal.returns-then-is_empty-clause-extent
returns-then-is_empty-clause-extent c = sym (extent_of-nil c.args.front.now (search rules))

pub returns-in-1-clause-extent : goal.returns-in-1-clause-extent
returns-in-1-clause-extent c =
    sym (extent_of-compressed c.args.front.now (search rules) (search rules))

pub returns-in_default-clause-extent : goal.returns-in_default-clause-extent
returns-in_default-clause-extent c =
    sym (extent_of-bad_flag c.args.front.now (search rules) (search rules) (search rules))

pub returns-then-front-lt-PREFIX_LEN-clause-extent :
    goal.returns-then-front-lt-PREFIX_LEN-clause-extent
returns-then-front-lt-PREFIX_LEN-clause-extent c =
    sym (extent_of-short c.args.front.now (search rules) (search rules) (search rules))

pub returns-then-len-gt-MAX_MESSAGE_LEN-clause-extent :
    goal.returns-then-len-gt-MAX_MESSAGE_LEN-clause-extent
returns-then-len-gt-MAX_MESSAGE_LEN-clause-extent c =
    sym (extent_of-too_long c.args.front.now c.from_be_bytes-len.result (search rules)
    (search rules) (search rules) (search rules))

pub returns-then-len-gt-MAX_MESSAGE_LEN-clause-means :
    goal.returns-then-len-gt-MAX_MESSAGE_LEN-clause-means
returns-then-len-gt-MAX_MESSAGE_LEN-clause-means c =
    subst (IsExtent c.args.front.now) (extent_of-too_long c.args.front.now
    c.from_be_bytes-len.result (search rules) (search rules) (search rules) (search rules))
    (extent_is c.args.front.now (λ i. omega (arith, c.type_inv.front i)))

pub returns-clause-extent : goal.returns-clause-extent
returns-clause-extent c =
    sym (extent_of-lawful c.args.front.now c.from_be_bytes-len.result (search rules) (search rules)
    (search rules) (search rules))

pub returns-clause-means : goal.returns-clause-means
returns-clause-means c =
    subst (IsExtent c.args.front.now) (extent_of-lawful c.args.front.now c.from_be_bytes-len.result
    (search rules) (search rules) (search rules) (search rules))
    (extent_is c.args.front.now (λ i. omega (arith, c.type_inv.front i)))
