use Rattle.std.proofs.Common.{arith, ◌≡◌, min, length, ◌-◌}
use Rattle.zeros.proofs.Tails.{cut_within, cut_front, cut_rest}
use Rattle.zeros.proofs.zero_tail.ZeroTail.split_to.Goals as goal

pub overflow_cast-taken : goal.overflow_cast-taken
overflow_cast-taken c =
    let s = c.self.inside in
    grind (
      arith,
      c.saturating_sub-taken.ensures,
      c.len-have.ensures.value,
      cut_within s.front c.args.self.now s.zeros c.args.at c.self.view_is c.requires,
    )

pub returns-clause-front : goal.returns-clause-front
returns-clause-front c =
    let s = c.self.inside in
    let m : c.min.result ≡ min c.args.at (length s.front) = cc in
    let k : c.saturating_sub-taken.result ≡ c.args.at - length s.front = cc in
    rw c.in_ok-front.ensures.front (cut_front s.front c.args.self.now s.zeros c.args.at c.min.result
    c.saturating_sub-taken.result c.self.view_is c.requires m k)

pub returns-clause-rest : goal.returns-clause-rest
returns-clause-rest c =
    let s = c.self.inside in
    let m : c.min.result ≡ min c.args.at (length s.front) = cc in
    let k : c.saturating_sub-taken.result ≡ c.args.at - length s.front = cc in
    rw c.in_ok-front.ensures.rest (cut_rest s.front c.args.self.now s.zeros c.args.at c.min.result
    c.saturating_sub-taken.result c.self.view_is m k)
