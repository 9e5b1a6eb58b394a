use Rattle.std.proofs.Common.{arith, ◌+◌, ◌≤◌, length, sym, subst}
use Rattle.zeros.specs.Marks.{spans, AreZerosOutside}
use Rattle.zeros.proofs.Wiped.{written_outside, long_written}
use Rattle.zeros.proofs.zero_buffer.ZeroBuffer.append.Goals as goal

pub invariant_of-self : goal.invariant_of-self
invariant_of-self c =
    let s = c.self.inside in
    let known = c.self.invariant in
    let written = c.overwrite.ensures.items in
    let long : s.end + length c.args.bytes.now ≤ length c.overwrite.new.out.items =
    rw written (long_written s.bytes.items c.args.bytes.now s.end known.0) in (
      long,
      grind arith,
      grind arith,
      c.mark.ensures.ends,
      subst (AreZerosOutside (spans c.mark.new.self)) (sym written) (written_outside (spans s.marks)
          (spans c.mark.new.self) s.bytes.items c.args.bytes.now s.end known.0 c.mark.ensures.marked
          c.mark.ensures.kept known.4),
    )
