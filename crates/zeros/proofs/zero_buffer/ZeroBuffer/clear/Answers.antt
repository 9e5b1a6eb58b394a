use Rattle.std.proofs.Common.{arith, length, ap}
use Rattle.zeros.specs.Marks.{spans}
use Rattle.zeros.proofs.Wiped.{wiped_back}
use Rattle.zeros.proofs.zero_buffer.ZeroBuffer.clear.Goals as goal

pub invariant_of-self : goal.invariant_of-self
invariant_of-self c =
    let s = c.self.inside in
    let long = ap length c.as_mut_slice.ensures.value in (
      omega arith,
      omega arith,
      c.self.invariant.2,
      c.wipe.ensures.none 0,
      wiped_back (spans c.wipe.new.self) s.bytes.items c.wipe.new.bytes s.bytes.len
          (length c.as_mut_slice.result.now) c.wipe.ensures.wiped long,
    )
