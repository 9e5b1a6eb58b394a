use Rattle.std.proofs.Common.{◌++◌, ◌∙◌, replicate, ap}
use Rattle.zeros.specs.Filled.{FilledBytes}
use Rattle.zeros.specs.Marks.{spans}
use Rattle.zeros.proofs.Wiped.{take_zeros, outside_after}
use Rattle.zeros.proofs.zero_buffer.ZeroBuffer.append_zeros.Goals as goal

pub returns-then-count-lt-FEW_ZEROS-clause-items : goal.returns-then-count-lt-FEW_ZEROS-clause-items
returns-then-count-lt-FEW_ZEROS-clause-items c =
    let s = c.self.inside in
    let known = c.self.invariant in
    rw c.lengthen.ensures.items (take_zeros s.bytes.items s.end c.args.count known.0
    (λ i le. known.4 i (outside_after (spans s.marks) s.end i le known.3))
    ∙ ap (λ (f : FilledBytes). f.items ++ replicate c.args.count 0) c.self.view_is)

pub returns-else-count-lt-FEW_ZEROS-clause-items : goal.returns-else-count-lt-FEW_ZEROS-clause-items
returns-else-count-lt-FEW_ZEROS-clause-items c =
    let s = c.self.inside in
    let known = c.self.invariant in
    rw c.lengthen.ensures.items (take_zeros s.bytes.items s.end c.args.count known.0
    (λ i le. known.4 i (outside_after (spans s.marks) s.end i le known.3))
    ∙ ap (λ (f : FilledBytes). f.items ++ replicate c.args.count 0) c.self.view_is)
