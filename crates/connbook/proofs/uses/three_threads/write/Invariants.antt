use Rattle.std.proofs.Common.{◌≡◌, ◌*◌, ◌≤◌}
use Rattle.connbook.proofs.uses.three_threads.write.Given as goal

abbrev pub invariant-loop-i : goal.invariant-loop-i
invariant-loop-i g l =
    record {
      parts : l.told.parts ≡ l.fn.told.parts;
      amount : l.told.amount ≡ l.credit;
      fits : l.credit ≤ l._i * 4294967295;
    }
