use Rattle.std.proofs.Common.{◌≡◌, ◌≤◌, ◌-◌, ℕ, length, None}
use Rattle.outwriter.specs.Cores.{calls, lanes}
use Rattle.outwriter.specs.LeftCalls.{GaveLeft}
use Rattle.outwriter.specs.Polls.{coming}
use Rattle.writerloop.specs.Wrote.{Fills}
use Rattle.writerloop.specs.declared.standing.Standing.TheVariants.{Going}
use Rattle.writerloop.proofs.frames.Frames.fill_on.Given as goal

-- frames lead from the writer as it was to the writer as it is
abbrev pub invariant-frames : goal.invariant-frames
invariant-frames g l = record {
  fills :
      Fills g.L.Lane.got (coming g.L.Lane.got g.L.Lane.ahead) g.W.ConnWrite.contents
      g.W.ConnWrite.failed None l.fn.self l.self;
  room : length l.fn.self.buffer.items ≤ 114751 → length l.self.buffer.items ≤ 114751;
  going : l.self.standing ≡ Going;
  device : l.self.device ≡ l.fn.self.device;
  left : l.self.flushed_ends ≡ l.fn.self.flushed_ends;
  senders : lanes g.L.Lane.out_name l.self.core.sending.senders.items
      ≡ lanes g.L.Lane.out_name l.fn.self.core.sending.senders.items;
  gave : (id : ℕ) → GaveLeft id (calls g.L.Lane.got l.fn.self.core.sending.senders.items)
      → GaveLeft id (calls g.L.Lane.got l.self.core.sending.senders.items);
}

abbrev pub decreases-frames : goal.decreases-frames
decreases-frames g l = 114752 - length l.self.buffer.items
