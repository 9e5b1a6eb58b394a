use Rattle.std.proofs.Common.{◌≡◌, take}
use Rattle.writerloop.specs.Ended.{after_local_ends}
use Rattle.writerloop.proofs.writing.Writing.mark_ends.Given as goal

abbrev pub invariant-loop-id : goal.invariant-loop-id
invariant-loop-id g l =
    (l.book.book ≡ after_local_ends l.fn.book.book (take l.id-index l.fn.self.frames.ended.items))
    × (l.book.stopped ≡ l.fn.book.stopped)
