use Rattle.session.proofs.Reading.{
  reader_shrinks,
  reads_next,
  reads_none,
  reads_end,
  reads_on,
  sound_at,
}
use Rattle.session.proofs.in_core.read_waiting.Goals as goal

pub returns-in_default : goal.returns-in_default
returns-in_default c = record {
  reads = record {
    sound = c.loop-answer.invariant.sound;
    reads = λ text before reads.
        reads_none _ _ _ _ _ _ _ _ c.in_default.is c.next.ensures.unfinished c.next.ensures.kept
        (c.loop-answer.invariant.follows _ before reads);
  };
}

pub returns-in_default-2 : goal.returns-in_default-2
returns-in_default-2 c = record {
  reads = record {
    sound = tt;
    reads = λ text before reads.
        reads_end _ _ _ c.next.new.self c.entry.new.self.halves
        c.entry.new.self.decoder c.in_default-2.is
        (reads_next c.in-Some.answer _ _ _ _ _ _ _ _ _ _ c.in-Some.ensures.list
        c.in-Some.ensures.cause c.in_ok-next.ensures.entry c.in_ok-next.ensures.none
        c.in_ok-next.ensures.fatal _ before
        (c.loop-answer.invariant.follows _ before reads));
  };
}

pub loop-answer-smaller : goal.loop-answer-smaller
loop-answer-smaller c =
    reader_shrinks c.in-Some.answer _ _ _ _ c.in-Some.ensures.list
    c.in_ok-next.ensures.none c.in-Some-2.is

pub loop-answer-preserved : goal.loop-answer-preserved
loop-answer-preserved c =
    record {
      sound = sound_at _ _ _ c.in-Some-2.is c.in_ok-next.ensures.sound;
      follows = λ text before reads. reads_on _ _ _ _ _ _ _ c.in-Some-2.is
          (reads_next c.in-Some.answer _ _ _ _ _ _ _ _ _ _ c.in-Some.ensures.list
          c.in-Some.ensures.cause c.in_ok-next.ensures.entry c.in_ok-next.ensures.none
          c.in_ok-next.ensures.fatal _ before
          (c.loop-answer.invariant.follows _ before reads));
    }
