use Rattle.std.proofs.Common.{List, ℕ, subst}
use Rattle.h2frame.specs.FrameList.{answered}
use Rattle.h2frame.specs.Reading.{IsStep}
use Rattle.h2frame.proofs.Lists.{joined_append}
use Rattle.h2frame.proofs.Steps.{
  unfinished_iff,
  fault_since,
  kept_since,
  fault_answers_none,
  lawful_answer,
  small_answer,
}
use Rattle.h2frame.proofs.reader.FrameReader.next.Goals as goal
use Rattle.h2frame.proofs.reader.FrameReader.next.Goals.{After-step}

-- the step, of the bytes that the reader had
taken : (c : After-step) → IsStep c.step.result c.args.self.now c.step.new.buffer.items
taken c =
    subst (λ (old : List ℕ). IsStep c.step.result old c.step.new.buffer.items)
    c.self.view_is c.step.ensures

pub returns-clause-list : goal.returns-clause-list
returns-clause-list c = λ bytes entries joined.
    joined_append bytes entries (answered c.step.result) c.args.self.now c.step.new.buffer.items
    joined (taken c).taken

pub returns-clause-unfinished : goal.returns-clause-unfinished
returns-clause-unfinished c =
    unfinished_iff c.step.result c.args.self.now c.step.new.buffer.items (taken c)

pub returns-clause-repeats : goal.returns-clause-repeats
returns-clause-repeats c = λ fault stands.
    let e =
    fault_since c.step.result fault c.args.self.now c.step.new.buffer.items (taken c) stands in (
      e,
      kept_since c.step.result c.args.self.now c.step.new.buffer.items (taken c)
          (fault_answers_none c.step.result fault c.args.self.now e stands),
    )

pub returns-clause-lawful : goal.returns-clause-lawful
returns-clause-lawful c =
    lawful_answer c.step.result c.args.self.now c.step.new.buffer.items (taken c)

pub returns-clause-stream : goal.returns-clause-stream
returns-clause-stream c = λ stream e.
    small_answer c.step.result stream c.args.self.now c.step.new.buffer.items (taken c) e
