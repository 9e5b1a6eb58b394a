use Rattle.wire.proofs.ReactionLemmas.{unclaimed_answer}
use Rattle.wire.proofs.seen_frames.SeenFrames.holds.Goals as goal

pub returns-in_default : goal.returns-in_default
returns-in_default c =
    unclaimed_answer c.args.self.now c.args.reaction.now c.holds_on_stream.result
    c.in_default.not-Connection c.in_default.not-Goaway c.in_default.not-Closed
    c.in_default.not-Reset c.in_default.not-Stream
    c.in_default.not-Acks c.in_default.not-Largest c.in_default.not-Orderly
