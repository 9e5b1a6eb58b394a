use Rattle.std.proofs.Common.{◌∙◌, ap, refl}
use Rattle.lane.specs.Ring.{put_in, taken}
use Rattle.writerloop.proofs.WrittenInbox.{led-new}
use Rattle.writerloop.proofs.writing.Writing.new.Goals as goal

pub returns-clause-led : goal.returns-clause-led
returns-clause-led g c =
    led-new g.W.ConnWrite.contents g.W.ConnWrite.failed c.args.was.now.value c.args.device _
    c.requires.was (ap taken c.new.ensures.ring ∙ c.requires.none)
    c.new.ensures.none.0 c.new.ensures.none.1 c.new-2.ensures.none
    (ap put_in c.new-2.ensures.home ∙ c.requires.none_back) refl refl refl
    c.new-frames.ensures.wrote
