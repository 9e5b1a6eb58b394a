use Rattle.std.proofs.Common.{sym, ◌∙◌, true≢false}
use Rattle.outwriter.proofs.TellSteps.{first-tells}
use Rattle.outwriter.proofs.outbound.Outbound.headers_frame.Goals as goal

pub returns-clause-tells : goal.returns-clause-tells
returns-clause-tells c = λ run marks fields before spells writes. (
  λ e. absurd (true≢false (sym c.requires.between.begun ∙ e)),
  first-tells run c.args.id c.args.ends c.args.bytes _ c.args.self.now.block _ before
      c.args.self.now.encoder fields marks c.in_ok-frame.ensures.frame c.in_ok-frame.ensures.rest
      c.requires.between.no_block spells writes,
)
