use Rattle.std.proofs.Common.{◌≡◌, ◌≤◌, ◌++◌, ℕ, List, length, refl, ap, ◌∙◌, arith}
use Rattle.std.proofs.lemmas.Grind.{common_steps}
use Rattle.session.specs.HeaderBlocks.{PendingBlock}
use Rattle.session.proofs.HeaderBlockSteps.{collects_more}
use Rattle.session.proofs.header_block.HeaderBlock.add.Goals as goal

pub returns-clause-ok : goal.returns-clause-ok
returns-clause-ok c frames so =
    let short : length c.extend_from_slice.new.self.items ≤ 65536 = grind (arith, common_steps) in
    let block : c.extend_from_slice.new.self.items ≡ c.args.self.now.block
    ++ c.args.frame.now.content =
    c.in_ok-extend_from_slice.ensures.items
    ∙ ap (λ (p : PendingBlock). p.block ++ c.as_slice-content.result.now) c.self.view_is
    ∙ ap (λ (b : List ℕ). c.args.self.now.block ++ b) c.as_slice-content.ensures in
    let follows = c.if-not-goes_on.ensures.0 refl in
    collects_more frames c.args.self.now _ c.args.frame.now so c.requires
    (follows.0, follows.1 ∙ ap (λ (p : PendingBlock). p.head.stream) c.self.view_is)
    (ap (λ (p : PendingBlock). p.head) c.self.view_is) block c.contains-self-inside.ensures short
