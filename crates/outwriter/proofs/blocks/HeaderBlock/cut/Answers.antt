use Rattle.std.proofs.Common.{◌≡◌, min, length, arith, ◌∙◌, ◌<◌, ◌^◌, subst, true, Some}
use Rattle.std.proofs.lemmas.Bool.{lt-leb}
use Rattle.outwriter.specs.Blocks.{frame_of, rest_of}
use Rattle.outwriter.specs.HeaderBlocks.{Block}
use Rattle.outwriter.proofs.BlockLemmas.{frame_of-begun, frame_of-first, rest_of-left}
use Rattle.outwriter.proofs.SoundFrames.{sound-frame}
use Rattle.outwriter.proofs.blocks.HeaderBlock.cut.Goals.{then-begun, else-begun}
use Rattle.outwriter.proofs.blocks.HeaderBlock.cut.Goals as goal

pub returns-then-whole-clause-frame : goal.returns-then-whole-clause-frame
returns-then-whole-clause-frame c =
    let block : Block = record {
      id = c.self.inside.id;
      ends = c.self.inside.ends;
      begun = c.self.inside.begun;
      rest = c.self.inside.rest;
    } in
    let cut_is : c.min.result ≡ min 16384 (length block.rest) =
    omega (arith, c.len.ensures.value) in
    let made : c.if-begun.frame ≡ frame_of block = elim c.if-begun.branch [
      | then-begun w ↦
          frame_of-begun block c.len-whole.result c.min.result c.len-whole.ensures.value cut_is
          c.in_ok-fragment.fragment c.if-begun.frame
          w.if-begun.true c.in_ok-fragment.ensures.front
          (w.frame-is ∙ w.make_continuation-frame.ensures)
      | else-begun w ↦
          frame_of-first block c.len-whole.result c.min.result c.len-whole.ensures.value cut_is
          c.in_ok-fragment.fragment c.if-begun.frame
          w.if-begun.false c.in_ok-fragment.ensures.front
          (w.frame-is ∙ w.make_headers-frame.ensures)
    ] in
    subst (λ (b : Block). c.if-begun.frame ≡ frame_of b) c.self.view_is made

pub returns-then-whole-clause-sound : goal.returns-then-whole-clause-sound
returns-then-whole-clause-sound c =
    sound-frame c.args.self c.if-begun.frame (returns-then-whole-clause-frame c)
    (subst (λ (b : Block). 0 < b.id) c.self.view_is c.self.invariant.0)
    (subst (λ (b : Block). b.id < 2 ^ 31) c.self.view_is c.self.invariant.1)

pub returns-clause-frame : goal.returns-clause-frame
returns-clause-frame c =
    let block : Block = record {
      id = c.self.inside.id;
      ends = c.self.inside.ends;
      begun = c.self.inside.begun;
      rest = c.self.inside.rest;
    } in
    let cut_is : c.min.result ≡ min 16384 (length block.rest) =
    omega (arith, c.len.ensures.value) in
    let made : c.if-begun.frame ≡ frame_of block = elim c.if-begun.branch [
      | then-begun w ↦
          frame_of-begun block c.len-whole.result c.min.result c.len-whole.ensures.value cut_is
          c.in_ok-fragment.fragment c.if-begun.frame
          w.if-begun.true c.in_ok-fragment.ensures.front
          (w.frame-is ∙ w.make_continuation-frame.ensures)
      | else-begun w ↦
          frame_of-first block c.len-whole.result c.min.result c.len-whole.ensures.value cut_is
          c.in_ok-fragment.fragment c.if-begun.frame
          w.if-begun.false c.in_ok-fragment.ensures.front
          (w.frame-is ∙ w.make_headers-frame.ensures)
    ] in
    subst (λ (b : Block). c.if-begun.frame ≡ frame_of b) c.self.view_is made

pub returns-clause-sound : goal.returns-clause-sound
returns-clause-sound c =
    sound-frame c.args.self c.if-begun.frame (returns-clause-frame c)
    (subst (λ (b : Block). 0 < b.id) c.self.view_is c.self.invariant.0)
    (subst (λ (b : Block). b.id < 2 ^ 31) c.self.view_is c.self.invariant.1)

pub returns-clause-rest : goal.returns-clause-rest
returns-clause-rest c =
    let block : Block = record {
      id = c.self.inside.id;
      ends = c.self.inside.ends;
      begun = c.self.inside.begun;
      rest = c.self.inside.rest;
    } in
    subst (λ (b : Block).
    Some (record {
      id = c.self.inside.id;
      ends = c.self.inside.ends;
      begun = true;
      rest = c.split_to.new.self;
    }) ≡ rest_of b) c.self.view_is
    (rest_of-left block c.len-whole.result c.min.result c.len-whole.ensures.value
    (omega (arith, c.len.ensures.value))
    c.split_to.new.self (lt-leb c.len-whole.result 16384 c.if-whole.false)
    c.in_ok-fragment.ensures.rest)
