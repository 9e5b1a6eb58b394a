use Rattle.std.proofs.Common.{
  ◌≡◌,
  ◌+◌,
  ◌≤◌,
  ◌∙◌,
  List,
  ap,
  arith,
  drop,
  length,
  subst,
  sym,
  take,
  ℕ,
}
use Rattle.h2frame.specs.FrameList.{BeginsWith}
use Rattle.trace.specs.declared.item.Item.TheVariants.{Frame}
use Rattle.trace.specs.declared.item.SideStage.TheVariants.{InFrames}
use Rattle.trace.specs.Cuts.{Takes}
use Rattle.trace.proofs.Cutting.{first_frame}
use Rattle.trace.proofs.cutter.first_frame.Goals as goal

pub returns-clause-some : goal.returns-clause-some
returns-clause-some c =
    let bytes = c.args.kept.now.items in
    let head = c.in-Some.head in
    let whole = 9 + head.length in
    let begins =
    subst (λ (b : List ℕ). BeginsWith b head (drop 9 b)) c.as_slice.ensures
    c.in-Some.ensures.some in
    let fits : whole ≤ length bytes = omega (arith, c.len.ensures.value) in
    let rest : c.freeze_to.new.self.items ≡ drop whole bytes = c.in_ok-payload.ensures.rest.0 in
    let payload : c.advance.new.self ≡ drop 9 (take whole bytes) =
    c.advance.ensures ∙ ap (λ (b : List ℕ). drop 9 b) c.in_ok-payload.ensures.front in
    subst (λ (r : List ℕ). Takes InFrames bytes (Frame head c.advance.new.self) r) (sym rest)
    (subst (λ (p : List ℕ). Takes InFrames bytes (Frame head p) (drop whole bytes)) (sym payload)
    (first_frame bytes head begins fits))
