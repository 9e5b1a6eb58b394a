use Rattle.std.proofs.Common.{
  subst,
  sym,
  inl,
  refl,
  ℕ,
  List,
  [],
  ◌∷◌,
  Option,
  Some,
  ◌∙◌,
  ◌≡◌,
  append-nil,
  true≢false,
}
use Rattle.outwriter.specs.Parts.{Mark}
use Rattle.outwriter.specs.Steps.{Written}
use Rattle.outwriter.specs.ToldByNow.{Spells}
use Rattle.outwriter.proofs.TellSteps.{next-tells}
use Rattle.outwriter.specs.declared.blocks.HeaderBlock.{HeaderBlock}
use Rattle.outwriter.specs.RunState.{Mirrors}
use Rattle.outwriter.proofs.EndSteps.{continuation-written}
use Rattle.outwriter.proofs.TellStepsOwn.{none-over}
use Rattle.outwriter.proofs.outbound.Outbound.block_frame.Goals as goal

pub returns-clause-frame : goal.returns-clause-frame
returns-clause-frame c = λ run m.
    let is : c.args.self.now.block ≡ Some c.in-Some.block =
    sym c.take.ensures.value ∙ c.in-Some.is in
    continuation-written run _ _ _ _ c.in-Some.block _ _ _ c.in_ok-frame.ensures.frame
    c.in_ok-frame.ensures.rest c.requires.begun c.requires.going
    (subst (λ (b : Option HeaderBlock).
    Mirrors run c.args.self.now.begun c.args.self.now.gone c.args.self.now.states.windows
    c.args.self.now.due.items b c.args.self.now.states) is m)

pub returns-clause-own : goal.returns-clause-own
returns-clause-own c =
    let is : c.args.self.now.block ≡ Some c.in-Some.block =
    sym c.take.ensures.value ∙ c.in-Some.is in (
      λ id. (refl, refl, λ e. e),
      inl (
        λ run marks spells. (
          λ e. absurd (true≢false (sym c.requires.begun ∙ e)),
          subst (λ (all : List (ℕ × Mark)).
              Spells (Written c.in_ok-frame.frame ∷ run) c.in_ok-frame.rest c.args.self.now.encoder
              all) (sym (append-nil marks))
              (next-tells run c.in-Some.block c.in_ok-frame.frame c.in_ok-frame.rest
              c.args.self.now.encoder marks c.in_ok-frame.ensures.frame c.in_ok-frame.ensures.rest
              (subst (λ (b : Option HeaderBlock).
              Spells run b c.args.self.now.encoder marks) is spells.1)),
        ),
        λ id. (refl, refl),
        ([], refl, none-over c.args.self.now),
      ),
      refl,
    )
