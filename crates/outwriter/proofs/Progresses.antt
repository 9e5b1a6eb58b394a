-- One part of a choice after another.
use Rattle.std.proofs.Common.{
  inl,
  inr,
  sym,
  ap,
  subst,
  ◌∙◌,
  List,
  ◌++◌,
  Option,
  Some,
  None,
  append-nil,
}
use Rattle.std.specs.Prelude.{IfNone, IfSome, flat_map, ◌≡◌}
use Rattle.h2frame.specs.declared.frame.Frame.{Frame}
use Rattle.outwriter.specs.declared.next.Next.TheVariants as next
use Rattle.outwriter.specs.declared.outbound.Outbound.{Outbound}
use Rattle.outwriter.specs.Frames.{IsSound}
use Rattle.outwriter.specs.declared.due.Due.{Due}
use Rattle.outwriter.specs.RunState.{
  MirrorsOf,
  HasBlock,
  Progress,
  Progresses,
  Stays,
  IsBetween,
  IsSpent,
  IsAnswered,
  Writes,
  duties_of,
}
use Rattle.outwriter.specs.Runs.{told}
use Rattle.outwriter.specs.Steps.{Step}

-- what came before changed nothing that matters
pub after-progress : (old mid new : Outbound) (o : Option Frame) → Stays old mid
    → Progress o mid new → Progress o old new
after-progress old mid new (Some frame) stays p = λ run m. p run (stays run m)
after-progress old mid new None stays p = (λ run m. p.0 run (stays run m), p.1)

pub after-progresses : (old mid new : Outbound) (o : Option Frame) → Stays old mid
    → Progress o mid new → Progresses o old new
after-progresses old mid new (Some frame) stays p = λ run m. p run (stays run m)
after-progresses old mid new None stays p = λ run m. p.0 run (stays run m)

pub progress : (old new : Outbound) (o : Option Frame) → IfSome o (λ frame. Writes frame old new)
    → IfNone o (Stays old new × IsBetween new) → Progress o old new
progress old new (Some frame) writes still = writes
progress old new None writes still = still

-- where nothing is due, all was written
pub spent-answered : (run : List Step) (o : Outbound) → IsSpent o → MirrorsOf run o → IsAnswered run
spent-answered run o (inl gone) m = inl (m.goes ∙ gone)
spent-answered run o (inr (no_block, none, owed)) m = inr (
  sym (m.answers.0 ∙ ap (λ (waiting : List Due). told run ++ flat_map duties_of waiting) none
      ∙ append-nil (told run)),
  subst (HasBlock run) no_block m.goes_on,
  λ id. sym (m.stand.owes id).0 ∙ owed id,
)

-- a frame that comes is sound
pub sound-from : (o : Option Frame) (made frame : Frame) → o ≡ Some made
    → next.Frame made ≡ next.Frame frame → IfSome o IsSound → IsSound frame
sound-from None made frame found is sound = absurd (none-is found)
  where
    none-is : None ≡ Some made → ⊥
    none-is e = cc
sound-from (Some one) made frame found is sound =
    let same : one ≡ frame = cc in
    subst IsSound same sound
