use Rattle.std.proofs.Common.{◌≡◌, ℕ, Bool, Option, None, Some, true, refl}
use Rattle.std.specs.Prelude.{IsSome}
use Rattle.connbook.specs.declared.answers.AdmitFault.{AdmitFault}
use Rattle.connbook.specs.declared.answers.AdmitFault.TheVariants as refused
use Rattle.connbook.specs.declared.words.ClosedBook.{ClosedBook}
use Rattle.connection.specs.Limits.{MayTurnAway}
use Rattle.connection.proofs.reader.Reader.turn_away.Goals as goal

pub returns-in-Some : goal.returns-in-Some
returns-in-Some g c =
    record { reads = λ head tally may. c.turn_away_drained.ensures.reads head tally }

-- after a fault that isn't a drain it is the same whether the server drains
undrained : (fault : AdmitFault) (calls : ℕ) (draining : Bool) → (fault ≡ refused.Draining → ⊥)
    → MayTurnAway calls true fault → MayTurnAway calls draining fault
undrained refused.TooMany calls draining not may = may
undrained refused.Draining calls draining not may = absurd (not refl)
undrained refused.NotNew calls draining not may = tt
undrained refused.OutOfMemory calls draining not may = tt

no-word : (word : Option ClosedBook) → word ≡ None → IsSome word → ⊥
no-word None none some = absurd (cc)
no-word (Some word) none some = absurd (cc)

pub returns-in-None : goal.returns-in-None
returns-in-None g c = record {
  reads = λ head tally may.
      c.decline.ensures.reads head tally (undrained c.args.refused.now.fault tally.calls
      c.args.self.now.reading.is_draining
      (λ drained. no-word c.closed.result c.in-None.is (c.closed.ensures.1 drained)) may);
}
