-- What is said of a client, and what it has to do.
use Rattle.std.specs.Prelude.{⊤}
use Rattle.misbehave.specs.declared.misbehaviour.Duty.{Duty}
use Rattle.misbehave.specs.declared.misbehaviour.Duty.TheVariants as duty
use Rattle.misbehave.specs.declared.verdict.Judgement.{Judgement}
use Rattle.misbehave.specs.declared.verdict.Judgement.TheVariants as judgement

-- the client is reported as wrong
abbrev pub IsAccused : Judgement → Type 0
IsAccused judgement.Right = ⊥
IsAccused (judgement.Wrong fault) = ⊤
IsAccused (judgement.Untested lack) = ⊥

-- it has to end the stream or the connection
abbrev pub HasToEnd : Duty → Type 0
HasToEnd duty.Free = ⊥
HasToEnd (duty.Completes rule) = ⊥
HasToEnd (duty.Proceeds rule) = ⊥
HasToEnd duty.Tries = ⊥
HasToEnd (duty.EndsStream code rule) = ⊤
HasToEnd (duty.EndsConnection code rule) = ⊤

-- no sentence says more of it than those that bind each client
abbrev pub IsFree : Duty → Type 0
IsFree duty.Free = ⊤
IsFree (duty.Completes rule) = ⊥
IsFree (duty.Proceeds rule) = ⊥
IsFree duty.Tries = ⊤
IsFree (duty.EndsStream code rule) = ⊥
IsFree (duty.EndsConnection code rule) = ⊥
