-- What the book's words say.
use Rattle.std.specs.Prelude.{ℕ, Option, None, Some, Result, Ok, Err}
use Rattle.connbook.specs.declared.answers.AdmitFault.{AdmitFault}
use Rattle.connbook.specs.declared.words.DueCredit.{DueCredit}
use Rattle.connbook.specs.declared.words.RefusedCall.{RefusedCall}

-- how much credit is announced: none without a word for it
abbrev pub increment_in : Option DueCredit → ℕ
increment_in None = 0
increment_in (Some credit) = credit.increment

-- whether a call was admitted, and else why not
abbrev pub answer_in : Result (Unit {0}) RefusedCall → Result (Unit {0}) AdmitFault
answer_in (Ok done) = Ok done
answer_in (Err refused) = Err refused.fault
