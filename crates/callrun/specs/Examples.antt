-- Worked examples of responses, causes and deadlines.
use Rattle.std.specs.Prelude.{
  ◌≡◌,
  refl,
  ℕ,
  Bool,
  false,
  true,
  List,
  [],
  ◌∷◌,
  Option,
  None,
  Some,
  codes,
}
use Rattle.std.proofs.Common.{inl}
use Rattle.account.specs.declared.call.OutItem.TheVariants.{Head, Trailers}
use Rattle.account.specs.declared.call.RequestEnd.{RequestEnd}
use Rattle.account.specs.declared.call.OutItem.{OutItem}
use Rattle.callbox.specs.InSides.{TakesMessages}
use Rattle.callbox.specs.declared.piece.InPiece.{InPiece}
use Rattle.callbox.specs.declared.taker.Progress.{Progress}
use Rattle.callhead.specs.declared.head.CallHead.{CallHead}
use Rattle.callhead.specs.declared.head.Encoding.TheVariants.{Identity}
use Rattle.callhead.specs.StatusFields.{response_fields, status_fields, trailers_only}
use Rattle.handlers.specs.declared.reply.Reply.TheVariants.{Zeros}
use Rattle.handlers.specs.Statuses.{ok_status}
use Rattle.handlers.specs.declared.step.MethodStep.{MethodStep}
use Rattle.callrun.specs.declared.cause.Cause.TheVariants.{Cancelled, DeadlineExceeded}
use Rattle.callrun.specs.Listings.{WasRun}
use Rattle.callrun.specs.Outcomes.{IsOutcome, Stood}
use Rattle.callrun.specs.Responses.{reply_item, response}
use Rattle.callrun.specs.Runs.{deadline_of}
use Rattle.callrun.specs.Statuses.{status_of}

-- a head that wants nothing echoed, and has no timeout
abbrev plain : CallHead
plain =
    record { path = []; timeout = None; encoding = Identity; echo_initial = []; echo_trailing = [] }

-- a head that wants `a` echoed before the replies
abbrev echoing : CallHead
echoing = record {
  path = [];
  timeout = None;
  encoding = Identity;
  echo_initial = codes "a" ∷ [];
  echo_trailing = [];
}

-- a call that is cancelled before its first reply is answered by one block
cancelled_alone : response plain [] (status_of Cancelled)
    ≡ Trailers (trailers_only 1 (codes "cancelled")) ∷ []
cancelled_alone = refl

-- after a reply the trailers come by themselves
cancelled_behind : response plain (Zeros 1 ∷ []) (status_of Cancelled)
    ≡ Head (response_fields []) ∷ reply_item (Zeros 1)
    ∷ Trailers (status_fields 1 (codes "cancelled") []) ∷ []
cancelled_behind = refl

-- a call that went well has a head, also without a reply
well_alone : response plain [] ok_status
    ≡ Head (response_fields []) ∷ Trailers (status_fields 0 [] []) ∷ []
well_alone = refl

-- a call whose head wants something echoed has a head too
echoed_alone : response echoing [] (status_of Cancelled)
    ≡ Head (response_fields (codes "a" ∷ []))
    ∷ Trailers (status_fields 1 (codes "cancelled") []) ∷ []
echoed_alone = refl

-- a timeout of 5 ms in a call that was opened at 1,000 ns
five_milliseconds : deadline_of (Some 5000000) 1000 ≡ Some 5001000
five_milliseconds = refl

-- before the deadline no call ends by it
not_before : (said : Option RequestEnd) → Stood DeadlineExceeded plain false said → false ≡ true
not_before said stood = stood

-- a call that was left before its first turn was given nothing
left_at_once : (answers : List (List ℕ) → Bool → MethodStep → Type 0) (progress : Progress)
    → TakesMessages [] progress [] → WasRun answers plain 0 0 [] progress [] None
left_at_once answers progress took = record {
  messages = [];
  overdue = false;
  took = took;
  late = λ is. absurd (cc);
  outcome = λ answer is. IsOutcome.Unended [] (answer.replies, refl) (inl (refl, refl)) refl;
}

-- the deadline of a call without a timeout never comes
never_late : (answers : List (List ℕ) → Bool → MethodStep → Type 0) (opened latest : ℕ)
    (got : List InPiece) (progress : Progress) (given : List OutItem) (code : Option ℕ)
    → (run : WasRun answers plain opened latest got progress given code) → run.overdue ≡ true → ⊥
never_late answers opened latest got progress given code run = run.late
