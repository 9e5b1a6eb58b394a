-- What holds of a call, over any list of its turns.
use Rattle.std.specs.Prelude.{
  ◌≡◌,
  ◌≢◌,
  ◌⊎◌,
  ℕ,
  Bool,
  true,
  false,
  List,
  [],
  ◌∷◌,
  ◌++◌,
  Option,
  None,
  Some,
  IsSome,
  option_map,
  min,
  ◌+◌,
}
use Rattle.account.specs.declared.call.OutItem.{OutItem}
use Rattle.account.specs.declared.call.RequestEnd.{RequestEnd}
use Rattle.grpc_status.specs.StatusCode.{status_number}
use Rattle.handlers.specs.declared.reply.Reply.{Reply}
use Rattle.handlers.specs.declared.state.MethodState.{MethodState}
use Rattle.handlers.specs.declared.status.Status.{Status}
use Rattle.handlers.specs.declared.step.MethodStep.{MethodStep}
use Rattle.lists.specs.declared.field.Field.{Field}
use Rattle.callhead.specs.StatusFields.{response_fields}
use Rattle.callrun.specs.declared.ending.Ending.{Ending}
use Rattle.callrun.specs.Endings.{ends_with}
use Rattle.callrun.specs.Responses.{is_short, trailing_fields}
use Rattle.callrun.specs.declared.call.Call.{Call}
use Rattle.callrun.specs.declared.handling.Handling.{Handling}
use Rattle.callhead.specs.declared.head.CallHead.{CallHead}
use Rattle.handlers.specs.Answers.{IsLawful}
use Rattle.callbox.specs.InSides.{Tells, grown}
use Rattle.callbox.specs.declared.taker.Taken.{Taken}
use Rattle.callbox.specs.declared.taker.Taken.TheVariants as taken_as
use Rattle.callrun.specs.Handlings.{EndsSo, HeadIsDue, IsReady, IsStanding, lacks_memory}
use Rattle.callrun.specs.Outcomes.{IsBegun, IsOutcome, is_end}
use Rattle.callrun.specs.Sides.{ResponseView}

-- More may be given: these replies of the method's answer were given, after a head.
pub record IsGoing (answer : MethodStep) (head : CallHead) (overdue : Bool)
    (said : Option RequestEnd)
    (handling : Handling) (given : List OutItem) : Type 0 where
  pub done : List Reply
  pub at : EndsSo answer head overdue said done handling.waiting handling.ending
  pub begun : IsBegun head done given
  pub due : done ≡ [] → given ≢ [] → HeadIsDue head handling

-- What was given is an outcome of the method's answer.
pub record GivesOf (said : Option RequestEnd) (answer : MethodStep) (call : Call)
    (shown : ResponseView) : Type 0 where
  pub going : shown.is_live ≡ true
      → IsGoing answer call.head call.overdue said call.handling shown.given
  pub outcome : IsOutcome call.head call.overdue said answer shown.given shown.code

-- To the messages that were taken these items were given: an outcome of what the method answers,
-- whatever that is. As long as no end is due, the method's state stands for the messages.
pub record HasRun (answers : List (List ℕ) → Bool → MethodStep → Type 0)
    (stands : MethodState → List (List ℕ) → MethodStep → Type 0)
    (said : Option RequestEnd) (messages : List (List ℕ)) (call : Call)
    (shown : ResponseView) : Type 0 where
  pub lawful : IsLawful answers
  pub each : (answer : MethodStep) → answers messages (is_end said) answer
      → GivesOf said answer call shown
  pub standing : call.handling.ending ≡ None
      → IsStanding answers stands said messages call.handling.state

-- what was given answers the messages without the one in hand
abbrev pub ComesTo : (List (List ℕ) → Bool → MethodStep → Type 0)
    → (MethodState → List (List ℕ) → MethodStep → Type 0)
    → Option RequestEnd → List (List ℕ) → Call → ResponseView → Option Taken → Type 0
ComesTo answers stands said messages call shown None =
    HasRun answers stands said messages call shown
ComesTo answers stands said messages call shown (Some taken) =
    (before : Option RequestEnd) × (handled : List (List ℕ)) × Tells taken before said
    × (messages ≡ grown handled taken)
    × IsReady call.handling × (shown.is_live ≡ true)
    × HasRun answers stands before handled call shown

-- These messages lead to the call. The last thing that was taken may be in hand: the method hasn't
-- got it yet.
pub record HasCome (answers : List (List ℕ) → Bool → MethodStep → Type 0)
    (stands : MethodState → List (List ℕ) → MethodStep → Type 0)
    (said : Option RequestEnd) (messages : List (List ℕ)) (call : Call) (hand : Option Taken)
    (shown : ResponseView) : Type 0 where
  pub come : ComesTo answers stands said messages call shown hand

-- Nothing is in hand, and what comes next may be taken.
abbrev pub MayTake : Option Taken → Call → ResponseView → Type 0
MayTake hand call shown = (hand ≡ None) × IsReady call.handling × (shown.is_live ≡ true)

-- A look at a call takes nothing, or one thing, which is in hand then.
abbrev pub TakesAhead : (List (List ℕ) → Type 0) → List (List ℕ) → Option Taken → Option RequestEnd
    → Option Taken → Option RequestEnd → Type 0
TakesAhead Holds messages old_hand old_said new_hand new_said =
    ((new_hand ≡ old_hand) × (new_said ≡ old_said) × Holds messages)
    ⊎ ((taken : Taken) × (new_hand ≡ Some taken) × Tells taken old_said new_said
    × Holds (grown messages taken))

-- what a turn that did something did
-- one item was given
abbrev pub GivesOne : ResponseView → ResponseView → Type 0
GivesOne before after = (item : OutItem) × (after.given ≡ before.given ++ item ∷ [])

-- one thing was taken
abbrev pub TakesOne : (List (List ℕ) → Type 0) → (List (List ℕ) → Type 0) → Option RequestEnd
    → Option RequestEnd → Type 0
TakesOne Held Holds old_said new_said =
    (taken : Taken) × (taken ≢ taken_as.Nothing) × Tells taken old_said new_said
    × ((messages : List (List ℕ)) → Held messages → Holds (grown messages taken))

-- The call ends for want of memory. It didn't end before, unless its deadline has come since.
abbrev pub RunsOut : Call → Call → Type 0
RunsOut old new = (lacks_memory new.handling.ending ≡ true)
    × ((lacks_memory old.handling.ending ≡ false) ⊎ ((old.overdue ≡ false) × (new.overdue ≡ true)))

-- a step that takes nothing, so the method's answer stays
pub record RunsOn (old : Call) (before : ResponseView) (new : Call)
    (after : ResponseView) : Type 0 where
  pub gives : (said : Option RequestEnd) (answer : MethodStep) → GivesOf said answer old before
      → GivesOf said answer new after
  pub state : new.handling.state ≡ old.handling.state
  pub ends : new.handling.ending ≡ None → old.handling.ending ≡ None

-- the trailers were given, or their place was taken
abbrev pub EndsWith : ResponseView → OutItem → ℕ → ResponseView → Type 0
EndsWith before item code after = (after.is_live ≡ false)
    × (((after.given ≡ before.given ++ item ∷ []) × (after.code ≡ Some code))
    ⊎ ((after.given ≡ before.given) × (after.code ≡ None)))

-- nothing more is given
abbrev pub Leaves : ResponseView → ResponseView → Type 0
Leaves before after =
    (after.is_live ≡ false) × (after.given ≡ before.given) × (after.code ≡ before.code)

-- ---- steps

-- the head, the deadline and whether it has come don't change
abbrev pub SameCall : Call → Call → Type 0
SameCall old new =
    (new.head ≡ old.head) × (new.deadline ≡ old.deadline) × (new.overdue ≡ old.overdue)

-- the reply is the next
abbrev pub IsDueReply : Reply → Call → Type 0
IsDueReply reply call = (rest : List Reply) × (call.handling.waiting ≡ reply ∷ rest)

-- no reply waits, and the call ends
abbrev pub IsEnding : Handling → Type 0
IsEnding handling = (handling.waiting ≡ []) × IsSome handling.ending

-- a call without a reply ends by one block
abbrev pub ends_short : CallHead → Option Ending → Bool
ends_short head None = false
ends_short head (Some way) = is_short head [] (ends_with way)

-- the trailers of a call with this status: after a head or alone
abbrev pub trailers_of : Bool → CallHead → Status → List Field
trailers_of true head status = trailing_fields head status
trailers_of false head status = response_fields [] ++ trailing_fields head status

abbrev pub HasTrailers : Bool → CallHead → Option Ending → List Field → ℕ → Type 0
HasTrailers has_head head None fields code = ⊥
HasTrailers has_head head (Some way) fields code =
    (fields ≡ trailers_of has_head head (ends_with way))
    × (code ≡ status_number (ends_with way).code)

-- the deadline of a call that was opened at this moment; a number over the greatest `u128` counts
-- as that
abbrev pub deadline_of : Option ℕ → ℕ → Option ℕ
deadline_of timeout opened =
    option_map (λ nanoseconds.
    min (nanoseconds + opened) 340282366920938463463374607431768211455) timeout
