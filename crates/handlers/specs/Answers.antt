-- What each method answers to a list of messages, if they have ended and if not (gRPC's
-- interop-test-descriptions.md, "Server").
use Rattle.std.specs.Prelude.{
  ◌≡◌,
  ◌≢◌,
  IsSome,
  ℕ,
  ◌+◌,
  ◌<◌,
  ◌≤◌,
  ◌⊎◌,
  pos,
  Bool,
  true,
  false,
  if◌then◌else◌,
  List,
  [],
  ◌∷◌,
  ◌++◌,
  sum,
  Result,
  Ok,
  Err,
}
use Rattle.std.specs.List.{flat_map, AllByRecursion}
use Rattle.handlers.specs.declared.status.Status.{Status}
use Rattle.handlers.specs.declared.status.Refusal.TheVariants.{SumOutOfRange, WrongNumber}
use Rattle.handlers.specs.declared.reply.Reply.{Reply}
use Rattle.handlers.specs.declared.reply.Reply.TheVariants.{Empty, Zeros, Sum as SumReply}
use Rattle.handlers.specs.declared.state.MethodState.{MethodState}
use Rattle.handlers.specs.declared.state.MethodState.TheVariants.{Fresh, Sum, Taken, Held, Ended}
use Rattle.handlers.specs.Requests.{EmptyVerdict, SimpleVerdict, InputVerdict, OutputVerdict}
use Rattle.handlers.specs.declared.step.MethodStep.{MethodStep}
use Rattle.handlers.specs.Statuses.{status_of}
use Rattle.handlers.specs.Replies.{IsShort}
use Rattle.handlers.specs.Steps.{nothing, replying, ending, done}

-- replies that several requests asked for, in order
abbrev pub flatten : List (List Reply) → List Reply
flatten lists = flat_map (λ (replies : List Reply). replies) lists

-- ---- one message

-- after a first message that asks for these replies: they come with the end, unless there are more
-- messages
abbrev pub after_first : List Reply → List (List ℕ) → Bool → MethodStep
after_first replies (second ∷ others) ended = ending [] (status_of WrongNumber)
after_first replies [] ended = if ended then done replies else nothing

abbrev pub single_answer : Result (List Reply) Status → List (List ℕ) → Bool → MethodStep
single_answer (Err status) others ended = ending [] status
single_answer (Ok replies) others ended = after_first replies others ended

-- The first message is judged at once. No message at the end, or a second one, is the wrong number.
abbrev pub AnswersSingle : (List ℕ → Result (List Reply) Status → Type 0) → List (List ℕ)
    → Bool → MethodStep → Type 0
AnswersSingle judged [] ended answer =
    answer ≡ (if ended then ending [] (status_of WrongNumber) else nothing)
AnswersSingle judged (message ∷ others) ended answer =
    (verdict : Result (List Reply) Status) × judged message verdict
    × (answer ≡ single_answer verdict others ended)

-- ---- any number of messages

-- none of the messages ends the call, and these are what they ask for
abbrev pub AreTaken : {A : Type 0} → (List ℕ → Result A Status → Type 0)
    → List (List ℕ) → List A → Type 0
AreTaken judged [] [] = Unit {0}
AreTaken judged [] (amount ∷ amounts) = ⊥
AreTaken judged (message ∷ messages) [] = ⊥
AreTaken judged (message ∷ messages) (amount ∷ amounts) =
    judged message (Ok amount) × AreTaken judged messages amounts

-- every request was answered
abbrev pub AllAnswered : (List ℕ → Result (List Reply) Status → Type 0) → List (List ℕ)
    → Bool → MethodStep → Type 0
AllAnswered judged messages ended answer =
    (asked : List (List Reply)) × AreTaken judged messages asked
    × (answer ≡ (if ended then done (flatten asked) else replying (flatten asked)))

-- the requests before the first one that ends the call were answered, and that one gave its status
abbrev pub EndedByOne : (List ℕ → Result (List Reply) Status → Type 0)
    → List (List ℕ) → MethodStep → Type 0
EndedByOne judged messages answer =
    (before : List (List ℕ)) × (last : List ℕ) × (after : List (List ℕ))
    × (messages ≡ before ++ last ∷ after)
    × (asked : List (List Reply)) × AreTaken judged before asked × (status : Status)
    × judged last (Err status) × (answer ≡ ending (flatten asked) status)

-- Each request is answered, up to the first that ends the call. Requests after that aren't judged.
abbrev pub AnswersFull : (List ℕ → Result (List Reply) Status → Type 0) → List (List ℕ)
    → Bool → MethodStep → Type 0
AnswersFull judged messages ended answer =
    AllAnswered judged messages ended answer ⊎ EndedByOne judged messages answer

-- each request is answered, up to the first that ends the call, but all at the end
abbrev pub AnswersHalf : (List ℕ → Result (List Reply) Status → Type 0) → List (List ℕ)
    → Bool → MethodStep → Type 0
AnswersHalf judged messages false answer = answer ≡ nothing
AnswersHalf judged messages true answer = AnswersFull judged messages true answer

-- ---- a sum

-- the largest int32
abbrev pub MAX_SUM : ℕ
MAX_SUM = 2147483647

-- the message ends the call by its own status, or by passing the largest sum
abbrev pub EndsSum : (List ℕ → Result ℕ Status → Type 0) → ℕ → List ℕ → Status → Type 0
EndsSum judged before message status =
    judged message (Err status)
    ⊎ ((amount : ℕ) × judged message (Ok amount) × (MAX_SUM < before + amount)
    × (status ≡ status_of SumOutOfRange))

-- the lengths of all bodies are added up
abbrev pub AllAdded : (List ℕ → Result ℕ Status → Type 0) → List (List ℕ) → ℕ → Type 0
AllAdded judged messages total =
    (amounts : List ℕ) × AreTaken judged messages amounts × (total ≡ sum amounts)
    × (total ≤ MAX_SUM)

-- the first message that ends the call gave its status, or the status of the sum
abbrev pub EndedBySum : (List ℕ → Result ℕ Status → Type 0) → List (List ℕ) → MethodStep → Type 0
EndedBySum judged messages answer =
    (before : List (List ℕ)) × (last : List ℕ) × (after : List (List ℕ))
    × (messages ≡ before ++ last ∷ after)
    × (total : ℕ) × AllAdded judged before total × (status : Status)
    × EndsSum judged total last status × (answer ≡ ending [] status)

abbrev pub AnswersSum : (List ℕ → Result ℕ Status → Type 0) → List (List ℕ) → Bool
    → MethodStep → Type 0
AnswersSum judged messages ended answer =
    ((total : ℕ) × AllAdded judged messages total
    × (answer ≡ (if ended then done (SumReply (pos total) ∷ []) else nothing)))
    ⊎ EndedBySum judged messages answer

-- ---- the law of a method

-- A list of messages has at most one answer, if it has ended and if not.
abbrev pub HasOneAnswer : (List (List ℕ) → Bool → MethodStep → Type 0) → Type 0
HasOneAnswer answers =
    (messages : List (List ℕ)) (ended : Bool) (answer other : MethodStep)
    → answers messages ended answer
    → answers messages ended other → answer ≡ other

-- An answer to a list that has ended has a status.
abbrev pub HasStatusAtEnd : (List (List ℕ) → Bool → MethodStep → Type 0) → Type 0
HasStatusAtEnd answers =
    (messages : List (List ℕ)) (answer : MethodStep) → answers messages true answer
    → IsSome answer.ends

-- A list of messages has an answer, if it has ended and if not.
abbrev pub HasAnswer : (List (List ℕ) → Bool → MethodStep → Type 0) → Type 0
HasAnswer answers =
    (messages : List (List ℕ)) (ended : Bool)
    → (answer : MethodStep) × answers messages ended answer

-- The replies to a list that hasn't ended begin the replies to each longer one, if that has ended
-- and if not.
abbrev pub HasGrowingReplies : (List (List ℕ) → Bool → MethodStep → Type 0) → Type 0
HasGrowingReplies answers =
    (messages more : List (List ℕ)) (ended : Bool) (answer later : MethodStep)
    → answers messages false answer → answers (messages ++ more) ended later
    → (rest : List Reply) × (later.replies ≡ answer.replies ++ rest)

-- Each reply fits into a message of a call.
abbrev pub HasShortReplies : (List (List ℕ) → Bool → MethodStep → Type 0) → Type 0
HasShortReplies answers =
    (messages : List (List ℕ)) (ended : Bool) (answer : MethodStep) → answers messages ended answer
    → AllByRecursion IsShort answer.replies

-- the law of a method's answers
pub record IsLawful (answers : List (List ℕ) → Bool → MethodStep → Type 0) : Type 0 where
  pub some : HasAnswer answers
  pub one : HasOneAnswer answers
  pub grows : HasGrowingReplies answers
  pub short : HasShortReplies answers
  pub status : HasStatusAtEnd answers

-- ---- what a state stands for: the messages of the call so far, to which this was answered

-- the call has its status
abbrev pub StandsEnded : (List (List ℕ) → Bool → MethodStep → Type 0) → List (List ℕ)
    → MethodStep → Type 0
StandsEnded answers messages given =
    (messages ≢ []) × answers messages false given × IsSome given.ends

-- EmptyCall keeps only that there was a message.
abbrev pub StandsEmpty : MethodState → List (List ℕ) → MethodStep → Type 0
StandsEmpty Fresh messages given = (messages ≡ []) × (given ≡ nothing)
StandsEmpty Taken messages given =
    (message : List ℕ) × (messages ≡ message ∷ []) × EmptyVerdict message (Ok (Empty ∷ []))
    × (given ≡ nothing)
StandsEmpty (Sum number) messages given = ⊥
StandsEmpty (Held held) messages given = ⊥
StandsEmpty Ended messages given = StandsEnded (AnswersSingle EmptyVerdict) messages given

-- UnaryCall keeps the length that its message asks for.
abbrev pub StandsUnary : MethodState → List (List ℕ) → MethodStep → Type 0
StandsUnary Fresh messages given = (messages ≡ []) × (given ≡ nothing)
StandsUnary (Sum size) messages given =
    (message : List ℕ) × (messages ≡ message ∷ []) × SimpleVerdict message (Ok (Zeros size ∷ []))
    × (given ≡ nothing)
StandsUnary Taken messages given = ⊥
StandsUnary (Held held) messages given = ⊥
StandsUnary Ended messages given = StandsEnded (AnswersSingle SimpleVerdict) messages given

-- StreamingOutputCall holds the replies that its message asks for.
abbrev pub StandsOutput : MethodState → List (List ℕ) → MethodStep → Type 0
StandsOutput Fresh messages given = (messages ≡ []) × (given ≡ nothing)
StandsOutput (Held held) messages given =
    (message : List ℕ) × (messages ≡ message ∷ []) × (replies : List Reply)
    × OutputVerdict message (Ok replies) × (held ≡ replying replies) × (given ≡ nothing)
StandsOutput Taken messages given = ⊥
StandsOutput (Sum number) messages given = ⊥
StandsOutput Ended messages given = StandsEnded (AnswersSingle OutputVerdict) messages given

-- FullDuplexCall keeps nothing.
abbrev pub StandsFull : MethodState → List (List ℕ) → MethodStep → Type 0
StandsFull Fresh messages given = AllAnswered OutputVerdict messages false given
StandsFull (Sum number) messages given = ⊥
StandsFull Taken messages given = ⊥
StandsFull (Held held) messages given = ⊥
StandsFull Ended messages given = EndedByOne OutputVerdict messages given

-- StreamingInputCall keeps the sum.
abbrev pub StandsSum : MethodState → List (List ℕ) → MethodStep → Type 0
StandsSum Fresh messages given = ⊥
StandsSum (Sum total) messages given = AllAdded InputVerdict messages total × (given ≡ nothing)
StandsSum Taken messages given = ⊥
StandsSum (Held held) messages given = ⊥
StandsSum Ended messages given = EndedBySum InputVerdict messages given

-- HalfDuplexCall holds what FullDuplexCall would have answered.
abbrev pub StandsHalf : MethodState → List (List ℕ) → MethodStep → Type 0
StandsHalf Fresh messages given = (messages ≡ []) × (given ≡ nothing)
StandsHalf (Sum number) messages given = ⊥
StandsHalf Taken messages given = ⊥
StandsHalf (Held held) messages given =
    AnswersFull OutputVerdict messages false held × (given ≡ nothing)
StandsHalf Ended messages given = ⊥
