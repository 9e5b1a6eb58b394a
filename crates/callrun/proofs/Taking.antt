-- What is made of what was taken.
use Rattle.std.proofs.Common.{
  ◌≡◌,
  ◌≢◌,
  ◌⊎◌,
  inl,
  inr,
  refl,
  sym,
  ap,
  subst,
  ◌∙◌,
  ℕ,
  Bool,
  true,
  false,
  List,
  [],
  ◌∷◌,
  ◌++◌,
  Option,
  None,
  Some,
  Result,
  Ok,
  Err,
  append-nil,
}
use Rattle.std.specs.Prelude.{IsSome, IfOk, IfSome}
use Rattle.lpm.specs.declared.fault.LpmFault.{LpmFault}
use Rattle.lpm.specs.declared.fault.LpmFault.TheVariants as fault
use Rattle.callbox.specs.InSides.{Tells, TellsFault, grown}
use Rattle.callbox.specs.declared.taker.Taken.{Taken}
use Rattle.callbox.specs.declared.taker.Taken.TheVariants as taken_as
use Rattle.account.specs.declared.call.OutItem.{OutItem}
use Rattle.account.specs.declared.call.RequestEnd.{RequestEnd}
use Rattle.account.specs.declared.call.RequestEnd.TheVariants as told
use Rattle.callhead.specs.declared.head.CallHead.{CallHead}
use Rattle.callhead.specs.declared.head.Encoding.{Encoding}
use Rattle.callhead.specs.declared.head.Encoding.TheVariants.{Identity, Other}
use Rattle.handlers.specs.declared.fault.MethodFault.{MethodFault}
use Rattle.handlers.specs.declared.reply.Reply.{Reply}
use Rattle.handlers.specs.declared.state.MethodState.{MethodState}
use Rattle.handlers.specs.declared.status.Status.{Status}
use Rattle.handlers.specs.declared.step.MethodStep.{MethodStep}
use Rattle.handlers.specs.Steps.{joined, first_status, nothing}
use Rattle.callrun.specs.declared.call.Call.{Call}
use Rattle.callrun.specs.declared.cause.Cause.{Cause}
use Rattle.callrun.specs.declared.cause.Cause.TheVariants.{Cancelled, OutOfMemory}
use Rattle.callrun.specs.declared.ending.Ending.{Ending}
use Rattle.callrun.specs.declared.ending.Ending.TheVariants as ending
use Rattle.callrun.specs.declared.handling.Handling.{Handling}
use Rattle.callrun.specs.Statuses.{cause_of}
use Rattle.callrun.specs.Outcomes.{is_end, Stood, IsBegun}
use Rattle.handlers.specs.Answers.{IsLawful}
use Rattle.callrun.specs.Handlings.{
  EndsSo,
  LastsLong,
  IsStanding,
  IsReady,
  Accepts,
  Answers,
  EndsBy,
  method_ending,
}
use Rattle.callrun.specs.Sides.{ResponseView, is_open, shown}
use Rattle.callrun.specs.declared.response.Response.{Response}
use Rattle.callrun.specs.declared.response.Response.TheVariants as response
use Rattle.callrun.specs.Runs.{HasRun, RunsOn}
use Rattle.callrun.proofs.Steps.{front_of, going_cut, live, reached}

-- no reason for a head
no_reason : (head : CallHead) (waiting : List Reply) (way : Option Ending) → waiting ≡ []
    → way ≡ None → (waiting ≢ []) ⊎ LastsLong head way → ⊥
no_reason head waiting way none goes (inl some) = some none
no_reason head waiting way none goes (inr long) =
    subst (λ (w : Option Ending). LastsLong head w) goes long

no_way : (e : Ending) (way : Option Ending) → way ≡ Some e → way ≡ None → ⊥
no_way e way is none = let both = sym is ∙ none in cc

no_method : (ends : Option Status) → method_ending ends ≡ None → ends ≡ None
no_method None is = refl
no_method (Some status) is = absurd (cc)

-- ---- a step of the method

-- what was answered by then, and what a step gave
joined_so : (answer answered step : MethodStep) (head : CallHead) (overdue : Bool)
    (said : Option RequestEnd)
    (waiting : List Reply) (ends : Option Status)
    → answer ≡ joined answered step → answered.ends ≡ None → step.ends ≡ ends
    → waiting ≡ step.replies
    → EndsSo answer head overdue said answered.replies waiting (method_ending ends)
joined_so answer answered step head overdue said waiting None same goes is waits = (
  ap (λ (s : MethodStep). s.replies) same
      ∙ ap (λ (r : List Reply). answered.replies ++ r) (sym waits),
  ap (λ (s : MethodStep). s.ends) same
      ∙ ap (λ (e : Option Status). first_status e step.ends) goes ∙ is,
)
joined_so answer answered step head overdue said waiting (Some status) same goes is waits = (
  ap (λ (s : MethodStep). s.replies) same
      ∙ ap (λ (r : List Reply). answered.replies ++ r) (sym waits),
  ap (λ (s : MethodStep). s.ends) same
      ∙ ap (λ (e : Option Status). first_status e step.ends) goes ∙ is,
)

-- a step that failed ends the call, and what was given begins whatever is answered
failed_so : (answer answered : MethodStep) (head : CallHead) (overdue : Bool)
    (said : Option RequestEnd) (new : Handling)
    → (rest : List Reply) × (answer.replies ≡ answered.replies ++ rest)
    → new.waiting ≡ [] → new.ending ≡ Some (ending.Cause OutOfMemory)
    → EndsSo answer head overdue said answered.replies new.waiting new.ending
failed_so answer answered head overdue said new begins none ends =
    subst
    (λ (way : Option Ending). EndsSo answer head overdue said answered.replies new.waiting way)
    (sym ends) (tt, none, begins)

some_end : (answered step : MethodStep) → answered.ends ≡ None → IsSome (joined answered step).ends
    → method_ending step.ends ≡ None → ⊥
some_end answered step goes some none =
    let ends : (joined answered step).ends ≡ None =
    ap (λ (e : Option Status). first_status e step.ends) goes ∙ no_method step.ends none in
    let none_is_some = subst (λ (e : Option Status). IsSome e) ends some in
    cc

-- all that was answered was given
all_given : (answered : MethodStep) (head : CallHead) (overdue : Bool) (said : Option RequestEnd)
    (done waiting : List Reply) (way : Option Ending)
    → waiting ≡ [] → way ≡ None
    → EndsSo answered head overdue said done waiting way → answered.replies ≡ done
all_given answered head overdue said done waiting None none goes at =
    at.0 ∙ ap (λ (w : List Reply). done ++ w) none ∙ append-nil done
all_given answered head overdue said done waiting (Some way) none goes at =
    absurd (no_way way (Some way) refl goes)

module _ {answers : List (List ℕ) → Bool → MethodStep → Type 0}
    {stands : MethodState → List (List ℕ) → MethodStep → Type 0} where
  -- what a message or the end was answered with, behind what was answered before
  step_each : (messages all : List (List ℕ)) (next : Option RequestEnd) (state : MethodState)
      (new : Handling) (step : MethodStep)
      → IsLawful answers
      → (standing : IsStanding answers stands None messages state)
      → answers all (is_end next) (joined standing.answered step)
      → new.waiting ≡ step.replies → new.ending ≡ method_ending step.ends
      → (answered answer : MethodStep) → answers messages false answered
      → answers all (is_end next) answer
      → (head : CallHead) (overdue : Bool)
      → EndsSo answer head overdue next answered.replies new.waiting new.ending
  step_each messages all next state new step lawful standing joins waits ends answered answer
      was is head overdue =
      let same = lawful.one all (is_end next) answer (joined standing.answered step) is joins in
      let before = lawful.one messages false answered standing.answered was standing.answer in
      subst (λ (way : Option Ending).
      EndsSo answer head overdue next answered.replies new.waiting way) (sym ends)
      (subst (λ (s : MethodStep).
      EndsSo answer head overdue next s.replies new.waiting (method_ending step.ends)) (sym before)
      (joined_so answer standing.answered step head overdue next new.waiting step.ends same
      standing.unended refl waits))

  -- a message
  pub message_answers : (messages : List (List ℕ)) (message : List ℕ) (old : MethodState)
      (mid new : Handling) (step : Result MethodStep MethodFault)
      → IsLawful answers
      → IsStanding answers stands None messages old
      → IfOk step (λ s.
      (ms : List (List ℕ)) (given : MethodStep) → stands old ms given
      → stands mid.state (ms ++ message ∷ []) (joined given s))
      → IfOk step (λ s.
      (ms : List (List ℕ)) (given : MethodStep) → stands old ms given
      → answers (ms ++ message ∷ []) false (joined given s))
      → Accepts step mid new → Answers answers stands None messages (messages ++ message ∷ []) new
  message_answers messages message old mid new (Ok step) lawful standing stays joins
      accepts = record {
        each =
            step_each messages (messages ++ message ∷ []) None old new step lawful standing
            (joins messages standing.answered standing.standing) accepts.1 accepts.2;
        standing = λ none. record {
          answered = joined standing.answered step;
          standing =
              subst (λ (s : MethodState).
              stands s (messages ++ message ∷ []) (joined standing.answered step)) (sym accepts.0)
              (stays messages standing.answered standing.standing);
          answer = joins messages standing.answered standing.standing;
          unended =
              ap (λ (e : Option Status). first_status e step.ends) standing.unended
              ∙ no_method step.ends (sym accepts.2 ∙ none);
          untold = refl;
        };
      }
  message_answers messages message old mid new (Err fault) lawful standing stays joins
      accepts = record {
        each = λ answered answer was is head overdue.
            failed_so answer answered head overdue None new
            (lawful.grows messages (message ∷ []) false answered answer was is) accepts.1 accepts.2;
        standing = λ none. absurd (no_way (ending.Cause OutOfMemory) new.ending accepts.2 none);
      }

  -- the end
  pub end_answers : (messages : List (List ℕ)) (old : MethodState) (mid new : Handling)
      (step : Result MethodStep MethodFault)
      → IsLawful answers
      → IsStanding answers stands None messages old
      → IfOk step (λ s.
      (ms : List (List ℕ)) (given : MethodStep) → stands old ms given
      → answers ms true (joined given s))
      → Accepts step mid new → Answers answers stands (Some told.End) messages messages new
  end_answers messages old mid new (Ok step) lawful standing joins accepts =
      let whole = joins messages standing.answered standing.standing in
      record {
        each =
            step_each messages messages (Some told.End) old new step lawful standing whole
            accepts.1 accepts.2;
        standing = λ none.
            absurd (some_end standing.answered step standing.unended
            (lawful.status messages (joined standing.answered step) whole) (sym accepts.2 ∙ none));
      }
  end_answers messages old mid new (Err fault) lawful standing joins accepts = record {
    each = λ answered answer was is head overdue.
        failed_so answer answered head overdue (Some told.End) new
        (lawful.grows messages [] true answered answer was
        (subst (λ (ms : List (List ℕ)). answers ms true answer) (sym (append-nil messages)) is))
        accepts.1 accepts.2;
    standing = λ none. absurd (no_way (ending.Cause OutOfMemory) new.ending accepts.2 none);
  }

  -- ---- the whole call

  -- the method answered
  answer_run : (next : Option RequestEnd) (messages all : List (List ℕ)) (old new : Call)
      (given : List OutItem)
      → IsReady old.handling → new.head ≡ old.head → new.overdue ≡ old.overdue
      → Answers answers stands next messages all new.handling
      → HasRun answers stands None messages old (live given)
      → HasRun answers stands next all new (live given)
  answer_run next messages all old new given ready same_head same_overdue made run =
      let standing = run.standing ready.1 in
      let going = (run.each standing.answered standing.answer).going refl in
      let whole =
      all_given standing.answered old.head old.overdue None going.done old.handling.waiting
      old.handling.ending ready.0 ready.1 going.at in
      record {
        lawful = run.lawful;
        each = λ answer is. reached next answer new given (record {
          done = going.done;
          at =
              subst (λ (done : List Reply).
              EndsSo answer new.head new.overdue next done new.handling.waiting
              new.handling.ending) whole
              (made.each standing.answered answer standing.answer is new.head new.overdue);
          begun = subst (λ (h : CallHead). IsBegun h going.done given) (sym same_head) going.begun;
          due = λ none some.
              absurd (no_reason old.head old.handling.waiting old.handling.ending ready.0 ready.1
              (going.due none some));
        });
        standing = made.standing;
      }

  pub message_run : (said next : Option RequestEnd) (messages all : List (List ℕ)) (old new : Call)
      (given : List OutItem)
      → next ≡ said → IsReady old.handling → new.head ≡ old.head → new.overdue ≡ old.overdue
      → (IsLawful answers → IsStanding answers stands None messages old.handling.state
      → Answers answers stands None messages all new.handling)
      → HasRun answers stands said messages old (live given)
      → HasRun answers stands next all new (live given)
  message_run said next messages all old new given same ready same_head same_overdue made run =
      let untold = (run.standing ready.1).untold in
      let before =
      subst (λ (t : Option RequestEnd).
      HasRun answers stands t messages old (live given)) untold run in
      subst (λ (t : Option RequestEnd). HasRun answers stands t all new (live given))
      (sym (same ∙ untold))
      (answer_run None messages all old new given ready same_head same_overdue
      (made run.lawful (before.standing ready.1)) before)

  pub end_run : (said next : Option RequestEnd) (messages : List (List ℕ)) (old new : Call)
      (given : List OutItem)
      → next ≡ Some told.End → IsReady old.handling → new.head ≡ old.head
      → new.overdue ≡ old.overdue
      → (IsLawful answers → IsStanding answers stands None messages old.handling.state
      → Answers answers stands (Some told.End) messages messages new.handling)
      → HasRun answers stands said messages old (live given)
      → HasRun answers stands next messages new (live given)
  end_run said next messages old new given same ready same_head same_overdue made run =
      let untold = (run.standing ready.1).untold in
      let before =
      subst (λ (t : Option RequestEnd).
      HasRun answers stands t messages old (live given)) untold run in
      subst (λ (t : Option RequestEnd).
      HasRun answers stands t messages new (live given)) (sym same)
      (answer_run (Some told.End) messages messages old new given ready same_head same_overdue
      (made run.lawful (before.standing ready.1)) before)

  -- what was told ends the call
  pub cut_run : (cause : Cause) (said next : Option RequestEnd) (messages : List (List ℕ))
      (old new : Call) (given : List OutItem)
      → IsReady old.handling → new.head ≡ old.head → new.overdue ≡ old.overdue
      → EndsBy cause old.handling new.handling
      → (said ≡ None → Stood cause new.head new.overdue next × (is_end next ≡ is_end said))
      → HasRun answers stands said messages old (live given)
      → HasRun answers stands next messages new (live given)
  cut_run cause said next messages old new given ready same_head same_overdue ends tells run =
      let stood = tells (run.standing ready.1).untold in
      record {
        lawful = run.lawful;
        each = λ answer is.
            let going =
            (run.each answer (subst (λ (b : Bool). answers messages b answer) stood.1 is)).going
            refl in
            reached next answer new given
            (going_cut cause answer new.head new.overdue next new.handling going.done given stood.0
            (front_of answer old.head old.overdue said going.done old.handling.waiting
            old.handling.ending going.at)
            (subst (λ (h : CallHead). IsBegun h going.done given) (sym same_head)
            going.begun) ends.1 ends.2);
        standing = λ none. absurd (no_way (ending.Cause cause) new.handling.ending ends.2 none);
      }

  -- nothing was told
  pub same_run : (said next : Option RequestEnd) (messages : List (List ℕ)) (call : Call)
      (given : List OutItem)
      → (said ≡ None) × (next ≡ None)
      → HasRun answers stands said messages call (live given)
      → HasRun answers stands next messages call (live given)
  same_run said next messages call given same run =
      subst (λ (t : Option RequestEnd). HasRun answers stands t messages call (live given))
      (same.0 ∙ sym same.1) run

  -- a step in which nothing is taken
  pub step_run : (said : Option RequestEnd) (messages : List (List ℕ)) (old new : Call)
      (before after : ResponseView)
      → RunsOn old before new after
      → HasRun answers stands said messages old before
      → HasRun answers stands said messages new after
  step_run said messages old new before after step run = record {
    lawful = run.lawful;
    each = λ answer is. step.gives said answer (run.each answer is);
    standing = λ none.
        subst (λ (s : MethodState). IsStanding answers stands said messages s) (sym step.state)
        (run.standing (step.ends none));
  }

not_end : (said next : Option RequestEnd) (f : LpmFault) → said ≡ None → next ≡ Some (told.Fault f)
    → is_end next ≡ is_end said
not_end said next f none is = ap is_end is ∙ sym (ap is_end none)

pub reset_stood : (code : ℕ) (head : CallHead) (overdue : Bool) (said next : Option RequestEnd)
    → next ≡ Some (told.Reset code) → said ≡ None
    → ((c : ℕ) × (next ≡ Some (told.Reset c))) × (is_end next ≡ is_end said)
reset_stood code head overdue said next is none = ((code, is), ap is_end is ∙ sym (ap is_end none))

-- the cause of a fault that was told stood
pub fault_stood : (f : LpmFault) (head : CallHead) (encoding : Encoding) (overdue : Bool)
    (said next : Option RequestEnd)
    → head.encoding ≡ encoding → TellsFault f said next → said ≡ None
    → Stood (cause_of f encoding) head overdue next × (is_end next ≡ is_end said)
fault_stood fault.Compressed head Other overdue said next by tells none =
    ((tells, by), not_end said next fault.Compressed none tells)
fault_stood fault.Compressed head Identity overdue said next by tells none =
    ((tells, by), not_end said next fault.Compressed none tells)
fault_stood fault.BadFlag head encoding overdue said next by tells none =
    (tells, not_end said next fault.BadFlag none tells)
fault_stood fault.TooLong head encoding overdue said next by tells none =
    (tells, not_end said next fault.TooLong none tells)
fault_stood fault.CutAtEnd head encoding overdue said next by tells none =
    (tells, not_end said next fault.CutAtEnd none tells)
fault_stood fault.OutOfMemory head encoding overdue said next by tells none = (tt, ap is_end tells)

-- ---- by what was taken

module _ (answers : List (List ℕ) → Bool → MethodStep → Type 0)
    (stands : MethodState → List (List ℕ) → MethodStep → Type 0) where
  pub by_message : (taken : Taken) (message : List ℕ) (old new : Call)
      (said next : Option RequestEnd)
      (messages : List (List ℕ)) (given : List OutItem)
      → taken ≡ taken_as.Message message
      → IsReady old.handling → new.head ≡ old.head → new.overdue ≡ old.overdue
      → (IsLawful answers → IsStanding answers stands None messages old.handling.state
      → Answers answers stands None messages (messages ++ message ∷ []) new.handling)
      → Tells taken said next → HasRun answers stands said messages old (live given)
      → HasRun answers stands next (grown messages taken) new (live given)
  by_message taken message old new said next messages given is ready same_head
      same_overdue made tells run =
      subst (λ (t : Taken). HasRun answers stands next (grown messages t) new (live given)) (sym is)
      (message_run said next messages (messages ++ message ∷ []) old new given
      (subst (λ (t : Taken). Tells t said next) is tells) ready same_head same_overdue made run)

  pub by_end : (taken : Taken) (old new : Call) (said next : Option RequestEnd)
      (messages : List (List ℕ))
      (given : List OutItem)
      → taken ≡ taken_as.End
      → IsReady old.handling → new.head ≡ old.head → new.overdue ≡ old.overdue
      → (IsLawful answers → IsStanding answers stands None messages old.handling.state
      → Answers answers stands (Some told.End) messages messages new.handling)
      → Tells taken said next → HasRun answers stands said messages old (live given)
      → HasRun answers stands next (grown messages taken) new (live given)
  by_end taken old new said next messages given is ready same_head same_overdue made tells run =
      subst (λ (t : Taken). HasRun answers stands next (grown messages t) new (live given)) (sym is)
      (end_run said next messages old new given (subst (λ (t : Taken). Tells t said next) is tells)
      ready same_head same_overdue made run)

  pub by_nothing : (taken : Taken) (call : Call) (said next : Option RequestEnd)
      (messages : List (List ℕ)) (given : List OutItem)
      → taken ≡ taken_as.Nothing
      → Tells taken said next → HasRun answers stands said messages call (live given)
      → HasRun answers stands next (grown messages taken) call (live given)
  by_nothing taken call said next messages given is tells run =
      subst (λ (t : Taken).
      HasRun answers stands next (grown messages t) call (live given)) (sym is)
      (same_run said next messages call given
      (subst (λ (t : Taken). Tells t said next) is tells) run)

  pub by_reset : (taken : Taken) (code : ℕ) (old new : Call) (said next : Option RequestEnd)
      (messages : List (List ℕ)) (given : List OutItem)
      → taken ≡ taken_as.Reset code
      → IsReady old.handling → new.head ≡ old.head → new.overdue ≡ old.overdue
      → EndsBy Cancelled old.handling new.handling
      → Tells taken said next → HasRun answers stands said messages old (live given)
      → HasRun answers stands next (grown messages taken) new (live given)
  by_reset taken code old new said next messages given is ready same_head
      same_overdue ends tells run =
      subst (λ (t : Taken). HasRun answers stands next (grown messages t) new (live given)) (sym is)
      (cut_run Cancelled said next messages old new given ready same_head same_overdue ends
      (reset_stood code new.head new.overdue said next
      (subst (λ (t : Taken). Tells t said next) is tells)) run)

  pub by_fault : (taken : Taken) (f : LpmFault) (old new : Call) (said next : Option RequestEnd)
      (messages : List (List ℕ)) (given : List OutItem)
      → taken ≡ taken_as.Fault f
      → IsReady old.handling → new.head ≡ old.head → new.overdue ≡ old.overdue
      → EndsBy (cause_of f new.head.encoding) old.handling new.handling
      → Tells taken said next → HasRun answers stands said messages old (live given)
      → HasRun answers stands next (grown messages taken) new (live given)
  by_fault taken f old new said next messages given is ready same_head same_overdue ends tells run =
      subst (λ (t : Taken). HasRun answers stands next (grown messages t) new (live given)) (sym is)
      (cut_run (cause_of f new.head.encoding) said next messages old new given ready
      same_head same_overdue ends
      (fault_stood f new.head new.head.encoding new.overdue said next refl
      (subst (λ (t : Taken). Tells t said next) is tells)) run)

  -- ---- a call whose response is open

  pub opened_run : {G S : Type 0} (of_open : G → List OutItem) (of_shut : S → List OutItem)
      (was_placed : S → Bool) (r : Response G S) (said next : Option RequestEnd)
      (messages all : List (List ℕ)) (old new : Call)
      → is_open r ≡ true
      → ((given : List OutItem) → HasRun answers stands said messages old (live given)
      → HasRun answers stands next all new (live given))
      → HasRun answers stands said messages old (shown of_open of_shut was_placed r)
      → HasRun answers stands next all new (shown of_open of_shut was_placed r)
  opened_run of_open of_shut was_placed (response.Open giver) said next messages all old new is step
      run = step (of_open giver) run
  opened_run of_open of_shut was_placed (response.Left giver) said next messages all old new is
      step run = absurd (cc)
  opened_run of_open of_shut was_placed (response.Shut end code) said next messages all old new is
      step run = absurd (cc)
  opened_run of_open of_shut was_placed response.Gone said next messages all old new is
      step run = absurd (cc)

  -- no message was taken
  pub fresh_run : (call : Call) (given : List OutItem) → IsLawful answers
      → IsStanding answers stands None [] call.handling.state → answers [] false nothing
      → IsReady call.handling → given ≡ []
      → HasRun answers stands None [] call (live given)
  fresh_run call given lawful standing none ready empty = record {
    lawful = lawful;
    each = λ answer is.
        let same = lawful.one [] false answer nothing is none in
        reached None answer call given (record {
          done = [];
          at =
              subst (λ (way : Option Ending).
              EndsSo answer call.head call.overdue None [] call.handling.waiting
              way) (sym ready.1) (
                ap (λ (s : MethodStep). s.replies) same ∙ sym ready.0,
                ap (λ (s : MethodStep). s.ends) same,
              );
          begun = inl (refl, empty);
          due = λ no_reply some. absurd (some empty);
        });
    standing = λ goes. standing;
  }

-- the messages that an answer takes
abbrev pub more_of : Taken → List (List ℕ)
more_of (taken_as.Message message) = message ∷ []
more_of taken_as.Nothing = []
more_of taken_as.End = []
more_of (taken_as.Reset code) = []
more_of (taken_as.Fault f) = []

pub grown_more : (taken : Taken) (messages : List (List ℕ))
    → grown messages taken ≡ messages ++ more_of taken
grown_more (taken_as.Message message) messages = refl
grown_more taken_as.Nothing messages = sym (append-nil messages)
grown_more taken_as.End messages = sym (append-nil messages)
grown_more (taken_as.Reset code) messages = sym (append-nil messages)
grown_more (taken_as.Fault f) messages = sym (append-nil messages)

-- ---- of a method that is there

pub if_all : {A : Type 0} (found : Option A) (Q : A → Type 0) → ((x : A) → Q x) → IfSome found Q
if_all None Q all = tt
if_all (Some x) Q all = all x

pub if_more : {A : Type 0} (found : Option A) (P Q : A → Type 0) → ((x : A) → P x → Q x)
    → IfSome found P → IfSome found Q
if_more None P Q more holds = tt
if_more (Some x) P Q more holds = more x holds

pub if_is : {A : Type 0} (found : Option A) (x : A) (Q : A → Type 0) → Some x ≡ found
    → Q x → IfSome found Q
if_is found x Q is holds = subst (λ o. IfSome o Q) is holds

-- what a turn takes
module _ {answers : List (List ℕ) → Bool → MethodStep → Type 0}
    {stands : MethodState → List (List ℕ) → MethodStep → Type 0} where
  pub taken_run : (Holds : List (List ℕ) → Type 0) (taken : Taken) (next : Option RequestEnd)
      (messages : List (List ℕ)) (call : Call) (after : ResponseView)
      → Holds (grown messages taken)
      → HasRun answers stands next (grown messages taken) call after
      → (more : List (List ℕ)) × Holds (messages ++ more)
      × HasRun answers stands next (messages ++ more) call after
  taken_run Holds taken next messages call after took run = (
    more_of taken,
    subst Holds (grown_more taken messages) took,
    subst (λ (ms : List (List ℕ)). HasRun answers stands next ms call after)
        (grown_more taken messages) run,
  )

  pub kept_run : (Holds : List (List ℕ) → Type 0) (next : Option RequestEnd)
      (messages : List (List ℕ))
      (call : Call) (after : ResponseView)
      → Holds messages
      → HasRun answers stands next messages call after
      → (more : List (List ℕ)) × Holds (messages ++ more)
      × HasRun answers stands next (messages ++ more) call after
  kept_run Holds next messages call after took run = (
    [],
    subst Holds (sym (append-nil messages)) took,
    subst (λ (ms : List (List ℕ)). HasRun answers stands next ms call after)
        (sym (append-nil messages)) run,
  )
