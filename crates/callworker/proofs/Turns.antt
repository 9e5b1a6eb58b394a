-- The turns of a call, and what stands at its end.
use Rattle.std.proofs.Common.{
  ◌≡◌,
  ◌∙◌,
  ◌⊎◌,
  inl,
  inr,
  ap,
  refl,
  subst,
  sym,
  ℕ,
  ◌≤◌,
  Bool,
  true,
  false,
  List,
  [],
  ◌∷◌,
  ◌++◌,
  Option,
  None,
  Some,
  append-nil,
  append_assoc,
}
use Rattle.std.specs.Prelude.{IfSome, IsSome, IsSomeAnd, option_map, slice_get}
use Rattle.lane.specs.RingLane.{got, out_name, put_in, put_shut}
use Rattle.account.specs.declared.call.OutItem.{OutItem}
use Rattle.account.specs.declared.call.OutItem.TheVariants.{Left}
use Rattle.account.specs.declared.call.RequestEnd.{RequestEnd}
use Rattle.callbox.specs.InSides.{TakesMessages}
use Rattle.callbox.specs.declared.piece.InPiece.{InPiece}
use Rattle.callbox.specs.declared.taker.Progress.{Progress}
use Rattle.callbox.specs.declared.taker.Taken.{Taken}
use Rattle.callhead.specs.declared.head.CallHead.{CallHead}
use Rattle.handlers.specs.declared.state.MethodState.{MethodState}
use Rattle.handlers.specs.declared.step.MethodStep.{MethodStep}
use Rattle.callrun.specs.declared.call.Call.{Call}
use Rattle.callrun.specs.declared.response.Response.{Response}
use Rattle.callrun.specs.Outcomes.{IsOutcome, is_end}
use Rattle.callrun.specs.Runs.{GivesOf, HasCome, HasRun, SameCall, deadline_of}
use Rattle.callrun.specs.Sides.{is_open}
use Rattle.callrun.proofs.Ahead.{with_none}
use Rattle.callrun.proofs.Listing.{closed_run}
use Rattle.callparts.specs.declared.work.Request.{Request}
use Rattle.callparts.specs.declared.work.Work.{Work}
use Rattle.callparts.specs.Lanes.{OutGiven, OutGiver}
use Rattle.callparts.specs.Workers.{Answers, AnswersAt, IsAnswered, IsGivenAs, IsWithin, answers_by}
use Rattle.callworker.specs.Runs.{
  EndsAs,
  GoesOn,
  IsOneCall,
  LeadsOn,
  LaneRun,
  giver_name,
  shown_by,
  shows,
}

owes_less : (items : List InPiece) (p q : Progress) (messages : List (List ℕ))
    → q ≡ record p { owed = 0 } → TakesMessages items p messages → TakesMessages items q messages
owes_less items p q messages less took =
    subst (λ (r : Progress). TakesMessages items r messages) (sym less) (record {
      missing = took.missing;
      whole = took.whole;
      each = took.each;
      unread = took.unread;
      closed = took.closed;
      telling = took.telling;
      count = took.count;
    })

-- ---- one call

some_of : {A : Type 0} (P : A → Type 0) (found : Option A) → IsSomeAnd found P → IsSome found
some_of P None has = absurd has
some_of P (Some a) has = refl

pub one_call_none : (a : LaneRun) → IsOneCall a a
one_call_none a = (refl, refl, refl, refl, refl, λ late. inl late)

pub one_call_then : (a b c : LaneRun) → IsOneCall a b → IsOneCall b c → IsOneCall a c
one_call_then a b c first second = (
  second.0 ∙ first.0,
  second.1 ∙ first.1,
  second.2 ∙ first.2,
  second.3 ∙ first.3,
  second.4 ∙ first.4,
  λ late. elim (second.5 late) [
    | inl before ↦ first.5 before
    | inr timed ↦ inr (subst (λ (d : Option ℕ). IsSome d) first.4 timed)
  ],
)

-- a turn
pub one_call_turned : (a b : LaneRun) (now : ℕ) → out_name b.taker.rx ≡ out_name a.taker.rx
    → giver_name b.response ≡ giver_name a.response
    → (b.index ≡ a.index) × (b.call.head ≡ a.call.head) × (b.call.deadline ≡ a.call.deadline)
    → (b.call.overdue ≡ true
    → (a.call.overdue ≡ true) ⊎ IsSomeAnd a.call.deadline (λ deadline. deadline ≤ now))
    → IsOneCall a b
one_call_turned a b now in_name name same overdue = (
  in_name,
  name,
  same.0,
  same.1,
  same.2,
  λ late. elim (overdue late) [
    | inl before ↦ inl before
    | inr timed ↦ inr (some_of (λ deadline. deadline ≤ now) a.call.deadline timed)
  ],
)

-- what came was returned
pub one_call_credited : (a b : LaneRun) → b.taker.rx ≡ a.taker.rx
    → (b.index ≡ a.index) × (b.call ≡ a.call) × (b.in_hand ≡ a.in_hand) × (b.response ≡ a.response)
    → IsOneCall a b
one_call_credited a b rx same = (
  ap out_name rx,
  ap giver_name same.3,
  same.0,
  ap (λ (call : Call). call.head) same.1,
  ap (λ (call : Call). call.deadline) same.1,
  λ late. inl (sym (ap (λ (call : Call). call.overdue) same.1) ∙ late),
)

-- it was left
pub one_call_left : (a b : LaneRun) → giver_name b.response ≡ giver_name a.response
    → (b.index ≡ a.index) × (b.taker ≡ a.taker) × SameCall a.call b.call → IsOneCall a b
one_call_left a b name same = (
  ap (λ t. out_name t.rx) same.1,
  name,
  same.0,
  same.2.0,
  same.2.1,
  λ late. inl (sym same.2.2 ∙ late),
)

-- ---- what leads to it

module _ {A : Type 0} (answers : A → List (List ℕ) → Bool → MethodStep → Type 0)
    (stands : A → MethodState → List (List ℕ) → MethodStep → Type 0) (methods : List A) where
  stays : (found : Option A) (a : LaneRun) → IfSome found (λ m. LeadsOn (answers m) (stands m) a a)
  stays None a = tt
  stays (Some m) a = λ messages took come. (
    [],
    subst (λ (ms : List (List ℕ)). TakesMessages (got a.taker.rx) a.taker.progress ms)
        (sym (append-nil messages)) took,
    subst (λ (ms : List (List ℕ)).
        HasCome (answers m) (stands m) a.taker.progress.told ms a.call a.in_hand (shows a))
        (sym (append-nil messages)) come,
  )

  pub goes_none : (a : LaneRun) → GoesOn answers stands methods a a
  goes_none a = stays (slice_get methods a.index) a

  follows : (found after : Option A) (a b c : LaneRun) → after ≡ found
      → IfSome found (λ m. LeadsOn (answers m) (stands m) a b)
      → IfSome after (λ m. LeadsOn (answers m) (stands m) b c)
      → IfSome found (λ m. LeadsOn (answers m) (stands m) a c)
  follows None after a b c same first second = tt
  follows (Some m) after a b c same first second = λ messages took come.
      let one = first messages took come in
      let then_so =
      subst (λ (found : Option A).
      IfSome found (λ n. LeadsOn (answers n) (stands n) b c)) same second in
      let two = then_so (messages ++ one.0) one.1 one.2 in (
        one.0 ++ two.0,
        subst (λ (ms : List (List ℕ)). TakesMessages (got c.taker.rx) c.taker.progress ms)
            (append_assoc messages one.0 two.0) two.1,
        subst (λ (ms : List (List ℕ)).
            HasCome (answers m) (stands m) c.taker.progress.told ms c.call c.in_hand (shows c))
            (append_assoc messages one.0 two.0) two.2,
      )

  pub goes_then : (a b c : LaneRun) → b.index ≡ a.index → GoesOn answers stands methods a b
      → GoesOn answers stands methods b c → GoesOn answers stands methods a c
  goes_then a b c same first second =
      follows (slice_get methods a.index) (slice_get methods b.index) a b c
      (ap (λ (i : ℕ). slice_get methods i) same) first second

  credited : (found : Option A) (a b : LaneRun) → b.taker.rx ≡ a.taker.rx
      → b.taker.progress ≡ record a.taker.progress { owed = 0 }
      → (b.index ≡ a.index) × (b.call ≡ a.call) × (b.in_hand ≡ a.in_hand)
      × (b.response ≡ a.response)
      → IfSome found (λ m. LeadsOn (answers m) (stands m) a b)
  credited None a b rx less same = tt
  credited (Some m) a b rx less same = λ messages took come. (
    [],
    subst (λ (ms : List (List ℕ)). TakesMessages (got b.taker.rx) b.taker.progress ms)
        (sym (append-nil messages))
        (subst (λ (items : List InPiece).
        TakesMessages items b.taker.progress messages) (sym (ap got rx))
        (owes_less (got a.taker.rx) a.taker.progress b.taker.progress messages less took)),
    subst (λ (ms : List (List ℕ)).
        HasCome (answers m) (stands m) b.taker.progress.told ms b.call b.in_hand (shows b))
        (sym (append-nil messages))
        (subst
        (λ (t : Option RequestEnd).
        HasCome (answers m) (stands m) t messages b.call b.in_hand (shows b))
        (sym (ap (λ (p : Progress). p.told) less))
        (subst (λ (call : Call).
        HasCome (answers m) (stands m) a.taker.progress.told messages call b.in_hand
        (shows b)) (sym same.1)
        (subst (λ (hand : Option Taken).
        HasCome (answers m) (stands m) a.taker.progress.told messages a.call hand
        (shows b)) (sym same.2)
        (subst (λ (r : Response OutGiver OutGiven).
        HasCome (answers m) (stands m) a.taker.progress.told messages a.call a.in_hand (shown_by r))
        (sym same.3) come)))),
  )

  -- what came was returned
  pub goes_credited : (a b : LaneRun) → b.taker.rx ≡ a.taker.rx
      → b.taker.progress ≡ record a.taker.progress { owed = 0 }
      → (b.index ≡ a.index) × (b.call ≡ a.call) × (b.in_hand ≡ a.in_hand)
      × (b.response ≡ a.response)
      → GoesOn answers stands methods a b
  goes_credited a b rx less same = credited (slice_get methods a.index) a b rx less same

  leaves : (found : Option A) (a b : LaneRun) → b.taker ≡ a.taker
      → IfSome found (λ m.
      (messages : List (List ℕ))
      → HasCome (answers m) (stands m) a.taker.progress.told messages a.call a.in_hand (shows a)
      → HasCome (answers m) (stands m) b.taker.progress.told messages b.call b.in_hand (shows b))
      → IfSome found (λ m. LeadsOn (answers m) (stands m) a b)
  leaves None a b same left = tt
  leaves (Some m) a b same left = λ messages took come. (
    [],
    subst (λ (ms : List (List ℕ)). TakesMessages (got b.taker.rx) b.taker.progress ms)
        (sym (append-nil messages))
        (subst (λ t. TakesMessages (got t.rx) t.progress messages) (sym same) took),
    subst (λ (ms : List (List ℕ)).
        HasCome (answers m) (stands m) b.taker.progress.told ms b.call b.in_hand (shows b))
        (sym (append-nil messages)) (left messages come),
  )

  -- it was left
  pub goes_left : (a b : LaneRun) → b.taker ≡ a.taker
      → IfSome (slice_get methods a.index) (λ m.
      (messages : List (List ℕ))
      → HasCome (answers m) (stands m) a.taker.progress.told messages a.call a.in_hand (shows a)
      → HasCome (answers m) (stands m) b.taker.progress.told messages b.call b.in_hand (shows b))
      → GoesOn answers stands methods a b
  goes_left a b same left = leaves (slice_get methods a.index) a b same left

  -- ---- all of it

  all_of : (found after : Option A) (a b : LaneRun) (said : Option RequestEnd) (put : List OutItem)
      → after ≡ found → TakesMessages (got a.taker.rx) a.taker.progress []
      → a.taker.progress.told ≡ None
      → said ≡ None → put ≡ [] → a.in_hand ≡ None → is_open b.response ≡ false
      → IfSome found
      (λ m. said ≡ None → put ≡ [] → HasRun (answers m) (stands m) None [] a.call (shows a))
      → IfSome after (λ m. LeadsOn (answers m) (stands m) a b)
      → IfSome found (λ m.
      (messages : List (List ℕ)) × TakesMessages (got b.taker.rx) b.taker.progress messages
      × HasRun (answers m) (stands m) b.taker.progress.told messages b.call (shows b))
  all_of None after a b said put same took untold unsaid unput empty closed fresh goes = tt
  all_of (Some m) after a b said put same took untold unsaid unput empty closed fresh goes =
      let begun =
      subst (λ (t : Option RequestEnd).
      HasRun (answers m) (stands m) t [] a.call (shows a)) (sym untold)
      (fresh unsaid unput) in
      let come = with_none a.taker.progress.told [] a.call a.in_hand (shows a) empty begun in
      let leads =
      subst (λ (found : Option A).
      IfSome found (λ n. LeadsOn (answers n) (stands n) a b)) same goes in
      let all = leads [] took come in (
        [] ++ all.0,
        all.1,
        closed_run (λ g. put_in g.tx) (λ s. put_shut s.shut) (λ s. true) b.response
            b.taker.progress.told ([] ++ all.0) b.call b.in_hand closed all.2,
      )

  -- from a call of which nothing was taken yet to one that gives nothing more: the messages that
  -- were taken, and what stands of them
  pub run_all : (index : ℕ) (a b : LaneRun) (said : Option RequestEnd) (put : List OutItem)
      → a.index ≡ index → TakesMessages (got a.taker.rx) a.taker.progress []
      → a.taker.progress.told ≡ None
      → said ≡ None → put ≡ [] → a.in_hand ≡ None → is_open b.response ≡ false
      → IfSome (slice_get methods index)
      (λ m. said ≡ None → put ≡ [] → HasRun (answers m) (stands m) None [] a.call (shows a))
      → GoesOn answers stands methods a b
      → IfSome (slice_get methods index) (λ m.
      (messages : List (List ℕ)) × TakesMessages (got b.taker.rx) b.taker.progress messages
      × HasRun (answers m) (stands m) b.taker.progress.told messages b.call (shows b))
  run_all index a b said put same took untold unsaid unput empty closed fresh goes =
      all_of (slice_get methods index) (slice_get methods a.index) a b said put
      (ap (λ (i : ℕ). slice_get methods i) same) took untold unsaid unput empty closed fresh goes

-- ---- the deadline

timed_head : (timeout : Option ℕ) (opened : ℕ)
    → IsSome (deadline_of timeout opened) → IsSome timeout
timed_head None opened some = some
timed_head (Some timeout) opened some = refl

true_of : {X : Type 0} (b : Bool) → b ≡ false → b ≡ true → X
true_of true is other = absurd (cc)
true_of false is other = absurd (cc)

-- a call that ends by its deadline has a timeout
pub overdue_timed : (a b : LaneRun) (head : CallHead) (opened : ℕ) → a.call.overdue ≡ false
    → a.call.deadline ≡ deadline_of head.timeout opened → IsOneCall a b → b.call.overdue ≡ true
    → IsSome head.timeout
overdue_timed a b head opened early due one late = elim (one.5 late) [
  | inl before ↦ true_of a.call.overdue early before
  | inr timed ↦ timed_head head.timeout opened (subst (λ (d : Option ℕ). IsSome d) due timed)
]

-- ---- what was answered

-- what stands of a call whose method is there
pub call_answers : {A : Type 0} (answers : A → List (List ℕ) → Bool → MethodStep → Type 0)
    (stands : A → MethodState → List (List ℕ) → MethodStep → Type 0)
    (methods : List A) (found : Option A) (request : Request) (run : LaneRun) (items : List InPiece)
    (p : Progress) (given : List OutItem) (status : Option ℕ)
    → found ≡ slice_get methods request.index → (found ≡ None → ⊥) → run.call.head ≡ request.head
    → items ≡ got run.taker.rx → p ≡ record run.taker.progress { owed = 0 }
    → (run.call.overdue ≡ true → IsSome request.head.timeout)
    → IfSome found (λ m.
    (messages : List (List ℕ)) × TakesMessages (got run.taker.rx) run.taker.progress messages
    × HasRun (answers m) (stands m) run.taker.progress.told messages run.call (shows run))
    → EndsAs run given status
    → Answers (answers_by answers methods) request items p given status
call_answers answers stands methods None request run items p given status is some same_head same_got
    less timed has ends = absurd (some refl)
call_answers {A} answers stands methods (Some m) request run items p given status is some same_head
    same_got less timed has ends =
    let told : p.told ≡ run.taker.progress.told = ap (λ (q : Progress). q.told) less in
    record {
      messages = has.0;
      took =
          subst (λ (xs : List InPiece). TakesMessages xs p has.0) (sym same_got)
          (owes_less (got run.taker.rx) run.taker.progress p has.0 less has.1);
      answered =
          subst (λ (said : Option RequestEnd).
          IsAnswered (answers_by answers methods request.index) request.head has.0 said given
          status) (sym told) (record {
            overdue = run.call.overdue;
            timed = timed;
            items = ends.0;
            outcome = λ answer answered.
                subst (λ (head : CallHead).
                IsOutcome head run.call.overdue run.taker.progress.told answer
                ends.0 status) same_head
                (ends.2 answer (has.2.each answer
                (subst (λ (o : Option A).
                IsSomeAnd o (λ n. answers n has.0 (is_end run.taker.progress.told) answer))
                (sym is) answered)));
            ends = ends.1;
          });
    }

-- of a call whose method isn't there
pub none_answers : {A : Type 0} (answers : A → List (List ℕ) → Bool → MethodStep → Type 0)
    (methods : List A) (request : Request) (items : List InPiece) (p : Progress)
    (given : List OutItem)
    → slice_get methods request.index ≡ None → TakesMessages items p [] → IsGivenAs [] given
    → Answers (answers_by answers methods) request items p given None
none_answers {A} answers methods request items p given none took nothing = record {
  messages = [];
  took = took;
  answered = record {
    overdue = false;
    timed = λ late. absurd (cc);
    items = [];
    outcome = λ answer answered.
        absurd (subst (λ (o : Option A).
        IsSomeAnd o (λ n. answers n [] (is_end p.told) answer)) none answered);
    ends = nothing;
  };
}

-- what is so of more answers is so of these
pub of_fewer : (wide narrow : ℕ → List (List ℕ) → Bool → MethodStep → Type 0) (request : Request)
    (items : List InPiece) (p : Progress) (given : List OutItem) (status : Option ℕ)
    → IsWithin narrow wide → Answers wide request items p given status
    → Answers narrow request items p given status
of_fewer wide narrow request items p given status within has = record {
  messages = has.messages;
  took = has.took;
  answered = record {
    overdue = has.answered.overdue;
    timed = has.answered.timed;
    items = has.answered.items;
    outcome = λ answer is.
        has.answered.outcome answer (within request.index has.messages (is_end p.told) answer is);
    ends = has.answered.ends;
  };
}

-- what stands of a call stands of the same, of which what came was returned
pub same_ends : (a b : LaneRun) (items given : List OutItem) (status : Option ℕ)
    → b.taker.progress ≡ record a.taker.progress { owed = 0 }
    → (b.index ≡ a.index) × (b.call ≡ a.call) × (b.in_hand ≡ a.in_hand) × (b.response ≡ a.response)
    → IsGivenAs items given
    → ((answer : MethodStep) → GivesOf b.taker.progress.told answer b.call (shows b)
    → IsOutcome b.call.head b.call.overdue b.taker.progress.told answer items status)
    → EndsAs a given status
same_ends a b items given status less same ends outcome = (
  items,
  ends,
  subst (λ (t : Option RequestEnd).
      (answer : MethodStep) → GivesOf t answer a.call (shows a)
      → IsOutcome a.call.head a.call.overdue t answer items status)
      (ap (λ (p : Progress). p.told) less)
      (subst (λ (c : Call).
      (answer : MethodStep) → GivesOf b.taker.progress.told answer c (shows a)
      → IsOutcome c.head c.overdue b.taker.progress.told answer items status) same.1
      (subst (λ (r : Response OutGiver OutGiven).
      (answer : MethodStep) → GivesOf b.taker.progress.told answer b.call (shown_by r)
      → IsOutcome b.call.head b.call.overdue b.taker.progress.told answer items
      status) same.3 outcome)),
)

-- the item of a call that is left, where it was placed
pub left_as : (items given : List OutItem) → given ≡ items ++ Left ∷ [] → IsGivenAs items given
left_as items given is = inr is

-- ---- the call of a number

-- what stands of a call stands of the number at which it is
pub answers_at : (known : ℕ → List (List ℕ) → Bool → MethodStep → Type 0)
    (log : List Work) (number : ℕ)
    (work : Work) (items : List InPiece) (p : Progress) (given : List OutItem) (status : Option ℕ)
    → slice_get log number ≡ Some work → Answers known work.request items p given status
    → AnswersAt known log number items p given status
answers_at known log number work items p given status stands has =
    subst (λ (found : Option Work).
    IsSomeAnd (option_map (λ (w : Work). w.request) found)
    (λ request. Answers known request items p given status)) (sym stands) has
