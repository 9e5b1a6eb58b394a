-- A stream that ended: its frames tell the whole response to its call.
use Rattle.std.proofs.Common.{
  ◌≡◌,
  ◌∙◌,
  ℕ,
  Bool,
  List,
  [],
  ◌∷◌,
  ◌++◌,
  Option,
  true,
  false,
  ap,
  append-nil,
  inl,
  inr,
  map,
  refl,
  subst,
  sym,
}
use Rattle.std.specs.Prelude.{IsSome}
use Rattle.account.specs.declared.call.Account.{Account}
use Rattle.account.specs.declared.call.OutItem.{OutItem}
use Rattle.account.specs.declared.call.OutItem.TheVariants.{Head, Message, Trailers, Left}
use Rattle.account.specs.declared.call.RequestEnd.{RequestEnd}
use Rattle.account.specs.Accounts.{Begins, IsBody, IsLawful, IsResponse}
use Rattle.callhead.specs.declared.head.CallHead.{CallHead}
use Rattle.callrun.specs.Outcomes.{IsBegun, IsOutcome}
use Rattle.callrun.specs.Responses.{reply_item}
use Rattle.callparts.specs.declared.call_account.CallAccount.{CallAccount}
use Rattle.callparts.specs.declared.report.Ending.{Ending}
use Rattle.callparts.specs.Accounts.{StandsOn}
use Rattle.callparts.specs.Workers.{IsGivenAs}
use Rattle.handlers.specs.declared.reply.Reply.{Reply}
use Rattle.handlers.specs.declared.step.MethodStep.{MethodStep as Answer}
use Rattle.outwriter.specs.declared.control.WriterOrder.TheVariants.{InputEnded}
use Rattle.outwriter.specs.Calls.{IsOther, TellOthers, is_served}
use Rattle.outwriter.specs.Parts.{Mark, Byte, Fields, End, Reset, IsFrontOf, IsPart, spelled}
use Rattle.outwriter.specs.Histories.{is_stream}
use Rattle.outwriter.specs.Runs.{is_opened}
use Rattle.outwriter.specs.Runs.{IsLawful as IsRunLawful}
use Rattle.outwriter.specs.Steps.{Order, Step}
use Rattle.session.specs.declared.event.InEvent.{InEvent}
use Rattle.session.specs.Events.{Events}
use Rattle.readerloop.specs.Calls.{is_admitted}
use Rattle.readerloop.specs.Orders.{orders_by}
use Rattle.readerloop.specs.Reports.{AreHeard, IsSettled, is_heard_out}
use Rattle.readerloop.specs.Steps.{Step as Heard, events_of}
use Rattle.writerloop.specs.Orders.{HasTaken, Obeys}
use Rattle.writerloop.specs.Sent.{IsTold}
use Rattle.connection.specs.Heard.{HasPut}
use Rattle.connection.specs.Sent.{CarriesWhatWasSent, IsWholeResponse, StreamEnd}
use Rattle.connection.proofs.OpenedOnce.{admitted-opened, never-refused, once-opened}
use Rattle.connection.proofs.StreamEnds.{stream-end}

-- the end of the stream is among these marks
abbrev HasEnd : List Mark → Type 0
HasEnd [] = ⊥
HasEnd (Byte byte ∷ marks) = HasEnd marks
HasEnd (Fields fields ∷ marks) = HasEnd marks
HasEnd (End ∷ marks) = Unit {0}
HasEnd (Reset code ∷ marks) = HasEnd marks

-- it is the last of them, if it is
abbrev EndsOnce : List Mark → Type 0
EndsOnce [] = Unit {0}
EndsOnce (Byte byte ∷ marks) = EndsOnce marks
EndsOnce (Fields fields ∷ marks) = EndsOnce marks
EndsOnce (End ∷ marks) = marks ≡ []
EndsOnce (Reset code ∷ marks) = EndsOnce marks

end-behind : (bytes : List ℕ) (marks : List Mark) → HasEnd (map Byte bytes ++ marks) → HasEnd marks
end-behind [] marks has = has
end-behind (byte ∷ bytes) marks has = end-behind bytes marks has

once-behind : (bytes : List ℕ) (marks : List Mark) → EndsOnce marks
    → EndsOnce (map Byte bytes ++ marks)
once-behind [] marks once = once
once-behind (byte ∷ bytes) marks once = once-behind bytes marks once

end-there : (front rest : List Mark) → HasEnd ((front ++ End ∷ []) ++ rest)
end-there [] rest = tt
end-there (Byte byte ∷ front) rest = end-there front rest
end-there (Fields fields ∷ front) rest = end-there front rest
end-there (End ∷ front) rest = tt
end-there (Reset code ∷ front) rest = end-there front rest

no-more : (front rest : List Mark) → EndsOnce ((front ++ End ∷ []) ++ rest) → rest ≡ []
no-more [] rest once = once
no-more (Byte byte ∷ front) rest once = no-more front rest once
no-more (Fields fields ∷ front) rest once = no-more front rest once
no-more (End ∷ front) rest once = absurd (not-none front rest once)
  where
    not-none : (front rest : List Mark) → (front ++ End ∷ []) ++ rest ≡ [] → ⊥
    not-none [] rest is = cc
    not-none (mark ∷ front) rest is = cc
no-more (Reset code ∷ front) rest once = no-more front rest once

-- ---- items

body-once : (items : List OutItem) → IsBody items → EndsOnce (spelled items)
body-once [] is = tt
body-once (Head fields ∷ items) is = absurd is
body-once (Message bytes ∷ items) is = once-behind bytes (spelled items) (body-once items is.1)
body-once (Trailers fields ∷ items) is = ap (λ (rest : List OutItem). spelled rest) is
body-once (Left ∷ items) is = subst (λ (rest : List OutItem). EndsOnce (spelled rest)) (sym is) tt

response-once : (items : List OutItem) → IsResponse items → EndsOnce (spelled items)
response-once [] is = tt
response-once (Head fields ∷ items) is = body-once items is
response-once (Message bytes ∷ items) is = absurd is
response-once (Trailers fields ∷ items) is = ap (λ (rest : List OutItem). spelled rest) is
response-once (Left ∷ items) is =
    subst (λ (rest : List OutItem). EndsOnce (spelled rest)) (sym is) tt

none-front : (sent : List OutItem) → Begins sent [] → sent ≡ []
none-front [] begins = refl
none-front (item ∷ sent) begins = absurd cc

tail-begins : (item other : OutItem) (sent given : List OutItem)
    → Begins (item ∷ sent) (other ∷ given) → (item ≡ other) × Begins sent given
tail-begins item other sent given begins = (cc, (begins.0, tail-same begins.1))
  where
    tail-same : (other ∷ given) ≡ (item ∷ (sent ++ begins.0)) → given ≡ sent ++ begins.0
    tail-same is = cc

-- what is sent with its end is all of a response
body-whole : (sent given : List OutItem) → IsBody given → Begins sent given
    → HasEnd (spelled sent) → sent ≡ given
body-whole [] given is begins has = absurd has
body-whole (item ∷ sent) [] is begins has = absurd (none (none-front (item ∷ sent) begins))
  where
    none : (item ∷ sent) ≡ [] → ⊥
    none same = cc
body-whole (item ∷ sent) (Head fields ∷ given) is begins has = absurd is
body-whole (item ∷ sent) (Message bytes ∷ given) is begins has =
    let parts = tail-begins item (Message bytes) sent given begins in
    let rest =
    body-whole sent given is.1 parts.1 (end-behind bytes (spelled sent)
    (subst (λ (one : OutItem). HasEnd (spelled (one ∷ sent))) parts.0 has)) in
    ap (λ (one : OutItem). one ∷ sent) parts.0
    ∙ ap (λ (items : List OutItem). Message bytes ∷ items) rest
body-whole (item ∷ sent) (Trailers fields ∷ given) is begins has =
    let parts = tail-begins item (Trailers fields) sent given begins in
    let none = none-front sent (subst (λ (items : List OutItem). Begins sent items) is parts.1) in
    ap (λ (one : OutItem). one ∷ sent) parts.0
    ∙ ap (λ (items : List OutItem). Trailers fields ∷ items) (none ∙ sym is)
body-whole (item ∷ sent) (Left ∷ given) is begins has =
    let parts = tail-begins item Left sent given begins in
    let none = none-front sent (subst (λ (items : List OutItem). Begins sent items) is parts.1) in
    ap (λ (one : OutItem). one ∷ sent) parts.0
    ∙ ap (λ (items : List OutItem). Left ∷ items) (none ∙ sym is)

response-whole : (sent given : List OutItem) → IsResponse given → Begins sent given
    → HasEnd (spelled sent) → sent ≡ given
response-whole [] given is begins has = absurd has
response-whole (item ∷ sent) [] is begins has = absurd (none (none-front (item ∷ sent) begins))
  where
    none : (item ∷ sent) ≡ [] → ⊥
    none same = cc
response-whole (item ∷ sent) (Head fields ∷ given) is begins has =
    let parts = tail-begins item (Head fields) sent given begins in
    let rest =
    body-whole sent given is parts.1
    (subst (λ (one : OutItem). HasEnd (spelled (one ∷ sent))) parts.0 has) in
    ap (λ (one : OutItem). one ∷ sent) parts.0
    ∙ ap (λ (items : List OutItem). Head fields ∷ items) rest
response-whole (item ∷ sent) (Message bytes ∷ given) is begins has = absurd is
response-whole (item ∷ sent) (Trailers fields ∷ given) is begins has =
    let parts = tail-begins item (Trailers fields) sent given begins in
    let none = none-front sent (subst (λ (items : List OutItem). Begins sent items) is parts.1) in
    ap (λ (one : OutItem). one ∷ sent) parts.0
    ∙ ap (λ (items : List OutItem). Trailers fields ∷ items) (none ∙ sym is)
response-whole (item ∷ sent) (Left ∷ given) is begins has =
    let parts = tail-begins item Left sent given begins in
    let none = none-front sent (subst (λ (items : List OutItem). Begins sent items) is parts.1) in
    ap (λ (one : OutItem). one ∷ sent) parts.0
    ∙ ap (λ (items : List OutItem). Left ∷ items) (none ∙ sym is)

-- ---- the part of a stream

not-reset : (front other : List Mark) (code : ℕ) → front ++ End ∷ [] ≡ other ++ Reset code ∷ [] → ⊥
not-reset [] [] code is = cc
not-reset [] (one ∷ []) code is = cc
not-reset [] (one ∷ (two ∷ other)) code is = cc
not-reset (one ∷ []) [] code is = cc
not-reset (one ∷ (two ∷ front)) [] code is = cc
not-reset (one ∷ front) (two ∷ other) code is = not-reset front other code (tails is)
  where
    tails : (one ∷ (front ++ End ∷ [])) ≡ (two ∷ (other ++ Reset code ∷ []))
        → front ++ End ∷ [] ≡ other ++ Reset code ∷ []
    tails same = cc

ended : (account : Account) (part front : List Mark) → IsLawful account
    → IsFrontOf part (spelled account.sent) → part ≡ front ++ End ∷ []
    → (account.sent ≡ account.given) × (part ≡ spelled account.given)
ended account part front lawful (inl begins) is =
    let all : spelled account.sent ≡ (front ++ End ∷ []) ++ begins.0 =
    begins.1 ∙ ap (λ (marks : List Mark). marks ++ begins.0) is in
    let same =
    response-whole account.sent account.given lawful.given lawful.sent
    (subst (λ (marks : List Mark). HasEnd marks) (sym all) (end-there front begins.0)) in
    let once =
    subst (λ (items : List OutItem). EndsOnce (spelled items)) (sym same)
    (response-once account.given lawful.given) in
    let none = no-more front begins.0 (subst (λ (marks : List Mark). EndsOnce marks) all once) in (
      same,
      sym (begins.1 ∙ (ap (λ (marks : List Mark). part ++ marks) none ∙ append-nil part))
          ∙ ap (λ (items : List OutItem). spelled items) same,
    )
ended account part front lawful (inr (some, code, begins, reset)) is =
    absurd (not-reset front some code (sym is ∙ reset))

whole-answer : (run : List Step) (id : ℕ) (account : Account) → IsLawful account
    → IsTold run (id, account.sent) → is_served id run ≡ true
    → (part : List Mark) × IsPart id run part
    × ((front : List Mark) → part ≡ front ++ End ∷ []
    → (account.sent ≡ account.given) × (part ≡ spelled account.given))
whole-answer run id account lawful carries served =
    let told = carries served in
    (told.0, told.1, λ front is. ended account told.0 front lawful told.2 is)

-- ---- the outcome

abbrev AreMessages : List OutItem → Type 0
AreMessages [] = Unit {0}
AreMessages (Head fields ∷ items) = ⊥
AreMessages (Message bytes ∷ items) = AreMessages items
AreMessages (Trailers fields ∷ items) = ⊥
AreMessages (Left ∷ items) = ⊥

messages-unended : (items : List OutItem) → AreMessages items → HasEnd (spelled items) → ⊥
messages-unended [] are has = has
messages-unended (Head fields ∷ items) are has = are
messages-unended (Message bytes ∷ items) are has =
    messages-unended items are (end-behind bytes (spelled items) has)
messages-unended (Trailers fields ∷ items) are has = are
messages-unended (Left ∷ items) are has = are

replies-are : (replies : List Reply) → AreMessages (map reply_item replies)
replies-are [] = tt
replies-are (reply ∷ replies) = replies-are replies

begun-unended : (head : CallHead) (replies : List Reply) (items : List OutItem)
    → IsBegun head replies items → HasEnd (spelled items) → ⊥
begun-unended head replies items (inl none) has =
    subst (λ (given : List OutItem). HasEnd (spelled given)) none.1 has
begun-unended head replies items (inr is) has =
    messages-unended (map reply_item replies) (replies-are replies)
    (subst (λ (given : List OutItem). HasEnd (spelled given)) is has)

-- an outcome that ends a stream has a status
ended-status : (head : CallHead) (overdue : Bool) (said : Option RequestEnd) (answer : Answer)
    (items : List OutItem) (code : Option ℕ)
    → IsOutcome head overdue said answer items code → HasEnd (spelled items) → IsSome code
ended-status head overdue said answer items code (IsOutcome.Whole status ends is same) has =
    subst (λ (found : Option ℕ). IsSome found) (sym same) refl
ended-status head overdue said answer items code
    (IsOutcome.CutShort cause replies stood begins is same) has =
    subst (λ (found : Option ℕ). IsSome found) (sym same) refl
ended-status head overdue said answer items code
    (IsOutcome.CutShortBehindHead cause replies stood begins is same) has =
    subst (λ (found : Option ℕ). IsSome found) (sym same) refl
ended-status head overdue said answer items code (IsOutcome.Unended replies begins begun none) has =
    absurd (begun-unended head replies items begun has)

not-none : (items : List OutItem) → items ++ Left ∷ [] ≡ [] → ⊥
not-none [] is = cc
not-none (item ∷ items) is = cc

body-left : (items : List OutItem) → IsBody (items ++ Left ∷ [])
    → HasEnd (spelled (items ++ Left ∷ [])) → ⊥
body-left [] is has = has
body-left (Head fields ∷ items) is has = is
body-left (Message bytes ∷ items) is has =
    body-left items is.1 (end-behind bytes (spelled (items ++ Left ∷ [])) has)
body-left (Trailers fields ∷ items) is has = not-none items is
body-left (Left ∷ items) is has = not-none items is

-- a response that was left ends no stream
response-left : (items : List OutItem) → IsResponse (items ++ Left ∷ [])
    → HasEnd (spelled (items ++ Left ∷ [])) → ⊥
response-left [] is has = has
response-left (Head fields ∷ items) is has = body-left items is has
response-left (Message bytes ∷ items) is has = is
response-left (Trailers fields ∷ items) is has = not-none items is
response-left (Left ∷ items) is has = not-none items is

given-items : (account : Account) (items : List OutItem) → IsLawful account
    → IsGivenAs items account.given → HasEnd (spelled account.given) → account.given ≡ items
given-items account items lawful (inl is) has = is
given-items account items lawful (inr left) has =
    absurd (response-left items
    (subst (λ (given : List OutItem). IsResponse given) left lawful.given)
    (subst (λ (given : List OutItem). HasEnd (spelled given)) left has))

end-last : (front : List Mark) → HasEnd (front ++ End ∷ [])
end-last front =
    subst (λ (marks : List Mark). HasEnd marks) (append-nil (front ++ End ∷ []))
    (end-there front [])

response-of : (answers : ℕ → List (List ℕ) → Bool → Answer → Type 0) (head : CallHead)
    (whole : Account) (account : CallAccount) (part front : List Mark)
    → StandsOn answers head whole account
    → (whole.sent ≡ whole.given) × (part ≡ spelled whole.given) → part ≡ front ++ End ∷ []
    → IsWholeResponse answers head whole account part
response-of answers head whole account part front stands all is =
    let says = stands.answered in
    let has = subst (λ (marks : List Mark). HasEnd marks) (sym is ∙ all.1) (end-last front) in
    let same = given-items whole says.items stands.lawful says.ends has in record {
      sent = all.0;
      tells = all.1;
      overdue = says.overdue;
      timed = says.timed;
      outcome = λ answer known.
          subst (λ (items : List OutItem).
          IsOutcome head says.overdue whole.told answer items account.status) (sym same)
          (says.outcome answer known);
      status = λ answer known.
          ended-status head says.overdue whole.told answer says.items account.status
          (says.outcome answer known)
          (subst (λ (items : List OutItem). HasEnd (spelled items)) same has);
    }

-- ---- the stream of a call that was admitted

not-empty : (front : List Mark) → front ++ End ∷ [] ≡ [] → ⊥
not-empty [] is = cc
not-empty (mark ∷ front) is = cc

module _ (answers : ℕ → List (List ℕ) → Bool → Answer → Type 0) (names : List ℕ → ℕ → Type 0)
    (end : Ending) (came : List ℕ) (told : List Heard) (put : List Order) (run : List Step)
    (given : List InEvent) (heard : AreHeard end came (events_of told)) (are : Events came given)
    (has : HasPut (orders_by told ++ InputEnded ∷ []) put) (obeys : Obeys true put run) where
  -- a stream that no Open opened doesn't end
  other-unended : (id : ℕ) (part front : List Mark) → is_admitted id told ≡ true
      → IsOther id run part → part ≡ front ++ End ∷ [] → ⊥
  other-unended id part front known (inl none) is = not-empty front (sym is ∙ none)
  other-unended id part front known (inr (inl reset)) is =
      not-reset front [] reset.0 (sym is ∙ reset.1)
  other-unended id part front known (inr (inr refused)) is =
      never-refused end came told put run given heard are has obeys id refused.0 known refused.1

  pub whole-response : TellOthers run
      → (account : CallAccount)
      (settled : IsSettled answers names (CarriesWhatWasSent (is_heard_out end) run) told account)
      → (part : List Mark) × IsPart account.id run part
      × ((front : List Mark) → part ≡ front ++ End ∷ []
      → IsWholeResponse answers settled.head settled.whole account part)
  whole-response others account settled = by (is_opened account.id run) refl
    where
      by : (b : Bool) → is_opened account.id run ≡ b
          → (part : List Mark) × IsPart account.id run part
          × ((front : List Mark) → part ≡ front ++ End ∷ []
          → IsWholeResponse answers settled.head settled.whole account part)
      by true opened =
          let served =
          once-opened end came told put run given heard are has obeys account.id opened in
          let found =
          whole-answer run account.id settled.whole settled.stands.lawful
          settled.carried.told served in (
            found.0,
            found.1,
            λ front is.
                response-of answers settled.head settled.whole account found.0 front settled.stands
                (found.2 front is) is,
          )
      by false unopened =
          let found = others account.id unopened in (
            found.0,
            found.1,
            λ front is. absurd (other-unended account.id found.0 front settled.known found.2 is),
          )

  -- how the stream of a call ended, where all was taken
  pub call-ended : (rest : List Order) → put ≡ orders_by told ++ rest → HasTaken put run
      → IsRunLawful run → is_heard_out end ≡ true
      → (account : CallAccount)
      (settled : IsSettled answers names (CarriesWhatWasSent (is_heard_out end) run) told account)
      → is_stream account.id ≡ true → StreamEnd run account.id settled.whole.sent
  call-ended rest is took lawful out account settled there =
      stream-end run account.id settled.whole.sent lawful
      (settled.carried.done out
      (once-opened end came told put run given heard are has obeys account.id
      (admitted-opened account.id told put rest run is took settled.known)) there)
