-- The account of a call whose ends are brought together.
use Rattle.std.proofs.Common.{
  ◌≡◌,
  ◌∙◌,
  ℕ,
  Bool,
  true,
  false,
  List,
  Option,
  None,
  Some,
  ap,
  refl,
  subst,
  sym,
}
use Rattle.std.specs.Prelude.{◌&&◌, IfSome, IsSomeAnd, option_map, slice_get, unwrap_or}
use Rattle.std.specs.Option.{is_some}
use Rattle.account.specs.declared.call.Account.{Account}
use Rattle.account.specs.declared.call.OutItem.{OutItem}
use Rattle.account.specs.declared.call.Shut.{Shut}
use Rattle.account.specs.declared.call.RequestEnd.{RequestEnd}
use Rattle.callbox.specs.declared.in_side.InAccount.{InAccount}
use Rattle.callbox.specs.declared.piece.InPiece.{InPiece}
use Rattle.callbox.specs.declared.out_side.OutAccount.{OutAccount}
use Rattle.callbox.specs.InAccounts.{CountsIn}
use Rattle.callbox.specs.InSides.{TakesMessages, bytes_of, pieces_of}
use Rattle.callbox.specs.OutAccounts.{CountsOut}
use Rattle.callparts.specs.declared.call_account.CallAccount.{CallAccount}
use Rattle.callparts.specs.declared.job.FinishedJob.{FinishedJob}
use Rattle.callparts.specs.declared.order.ReturningCall.{ReturningCall}
use Rattle.callparts.specs.declared.order.SendingEnd.{SendingEnd}
use Rattle.callparts.specs.declared.register.CallNumber.{CallNumber}
use Rattle.callparts.specs.declared.register.Naming.{Ghosts}
use Rattle.callparts.specs.declared.work.Request.{Request}
use Rattle.callparts.specs.declared.work.Work.{Work}
use Rattle.callparts.specs.Lanes.{OutSender}
use Rattle.callparts.specs.Numbers.{request_at}
use Rattle.callparts.specs.Workers.{Answers, IsAnswered}
use Rattle.handlers.specs.declared.step.MethodStep.{MethodStep as Answer}
use Rattle.lane.specs.RingLane.{got, put_shut}
use Rattle.readerloop.specs.declared.call.Call.{Call}
use Rattle.readerloop.specs.declared.feeder_half.FeederHalf.{FeederHalf}
use Rattle.readerloop.specs.declared.feeder_half.FeederHalf.TheVariants.{
  Open,
  Shut as ShutHalf,
  Missed,
  Moving,
}
use Rattle.readerloop.specs.Calls.{HasAnswered, IsCall, IsCallOf, is_over}
use Rattle.readerloop.specs.Halves.{is_closed, shown}
use Rattle.readerloop.specs.Reports.{IsSettled}
use Rattle.readerloop.specs.Steps.{Closing, Step, shut_in}
use Rattle.readerloop.proofs.Unanswered.{answered-told, told_status, told-none}

some-and : {A : Type 0} (P : A → Type 0) (found : Option A) (x : A) → found ≡ Some x
    → IsSomeAnd found P → P x
some-and P found x is there = subst (λ o. IsSomeAnd o P) is there

if-some : {A : Type 0} (P : A → Type 0) (found : Option A) (x : A) → found ≡ Some x
    → IfSome found P → P x
if-some P found x is there = subst (λ o. IfSome o P) is there

closed-some : (half : FeederHalf) → is_closed half ≡ true → is_some (shown half).closing ≡ true
closed-some (Open feeder) is = absurd cc
closed-some (ShutHalf end) is = refl
closed-some (Missed feeder) is = refl
closed-some Moving is = absurd cc

-- a call that is over was closed
over-closed : (finished returning closed : Bool)
    → (finished && (returning && closed)) ≡ true → closed ≡ true
over-closed true true closed is = is
over-closed true false closed is = absurd cc
over-closed false returning closed is = absurd cc

counts-as : (items other : List InPiece) (shut also : Option Shut) (messages : List (List ℕ))
    (told : Option RequestEnd) (input : InAccount)
    → items ≡ other → shut ≡ also
    → CountsIn (pieces_of other) also messages told input
    → CountsIn (pieces_of items) shut messages told input
counts-as items other shut also messages told input same_items same_shut counts =
    subst (λ (s : Option Shut). CountsIn (pieces_of items) s messages told input) (sym same_shut)
    (subst (λ (pieces : List InPiece). CountsIn (pieces_of pieces) also messages told input)
    (sym same_items) counts)

same-request : (log other : List Work) (n m : ℕ) (request : Request)
    → slice_get log n ≡ slice_get other m → request_at log n ≡ Some request
    → request_at other m ≡ Some request
same-request log other n m request same asked =
    ap (λ (found : Option Work). option_map (λ (work : Work). work.request) found) (sym same)
    ∙ asked

module _ {J : Type 0} {book : Ghosts J} where
  one-worked : (number : CallNumber J book) (found : Option (FinishedJob J book))
      (finished : FinishedJob J book)
      → unwrap_or (option_map (λ (f : FinishedJob J book). f.number.value) found) number.value
      ≡ number.value
      → found ≡ Some finished
      → number.value ≡ finished.number.value
  one-worked number found finished one is =
      sym (subst (λ (o : Option (FinishedJob J book)).
      unwrap_or (option_map (λ (f : FinishedJob J book). f.number.value) o) number.value
      ≡ number.value) is one)

  one-sent : (number : CallNumber J book) (found : Option (ReturningCall J book))
      (returning : ReturningCall J book)
      → unwrap_or (option_map (λ (r : ReturningCall J book). r.sending.value.number.value) found)
      number.value
      ≡ number.value
      → found ≡ Some returning → number.value ≡ returning.sending.value.number.value
  one-sent number found returning one is =
      sym (subst (λ (o : Option (ReturningCall J book)).
      unwrap_or (option_map (λ (r : ReturningCall J book).
      r.sending.value.number.value) o) number.value
      ≡ number.value) is one)

module _ {J : Type 0} {book : Ghosts J} {known : ℕ → List (List ℕ) → Bool → Answer → Type 0} where
  -- what its worker says of it, by what its client asked for
  answered-by : (request : Request) (number : CallNumber J book) (finished : FinishedJob J book)
      → request_at number.seen.log number.value ≡ Some request
      → slice_get number.seen.log number.value
      ≡ slice_get finished.number.seen.log finished.number.value
      → HasAnswered known finished
      → Answers known request (got finished.taker.rx) finished.taker.progress
      (put_shut finished.given.shut) finished.status
  answered-by request number finished asked same answered =
      some-and (λ (r : Request).
      Answers known r (got finished.taker.rx) finished.taker.progress
      (put_shut finished.given.shut) finished.status)
      (request_at finished.number.seen.log finished.number.value) request
      (same-request number.seen.log finished.number.seen.log number.value finished.number.value
      request same asked) answered

module _ {J : Type 0} {book : Ghosts J} {known : ℕ → List (List ℕ) → Bool → Answer → Type 0}
    {names : List ℕ → ℕ → Type 0} {carries : ℕ → List OutItem → Type 0} where
  pub settles : (told : List Step) (id method : ℕ) (number : CallNumber J book) (half : FeederHalf)
      (finished : FinishedJob J book) (returning : ReturningCall J book) (input : InAccount)
      (output : OutAccount) (status : Option ℕ) (sent : List OutItem)
      → is_closed half ≡ true → status ≡ told_status (put_shut finished.given.shut) finished.status
      → slice_get number.seen.log number.value
      ≡ slice_get finished.number.seen.log finished.number.value
      → slice_get number.seen.log number.value
      ≡ slice_get returning.sending.value.number.seen.log returning.sending.value.number.value
      → option_map (λ s. got s.rx) returning.sending.value.sender ≡ Some sent
      → ((messages : List (List ℕ))
      → TakesMessages (got finished.taker.rx) finished.taker.progress messages
      → CountsIn (pieces_of (shown half).items) (shut_in (shown half).closing) messages
      finished.taker.progress.told input)
      → CountsOut (put_shut finished.given.shut) sent output
      → IsCallOf known names carries told id method number (shown half)
      (Some finished) (Some returning)
      → IsSettled known names carries told (record {
        id = id;
        method = method;
        input = input;
        output = output;
        status = status;
        traffic = finished.traffic;
      })
  settles told id method number half finished returning input output status sent closed same_status
      same_finished same_sending there counts_in counts_out is =
      let a = answered-by is.request number finished is.asked same_finished is.answered in
      let in_side = counts_in a.messages a.took in
      let items = (shown half).items in
      let account : CallAccount = record {
        id = id;
        method = method;
        input = input;
        output = output;
        status = status;
        traffic = finished.traffic;
      } in
      let whole : Account = record {
        fed = bytes_of (shown half).items;
        shut = shut_in (shown half).closing;
        taken = a.messages;
        told = finished.taker.progress.told;
        given = put_shut finished.given.shut;
        sent = sent;
      } in
      record {
        head = is.request.head;
        known = is.known_id;
        opened = is.opened;
        named = is.named;
        over =
            ap (λ (found : Option Closing). is_some found) (sym is.fed.closing)
            ∙ closed-some half closed;
        whole = whole;
        fed = is.fed.fed;
        shut = ap shut_in is.fed.closing;
        stands = record {
          lawful = record {
            taken = in_side.lawful.taken;
            told = in_side.lawful.told;
            sent = counts_out.lawful.sent;
            given = counts_out.lawful.given;
          };
          pieces = pieces_of items;
          fed = refl;
          in_side = in_side;
          out_side = counts_out;
          answered =
              subst (λ (index : ℕ).
              IsAnswered (known index) is.request.head a.messages finished.taker.progress.told
              (put_shut finished.given.shut) status) is.same_method
              (subst (λ (found : Option ℕ).
              IsAnswered (known is.request.index) is.request.head a.messages
              finished.taker.progress.told (put_shut finished.given.shut) found) (sym same_status)
              (answered-told (known is.request.index) is.request.head a.messages
              finished.taker.progress.told (put_shut finished.given.shut)
              finished.status a.answered));
        };
        bare = λ none. same_status ∙ told-none (put_shut finished.given.shut) finished.status none;
        carried = subst (λ (n : ℕ). carries n sent) is.same_id
            (sent-as is.request returning.sending.value.sender
            (some-and (λ (r : Request).
            IsSomeAnd returning.sending.value.sender (λ s. carries r.id (got s.rx))) (request_at
            returning.sending.value.number.seen.log returning.sending.value.number.value) is.request
            (same-request number.seen.log returning.sending.value.number.seen.log
            number.value returning.sending.value.number.value is.request same_sending
            is.asked) is.returned) there);
      }
    where
      sent-as : (request : Request) (found : Option OutSender)
          → IsSomeAnd found (λ s. carries request.id (got s.rx))
          → option_map (λ s. got s.rx) found ≡ Some sent → carries request.id sent
      sent-as request None has is = absurd has
      sent-as request (Some sender) has is =
          subst (λ (items : List OutItem). carries request.id items) (some-same is) has
        where
          some-same : {x y : List OutItem} → Some x ≡ Some y → x ≡ y
          some-same same = cc

  is-with : (told : List Step) (call : Call J book) (finished : FinishedJob J book)
      (returning : ReturningCall J book)
      → call.finished ≡ Some finished → call.returning ≡ Some returning
      → IsCall known names carries told call
      → IsCallOf known names carries told call.id call.method call.number (shown call.half)
      (Some finished) (Some returning)
  is-with told call finished returning is_finished is_returning is =
      subst (λ (r : Option (ReturningCall J book)).
      IsCallOf known names carries told call.id call.method call.number (shown call.half)
      (Some finished) r) is_returning
      (subst (λ (f : Option (FinishedJob J book)).
      IsCallOf known names carries told call.id call.method call.number (shown call.half) f
      call.returning) is_finished is)

  -- so it is of a call that is over: `inner` is what lay in the box
  pub settled-by : (told : List Step) (call : Call J book) (finished : FinishedJob J book)
      (returning : ReturningCall J book) (inner : SendingEnd J book) (sender : OutSender)
      (input : InAccount) (output : OutAccount) (status : Option ℕ) (items : List InPiece)
      (shut : Option Shut)
      → is_over call ≡ true → status ≡ told_status (put_shut finished.given.shut) finished.status
      → call.finished ≡ Some finished → call.returning ≡ Some returning
      → inner ≡ returning.sending.value → inner.sender ≡ Some sender
      → (call.number.value ≡ finished.number.value
      → slice_get call.number.seen.log call.number.value
      ≡ slice_get finished.number.seen.log finished.number.value)
      → (call.number.value ≡ inner.number.value
      → slice_get call.number.seen.log call.number.value
      ≡ slice_get inner.number.seen.log inner.number.value)
      → (shown call.half).items ≡ items → shut_in (shown call.half).closing ≡ shut
      → ((messages : List (List ℕ))
      → TakesMessages (got finished.taker.rx) finished.taker.progress messages
      → CountsIn (pieces_of items) shut messages finished.taker.progress.told input)
      → CountsOut (put_shut finished.given.shut) (got sender.rx) output
      → IsCall known names carries told call
      → IsSettled known names carries told (record {
        id = call.id;
        method = call.method;
        input = input;
        output = output;
        status = status;
        traffic = finished.traffic;
      })
  settled-by told call finished returning inner sender input output status items shut over
      same_status is_finished is_returning is_inner is_sender worked sent has_items has_shut
      counts_in counts_out is =
      let one = one-sent call.number call.returning returning call.one_returning is_returning in
      settles told call.id call.method call.number call.half finished returning input output
      status (got sender.rx)
      (over-closed (is_some call.finished) (is_some call.returning)
      (is_closed call.half) over) same_status
      (worked (one-worked call.number call.finished finished call.one_finished is_finished))
      (subst (λ (s : SendingEnd J book).
      slice_get call.number.seen.log call.number.value
      ≡ slice_get s.number.seen.log s.number.value) is_inner
      (sent (one ∙ ap (λ (s : SendingEnd J book). s.number.value) (sym is_inner))))
      (ap (λ (s : SendingEnd J book).
      option_map (λ (o : OutSender). got o.rx) s.sender) (sym is_inner)
      ∙ ap (λ (o : Option OutSender). option_map (λ (x : OutSender). got x.rx) o) is_sender)
      (λ messages took.
      counts-as (shown call.half).items items (shut_in (shown call.half).closing) shut messages
      finished.taker.progress.told input has_items has_shut (counts_in messages took))
      counts_out (is-with told call finished returning is_finished is_returning is)
