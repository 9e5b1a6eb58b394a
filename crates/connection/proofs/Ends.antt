-- The end of a connection: what became of it, where its reader meets its writer.
use Rattle.std.proofs.Common.{
  ◌≡◌,
  ◌≢◌,
  ◌⊎◌,
  ◌∙◌,
  inl,
  inr,
  ◌++◌,
  ◌∷◌,
  ◌≤◌,
  ℕ,
  Bool,
  true,
  false,
  true≢false,
  List,
  [],
  All,
  Option,
  None,
  Some,
  ap,
  append-nil,
  length,
  refl,
  sym,
  subst,
}
use Rattle.std.specs.Io.KnownBytes.{IsAtEnd}
use Rattle.std.specs.Prelude.{IfSome}
use Rattle.std.proofs.lemmas.List.{append_assoc, length-map, map-append}
use mathlib.Core.List.{IsPrefix}
use Rattle.callparts.specs.declared.call_account.CallAccount.{CallAccount}
use Rattle.callparts.specs.declared.order.OpeningCall.{OpeningCall}
use Rattle.callparts.specs.declared.order.ReturningCall.{ReturningCall}
use Rattle.callparts.specs.declared.register.Naming.{Ghosts as Naming}
use Rattle.callparts.specs.declared.report.Ending.{Ending}
use Rattle.callparts.specs.declared.report.Ending.TheVariants.{OutOfMemory, ReadFailed, WriteFailed}
use Rattle.handlers.specs.declared.step.MethodStep.{MethodStep as Answer}
use Rattle.lane.specs.Ring.{put_in, taken}
use Rattle.outwriter.specs.Drains.{has_failed}
use Rattle.outwriter.specs.Runs.{IsLawful}
use Rattle.outwriter.proofs.Drained.{none-is-last}
use Rattle.outwriter.specs.Steps.{Order, order_of}
use Rattle.outwriter.specs.Steps.{Step as RunStep}
use Rattle.outwriter.specs.declared.control.WriterOrder.{WriterOrder}
use Rattle.outwriter.specs.declared.control.WriterOrder.TheVariants as control
use Rattle.outwriter.specs.declared.control.WriterOrder.TheVariants.{InputEnded, Close}
use Rattle.session.specs.FlowBytes.{counted_told}
use Rattle.readerloop.specs.declared.reading.Reading.{Reading}
use Rattle.readerloop.specs.Calls.{SentItems, carried_in}
use Rattle.readerloop.specs.Orders.{orders_by}
use Rattle.readerloop.specs.Readings.{Reads}
use Rattle.readerloop.specs.Reports.{AreAccounts, is_heard_out}
use Rattle.readerloop.specs.Steps.{Step, events_of, reported}
use Rattle.writerloop.specs.declared.senders.Senders.{Senders}
use Rattle.readerloop.proofs.Resets.{calm-more}
use Rattle.writerloop.specs.Done.{HasFailed, IsDone}
use Rattle.writerloop.specs.Orders.{Obeys, orders_of, order_in}
use Rattle.writerloop.specs.Rest.{rest_calls}
use Rattle.writerloop.specs.Sent.{handed_calls}
use Rattle.writerloop.specs.Written.{HasSent, HasWritten, IsOver}
use Rattle.writerloop.proofs.EndSteps.{told-on}
use Rattle.writerloop.proofs.OrderSteps.{obeys-more}
use Rattle.connection.specs.declared.orders.Orders.{Orders}
use Rattle.connection.specs.declared.orders.Route.{Ghosts}
use Rattle.connection.specs.Heard.{AreCarried, Grows, HasEnded, HasRead, Hears, IsOfInput}
use Rattle.connection.specs.Puts.{IsOwn, put_of, put_orders}
use Rattle.connection.specs.Rest.{CarriesOpen, CarriesRest}
use Rattle.connection.specs.Sent.{CarriesWhatWasSent}
use Rattle.connection.specs.Served.{IsServed, is_drained}
use Rattle.connection.proofs.Closing.{none-failed, none-left, took-close}
use Rattle.connection.proofs.Endings.{Meets}
use Rattle.connection.proofs.Heard.{closed-put, closed-whole, silent-more}
use Rattle.connection.proofs.HeardActs.{all-back, carried-before, carried-front}
use Rattle.connection.proofs.Joining.{
  all_sent,
  handed-carried,
  open-carried,
  own-carried,
  own_sent,
  rest-carried,
}
use Rattle.connection.proofs.Reports.{accounts-more, are-served, drained-is, un-true}
use Rattle.connection.proofs.Serving.{
  are-left,
  blamed-or,
  carries-told,
  given-first,
  number-stands,
  resets-none,
  took-apart,
  took-own,
}
use Rattle.connection.proofs.StreamErrors.{never-internal-of}
use Rattle.connection.proofs.Tallies.{calls-more}

some-is : {one other : Ending} → Some one ≡ Some other → one ≡ other
some-is same = cc

heard-spared : (ending : Ending) → is_heard_out ending ≡ true
    → (Some ending ≢ Some OutOfMemory) × (Some ending ≢ Some WriteFailed)
heard-spared ending out = (
  λ lacked. not ending OutOfMemory (some-is lacked) refl out,
  λ broke. not ending WriteFailed (some-is broke) refl out,
)
  where
    not : (one other : Ending) → one ≡ other → is_heard_out other ≡ false
        → is_heard_out one ≡ true → ⊥
    not one other is none found =
        true≢false (sym found ∙ (ap (λ (e : Ending). is_heard_out e) is ∙ none))

-- The run obeyed all orders that were put, where memory didn't run out and no write failed: a
-- writer takes orders to the end, which is Close, and behind that the reader put none.
none-over : (told : List Step) (front dropped : List Order) (given left : List Order)
    (run : List RunStep)
    → front ++ dropped ≡ orders_by told ++ InputEnded ∷ [] → given ++ left ≡ front ++ Close ∷ []
    → Obeys false given run → IsOver run → left ≡ []
none-over told front dropped given left run parts put obeys over =
    none-left told front dropped given left parts put (took-close given run obeys.0 over.closed)

-- without an error the connection wasn't cut short
not-cut : {B : Type 0} (run : List RunStep) → IsLawful run → has_failed run ≡ false
    → HasFailed run ⊎ B → B
not-cut run lawful clean (inl failed) =
    absurd (true≢false (sym failed ∙ none-is-last run lawful clean))
not-cut run lawful clean (inr other) = other

module _ {A B C J M N V W : Type 0} {book : Naming J} {route : Ghosts N}
    (known : ℕ → List (List ℕ) → Bool → Answer → Type 0) (names : List ℕ → ℕ → Type 0)
    (items : V → List CallAccount) (contents : W → Option (List ℕ)) (failed : W → Bool)
    (reading mid : Reading J M book) (old orders : Orders A B C J N book route)
    (grows : Grows reading mid)
    (ends : (sent : List SentItems) (told : List Step) → AreCarried sent (taken mid.home)
    → Reads known names (carried_in sent) told reading
    → (cuts : List Step) × HasEnded known names sent told cuts mid old orders)
    (hears : Hears known names reading old) (before : Option (List ℕ)) (amount : ℕ)
    (took : List (WriterOrder (OpeningCall J book))) (rest : Senders J book)
    (written : Option Ending) (device : W)
    (sent : HasSent contents failed before amount took rest written device)
    (came : IsPrefix (taken mid.home) (put_in rest.sends.home))
    (front : IsPrefix took (put_of orders)) where
  abbrev home : List (ReturningCall J book)
  home = put_in rest.sends.home

  -- each order that the writer took stands in the register: so it is whatever was sent
  owns : All IsOwn took
  owns =
      let own = own_sent home in
      let there =
      carried-front own mid home home refl came
      (own-carried home (λ returning. number-stands returning.sending.value.number)) in
      let some = hears own (carried-before own reading mid grows there) in
      let ended = ends own some.0 there some.1 in
      took-own (ended.0 ++ some.0) ended.1.reads.calls.rising orders
      (ended.1.ordered some.2) took front

  -- what all senders got, as they were handed back
  abbrev pub gave : List SentItems
  gave = all_sent rest sent.senders.handed orders.unput

  back : AreCarried gave home
  back =
      subst (λ (rs : List (ReturningCall J book)). AreCarried gave rs)
      sent.senders.are (handed-carried
      rest sent.senders.handed orders.unput sent.given took sent.orders_are sent.senders.all owns)

  there : AreCarried gave (taken mid.home)
  there = carried-front gave mid home home refl came back

  pub gave-there : AreCarried gave (taken reading.home)
  gave-there = carried-before gave reading mid grows there

  unput : IfSome orders.unput (CarriesOpen gave)
  unput =
      let some = hears gave gave-there in
      let ended = ends gave some.0 there some.1 in
      let closed = ended.1.ordered some.2 in
      open-carried rest sent.senders.handed closed.dropped orders.unput
      (all-back IsOwn closed.front closed.dropped closed.own) closed.kept

  -- there is an account for each call that was heard to be admitted
  pub ended-accounted : (calls : V) (told : List Step)
      → ((sent : List SentItems) (told : List Step) → AreCarried sent home → CarriesRest sent rest
      → IfSome orders.unput (CarriesOpen sent) → Reads known names (carried_in sent) told mid
      → AreAccounts known names (carried_in sent) told (reported told) (items calls))
      → Reads known names (carried_in gave) told reading
      → length (reported told) ≤ length (items calls)
  ended-accounted calls told settled reads =
      let ended = ends gave told there reads in
      let steps = ended.0 ++ told in
      let aside =
      rest-carried rest sent.senders.handed orders.unput sent.given took sent.orders_are
      sent.senders.all owns in
      let accounts = settled gave steps back aside unput ended.1.reads in
      let same : length (items calls) ≡ length (reported steps) =
      sym (length-map (items calls) (λ (account : CallAccount). account.id))
      ∙ ap (λ (ids : List ℕ). length ids) accounts.streams in
      subst (λ (n : ℕ). length (reported told) ≤ n) (sym same) (calls-more ended.0 told)

  -- so it is served, whatever was heard
  pub ended-served : (read ending : Ending) (calls : V) (bytes : List ℕ) (input : Option (List ℕ))
      (told : List Step) (read_failed : Bool)
      → ((unbroken : read ≢ WriteFailed) → Meets read ending written orders.has_dropped)
      → ((sent : List SentItems) (told : List Step) → AreCarried sent home → CarriesRest sent rest
      → IfSome orders.unput (CarriesOpen sent) → Reads known names (carried_in sent) told mid
      → AreAccounts known names (carried_in sent) told (reported told) (items calls))
      → HasRead known names gave read bytes told reading old
      → amount ≤ counted_told (events_of told) → (read ≡ ReadFailed → read_failed ≡ true)
      → (IsOfInput read → old.has_stopped ≡ false → IsAtEnd input)
      → (orders.has_stopped ≡ true → written ≡ None → orders.has_dropped ≡ true)
      → IsServed items contents failed known names bytes input before read_failed
      ending calls device
  ended-served read ending calls bytes input told read_failed meets settled has within
      unread over halted =
      let is = meets has.unbroken in
      let ended = ends gave told there has.reads in
      let steps = ended.0 ++ told in
      let rising = ended.1.reads.calls.rising in
      let shut = ended.1.ordered has.ordered in
      let apart = took-apart steps rising orders shut took front in
      let tells = sent.told apart in
      let aside =
      rest-carried rest sent.senders.handed orders.unput sent.given took sent.orders_are
      sent.senders.all owns in
      let accounts = settled gave steps back aside unput ended.1.reads in
      let events : events_of steps ≡ events_of told = silent-more ended.0 told ended.1.silent in
      let given : List Order = orders_of sent.given in
      let left : List Order = orders_of (order_in rest.aside) ++ orders_of front.0 in
      let all : put_orders orders ≡ given ++ left =
      given-first sent.given (order_in rest.aside) took front.0 (put_of orders)
      sent.orders_are front.1 in
      let none : (Some ending ≢ Some OutOfMemory) → (Some ending ≢ Some WriteFailed) → left ≡ [] =
      λ spared broke.
      (let lacks : written ≢ Some OutOfMemory = λ lacked. spared (ap Some (is.memory lacked)) in
      let fails : written ≢ Some WriteFailed = λ failing.
      broke (ap Some (is.broken failing (λ lacked. spared (ap Some lacked)))) in
      none-over steps (orders_of shut.front) (orders_of shut.dropped) given left sent.written.run
      (sym (map-append (λ one. order_of one) shut.front shut.dropped) ∙ shut.parts)
      (sym all
      ∙ (ap (λ os. orders_of os) shut.put
      ∙ map-append (λ one. order_of one) shut.front (control.Close ∷ [])))
      (sent.written.each lacks fails) (sent.written.over lacks fails)) in
      let clean : is_heard_out ending ≡ true → has_failed sent.written.run ≡ false =
      λ out.
      (let spared = heard-spared ending out in
      let lacks : written ≢ Some OutOfMemory = λ lacked. spared.0 (ap Some (is.memory lacked)) in
      let fails : written ≢ Some WriteFailed = λ failing.
      spared.1 (ap Some (is.broken failing (λ lacked. spared.0 (ap Some lacked)))) in
      let whole : put_orders orders ≡ orders_by steps ++ InputEnded ∷ Close ∷ [] =
      closed-whole (orders_by steps ++ InputEnded ∷ []) orders shut
      (is.dropped (λ lacked. spared.0 (ap Some lacked)))
      ∙ append_assoc (orders_by steps) (InputEnded ∷ []) (Close ∷ []) in
      let took-all : given ≡ put_orders orders =
      sym (append-nil given)
      ∙ (ap (λ (os : List Order). given ++ os) (sym (none spared.0 spared.1)) ∙ sym all) in
      none-failed steps given sent.written.run (calm-more ended.0 told ended.1.calm
      (has.calm (ap (λ (e : Ending). is_heard_out e) (sym (is.input out)) ∙ out)))
      (took-all ∙ whole) (sent.written.each lacks fails).0 (sent.unblamed (is.whole out))) in
      let done : is_heard_out ending ≡ true
      → All (IsDone sent.written.run) (rest_calls rest ++ handed_calls sent.senders.handed) =
      λ out.
      (let spared = heard-spared ending out in
      not-cut sent.written.run sent.written.lawful (clean out)
      (sent.done (λ lacked. spared.0 (ap Some (is.memory lacked)))
      (λ failing. spared.1 (ap Some (is.broken failing (λ lacked. spared.0 (ap Some lacked)))))
      apart)) in
      let put : HasWritten contents failed before amount (put_orders orders) (Some ending)
      (is_drained ending) device =
      told-on contents failed before amount given (put_orders orders) written (Some ending) false
      (is_drained ending) device
      (λ lacked. ap Some (is.memory lacked))
      (λ broke spared. ap Some (is.broken broke (λ lacked. spared (ap Some lacked))))
      (λ marked. is.marked (some-is marked))
      left (sym all) none sent.written
      (λ drained. clean (ap (λ (e : Ending). is_heard_out e) (drained-is ending drained))) in
      let resets =
      resets-none steps (put_orders orders) given left
      (closed-put (orders_by steps ++ InputEnded ∷ []) orders shut) all
      (λ id was. never-internal-of steps told id events has.some was) in
      are-served known names items contents failed bytes input before amount read_failed read ending
      gave told ended.0 reading mid old orders calls device has ended.1 is.input
      (λ spared broke calm. is.dropped spared) unread over (λ stopped.
      un-true (is_heard_out ending) (λ out.
      true≢false (sym (halted stopped (is.whole out))
      ∙ is.dropped (λ lacked. (heard-spared ending out).0 (ap Some lacked))))) within put
      (accounts-more known names (carried_in gave)
      (CarriesWhatWasSent (is_heard_out ending) put.run) (carries-told steps
      rising orders shut took front (is_heard_out ending) put.run rest sent.senders.handed (subst
      (λ (os : List Order). Obeys true os sent.written.run) (sym
      (ap (λ os. orders_of os) sent.orders_are
      ∙ map-append (λ one. order_of one) sent.given (order_in rest.aside)))
      (obeys-more given (orders_of (order_in rest.aside)) sent.written.run sent.written.some))
      tells done) steps (reported steps) (items calls) accounts)
      (are-left steps rising orders shut took front known names put.run rest sent.given
      sent.orders_are sent.senders resets (reported steps) (items calls) accounts)
      (λ code failing.
      blamed-or read written code (is.blamed code failing) (λ told-so. sent.blames code told-so))
