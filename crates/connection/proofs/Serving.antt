-- What was sent of each call, and that those that were left have no status, where a connection's
-- reader has met its writer.
use Rattle.std.proofs.Common.{
  ◌≡◌,
  ◌∙◌,
  ◌⊎◌,
  inl,
  inr,
  ◌<◌,
  ℕ,
  zero,
  suc,
  arith,
  Bool,
  true,
  false,
  true≢false,
  eqb-true,
  List,
  [],
  ◌∷◌,
  ◌++◌,
  All,
  Option,
  None,
  Some,
  ap,
  append-nil,
  map,
  refl,
  subst,
  sym,
}
use Rattle.std.specs.Prelude.{
  Contains,
  IfSome,
  IsSome,
  length,
  nat_eq,
  option_map,
  slice_get,
  get_or,
}
use Rattle.std.specs.List.{IsDistinct}
use Rattle.std.specs.List.Sorted.{IsPermutation}
use Rattle.std.proofs.lemmas.Bool.{eq-eqb, ne_eqb}
use Rattle.std.proofs.lemmas.List.{append_assoc, map-append}
use Rattle.std.proofs.lemmas.List.Elements.{
  All-append,
  All-cons,
  All-contains,
  All-map,
  All-nil,
  All-weaker,
  Contains-append_cases,
  Contains-append_left,
  Contains-append_right,
}
use Rattle.std.proofs.lemmas.List.Sorted.{
  Contains-permutation,
  IsPermutation-append,
  IsPermutation-append_comm,
  IsPermutation-map,
  IsPermutation-refl,
  IsPermutation-sym,
  IsPermutation-trans,
}
use Rattle.std.proofs.lemmas.Map.Keys.{IsDistinct-IsPermutation}
use Rattle.std.proofs.lemmas.Option.{slice_get-get_or}
use mathlib.Core.List.{IsPrefix}
use Rattle.account.specs.declared.call.OutItem.{OutItem}
use Rattle.account.specs.declared.call.OutItem.TheVariants.{Left}
use Rattle.callparts.specs.declared.call_account.CallAccount.{CallAccount}
use Rattle.callparts.specs.declared.order.OpeningCall.{OpeningCall}
use Rattle.callparts.specs.declared.order.ReturningCall.{ReturningCall}
use Rattle.callparts.specs.declared.register.CallNumber.{CallNumber}
use Rattle.callparts.specs.declared.register.Naming.{Ghosts as Naming}
use Rattle.callparts.specs.declared.report.Ending.{Ending}
use Rattle.callparts.specs.declared.report.Ending.TheVariants.{ProtocolError}
use Rattle.callparts.specs.declared.work.Work.{Work}
use Rattle.callparts.specs.Lanes.{OutSender}
use Rattle.callparts.specs.Numbers.{request_at}
use Rattle.h2frame.specs.declared.error_code.ErrorCode.{ErrorCode}
use Rattle.h2frame.specs.declared.error_code.ErrorCode.TheVariants as error
use Rattle.handlers.specs.declared.step.MethodStep.{MethodStep as Answer}
use Rattle.lane.specs.Ring.{put_in}
use Rattle.lane.specs.RingLane.{LaneName, got}
use Rattle.outwriter.specs.declared.control.WriterOrder.{WriterOrder}
use Rattle.outwriter.specs.declared.control.WriterOrder.TheVariants.{
  Settings,
  Ping,
  Probe,
  Window,
  Open,
  Refuse,
  Reset,
  Goaway,
  InputEnded,
  Close,
}
use Rattle.outwriter.specs.Calls.{is_served}
use Rattle.outwriter.specs.Cores.{calls}
use Rattle.outwriter.specs.Steps.{Order, order_of}
use Rattle.outwriter.specs.Steps.{Step as RunStep}
use Rattle.session.specs.declared.event.InEvent.TheVariants as events
use Rattle.readerloop.specs.Calls.{SentItems, carried_in}
use Rattle.readerloop.specs.Orders.{orders_by}
use Rattle.readerloop.specs.Reports.{AreAccounts, IsAccounted, IsSettled}
use Rattle.readerloop.specs.Steps.{IsRising, Step, WasTold, admitted}
use Rattle.writerloop.specs.declared.senders.Senders.{Senders}
use Rattle.writerloop.specs.declared.sends.SendingCall.{SendingCall as SentCall}
use Rattle.writerloop.specs.Done.{IsDone}
use Rattle.writerloop.specs.Left.{left_by, left_in}
use Rattle.writerloop.specs.Orders.{Obeys, order_in, orders_of}
use Rattle.writerloop.specs.Rest.{rest_calls}
use Rattle.writerloop.specs.Sent.{
  AreApart,
  HasAll,
  IsTold,
  ResetsNone,
  core_keys,
  got_of,
  handed_calls,
  handed_numbers,
  keys,
  numbers,
  opens,
}
use Rattle.connection.specs.declared.orders.Orders.{Orders}
use Rattle.connection.specs.declared.orders.Route.{Ghosts}
use Rattle.connection.specs.Heard.{HasPut}
use Rattle.connection.specs.Left.{AreLeft}
use Rattle.connection.specs.Puts.{Closed, IsOwn, put_of}
use Rattle.connection.specs.Sent.{CarriesWhatWasSent}
use Rattle.connection.proofs.Causes.{IsCaused, put-caused}
use Rattle.connection.proofs.HeardActs.{all-front}
use Rattle.connection.proofs.Joining.{
  all_calls,
  all_sent,
  as_sent,
  distinct-admitted,
  distinct-part,
  distinct-parts,
  in-map,
  none-in,
  opened-admitted,
  opens-append,
  opens-one,
  opens-streams,
  opens_of-append,
  same-entry,
  unput_calls,
}
use Rattle.connection.proofs.Opens.{opens_of}
use Rattle.connection.proofs.LeftCalls.{bare-response}
use Rattle.connection.proofs.OpenedOnce.{served-among}
use Rattle.connection.proofs.RunOrders.{Each, each-among, each-front}

-- ---- no order of the reader's resets as one of a call that was left

left-none : (told : List Step)
    → ((id : ℕ) → WasTold (events.StreamError id error.InternalError) told → ⊥) → (order : Order)
    → IsCaused told order → left_by order ≡ []
left-none told never (Reset id error.InternalError true) (inl was) = absurd (never id was)
left-none told never (Reset id error.InternalError true) (inr own) = absurd own
left-none told never (Reset id error.NoError true) caused = refl
left-none told never (Reset id error.ProtocolError true) caused = refl
left-none told never (Reset id error.FlowControlError true) caused = refl
left-none told never (Reset id error.SettingsTimeout true) caused = refl
left-none told never (Reset id error.StreamClosed true) caused = refl
left-none told never (Reset id error.FrameSizeError true) caused = refl
left-none told never (Reset id error.RefusedStream true) caused = refl
left-none told never (Reset id error.Cancel true) caused = refl
left-none told never (Reset id error.CompressionError true) caused = refl
left-none told never (Reset id error.ConnectError true) caused = refl
left-none told never (Reset id error.EnhanceYourCalm true) caused = refl
left-none told never (Reset id error.InadequateSecurity true) caused = refl
left-none told never (Reset id error.Http11Required true) caused = refl
left-none told never (Reset id (error.Unknown number) true) caused = refl
left-none told never (Reset id error.InternalError false) caused = refl
left-none told never (Reset id error.NoError false) caused = refl
left-none told never (Reset id error.ProtocolError false) caused = refl
left-none told never (Reset id error.FlowControlError false) caused = refl
left-none told never (Reset id error.SettingsTimeout false) caused = refl
left-none told never (Reset id error.StreamClosed false) caused = refl
left-none told never (Reset id error.FrameSizeError false) caused = refl
left-none told never (Reset id error.RefusedStream false) caused = refl
left-none told never (Reset id error.Cancel false) caused = refl
left-none told never (Reset id error.CompressionError false) caused = refl
left-none told never (Reset id error.ConnectError false) caused = refl
left-none told never (Reset id error.EnhanceYourCalm false) caused = refl
left-none told never (Reset id error.InadequateSecurity false) caused = refl
left-none told never (Reset id error.Http11Required false) caused = refl
left-none told never (Reset id (error.Unknown number) false) caused = refl
left-none told never (Settings settings) caused = refl
left-none told never (Ping bytes) caused = refl
left-none told never (Probe bytes) caused = refl
left-none told never (Window id n) caused = refl
left-none told never (Open id sender) caused = refl
left-none told never (Refuse id fields) caused = refl
left-none told never (Goaway last cause) caused = refl
left-none told never InputEnded caused = refl
left-none told never Close caused = refl

pub resets-none : (told : List Step) (put front rest : List Order)
    → HasPut (orders_by told ++ InputEnded ∷ []) put → put ≡ front ++ rest
    → ((id : ℕ) → WasTold (events.StreamError id error.InternalError) told → ⊥) → ResetsNone front
resets-none told put front rest has parts never order among =
    left-none told never order
    (each-among (IsCaused told) order front among (each-front (IsCaused told) front rest
    (subst (λ (os : List Order). Each (IsCaused told) os) parts (put-caused told put has))))

-- the reader ended the connection so, or the writer did for its cause
pub blamed-or : {B : Type 0} (read : Ending) (written : Option Ending) (code : ErrorCode)
    → (read ≡ ProtocolError code) ⊎ (written ≡ Some (ProtocolError code))
    → (written ≡ Some (ProtocolError code) → B)
    → (read ≡ ProtocolError code) ⊎ B
blamed-or read written code (inl is) says = inl is
blamed-or read written code (inr is) says = inr (says is)

-- ---- what stands in the register

some-of : {A : Type 0} (found : Option A) (x : A) → found ≡ Some x → IsSome found
some-of None x is = absurd cc
some-of (Some y) x is = refl

some-map : {A B : Type 0} (f : A → B) (found : Option A) → IsSome found
    → IsSome (option_map f found)
some-map f None there = absurd cc
some-map f (Some x) there = refl

some-within : {A : Type 0} (xs : List A) (n : ℕ) → n < length xs → IsSome (slice_get xs n)
some-within [] n within = absurd (none n within)
  where
    none : (k : ℕ) → k < 0 → ⊥
    none k less = omega (arith, less)
some-within (x ∷ xs) n within =
    some-of (slice_get (x ∷ xs) n) (get_or (x ∷ xs) n x) (slice_get-get_or (x ∷ xs) n x within)

core-ids : (core : List (ℕ × OutSender))
    → map (λ key. key.0) (core_keys core) ≡ map (λ call. call.0) (calls got core)
core-ids [] = refl
core-ids (call ∷ core) = ap (λ (ids : List ℕ). call.0 ∷ ids) (core-ids core)

aside-ids : {A : Type 0} (opened : List (A × ℕ))
    → map (λ (call : ℕ × List OutItem). call.0) (map (λ (call : A × ℕ). (call.1, [])) opened)
    ≡ map (λ (call : A × ℕ). call.1) opened
aside-ids [] = refl
aside-ids (call ∷ opened) = ap (λ (ids : List ℕ). call.1 ∷ ids) (aside-ids opened)

module _ {J : Type 0} {book : Naming J} where
  pub number-stands : (number : CallNumber J book)
      → IsSome (request_at number.seen.log number.value)
  number-stands number =
      some-map (λ (work : Work). work.request) (slice_get number.seen.log number.value)
      (some-within number.seen.log number.value number.stands)

  abbrev of_orders : List (WriterOrder (OpeningCall J book)) → List Order
  of_orders orders = map (λ order. order_of order) orders

  pub given-first : (given aside took left all : List (WriterOrder (OpeningCall J book)))
      → took ≡ given ++ aside → took ++ left ≡ all
      → orders_of all ≡ orders_of given ++ (orders_of aside ++ orders_of left)
  given-first given aside took left all parts put =
      ap of_orders (sym put
      ∙ (ap (λ (os : List (WriterOrder (OpeningCall J book))). os ++ left) parts
      ∙ append_assoc given aside left))
      ∙ (map-append (λ (o : WriterOrder (OpeningCall J book)). order_of o) given (aside ++ left)
      ∙ ap (λ (os : List Order). of_orders given ++ os)
      (map-append (λ (o : WriterOrder (OpeningCall J book)). order_of o) aside left))

  -- ---- the streams

  key-ids : (sent : List (SentCall J book))
      → map (λ call. call.1) (numbers sent) ≡ map (λ key. key.0) (keys sent)
  key-ids [] = refl
  key-ids (call ∷ sent) = ap (λ (ids : List ℕ). call.id ∷ ids) (key-ids sent)

  handed-ids : (handed : List (ℕ × ReturningCall J book))
      → map (λ call. call.1) (handed_numbers handed) ≡ map (λ call. call.0) (handed_calls handed)
  handed-ids [] = refl
  handed-ids (one ∷ handed) = ap (λ (ids : List ℕ). one.0 ∷ ids) (handed-ids handed)

  -- those of the calls that were sent are those that the orders open
  call-ids : (rest : Senders J book) (handed : List (ℕ × ReturningCall J book))
      (given took : List (WriterOrder (OpeningCall J book)))
      → took ≡ given ++ order_in rest.aside
      → IsPermutation (opens given) (numbers rest.sends.calls.items ++ handed_numbers handed)
      → IsPermutation (map (λ call. call.1) (opens took))
      (map (λ call. call.0) (rest_calls rest ++ handed_calls handed))
  call-ids rest handed given took parts all =
      let ids : List (CallNumber J book × ℕ) → List ℕ = λ calls. map (λ call. call.1) calls in
      let aside = opens (order_in rest.aside) in
      let sent = numbers rest.sends.calls.items in
      let back = handed_numbers handed in
      let took-is : ids (opens took) ≡ ids (opens given) ++ ids aside =
      ap (λ (os : List (WriterOrder (OpeningCall J book))). ids (opens os)) parts
      ∙ (ap ids (opens-append given (order_in rest.aside))
      ∙ map-append (λ (call : CallNumber J book × ℕ). call.1) (opens given) aside) in
      let core-is : map (λ call. call.0) (calls got rest.core.items) ≡ ids sent =
      sym (core-ids rest.core.items)
      ∙ (ap (λ (ks : List (ℕ × Option LaneName)). map (λ key. key.0) ks) (sym rest.aligned)
      ∙ sym (key-ids rest.sends.calls.items)) in
      let calls-are : map (λ call. call.0) (rest_calls rest ++ handed_calls handed)
      ≡ (ids aside ++ ids sent) ++ ids back =
      map-append (λ (call : ℕ × List OutItem). call.0) (rest_calls rest) (handed_calls handed)
      ∙ (ap (λ (xs : List ℕ). xs ++ map (λ call. call.0) (handed_calls handed))
      (map-append (λ (call : ℕ × List OutItem). call.0) (map (λ call. (call.1, [])) aside)
      (calls got rest.core.items)
      ∙ (ap (λ (xs : List ℕ). xs ++ map (λ call. call.0) (calls got rest.core.items))
      (aside-ids aside)
      ∙ ap (λ (xs : List ℕ). ids aside ++ xs) core-is))
      ∙ ap (λ (xs : List ℕ). (ids aside ++ ids sent) ++ xs) (sym (handed-ids handed))) in
      let moved : IsPermutation (ids (opens given)) (ids sent ++ ids back) =
      subst (λ (xs : List ℕ). IsPermutation (ids (opens given)) xs)
      (map-append (λ (call : CallNumber J book × ℕ). call.1) sent back) (IsPermutation-map
      (λ (call : CallNumber J book × ℕ). call.1) (opens given) (sent ++ back) all) in
      let front : IsPermutation (ids (opens given) ++ ids aside)
      ((ids sent ++ ids back) ++ ids aside) =
      IsPermutation-append (ids (opens given)) (ids sent ++ ids back) (ids aside) (ids aside) moved
      (IsPermutation-refl (ids aside)) in
      let turned : IsPermutation ((ids sent ++ ids back) ++ ids aside)
      (ids aside ++ (ids sent ++ ids back)) =
      IsPermutation-append_comm (ids sent ++ ids back) (ids aside) in
      subst (λ (xs : List ℕ).
      IsPermutation xs (map (λ call. call.0)
      (rest_calls rest ++ handed_calls handed))) (sym took-is)
      (subst (λ (xs : List ℕ). IsPermutation (ids (opens given) ++ ids aside) xs)
      (sym (append_assoc (ids aside) (ids sent) (ids back)) ∙ sym calls-are)
      (IsPermutation-trans (ids (opens given) ++ ids aside) ((ids sent ++ ids back) ++ ids aside)
      (ids aside ++ (ids sent ++ ids back)) front turned))

module _ {A B C J N : Type 0} {book : Naming J} {route : Ghosts N} (told : List Step)
    (rising : IsRising told) (orders : Orders A B C J N book route)
    (closed : Closed (orders_by told ++ InputEnded ∷ []) orders)
    (took : List (WriterOrder (OpeningCall J book))) (taken : IsPrefix took (put_of orders)) where
  -- each was put, so it stands in the register
  pub took-own : All IsOwn took
  took-own =
      all-front IsOwn took taken.0
      (subst (λ (os : List (WriterOrder (OpeningCall J book))). All IsOwn os)
      (sym closed.put ∙ sym taken.1)
      (All-append IsOwn closed.front (Close ∷ [])
      (all-front IsOwn closed.front closed.dropped closed.own)
      (All-cons IsOwn Close [] tt (All-nil IsOwn))))

  abbrev opened : List ℕ
  opened = opens_of (of_orders closed.front)

  all-opened : opened ++ opens_of (of_orders closed.dropped) ≡ admitted told
  all-opened =
      sym (opens_of-append (of_orders closed.front) (of_orders closed.dropped))
      ∙ (ap opens_of
      (sym (map-append (λ (o : WriterOrder (OpeningCall J book)). order_of o)
      closed.front closed.dropped)
      ∙ closed.parts)
      ∙ (opens_of-append (orders_by told) (InputEnded ∷ [])
      ∙ (append-nil (opens_of (orders_by told)) ∙ opened-admitted told)))

  took-opened : opens_of (of_orders took) ++ opens_of (of_orders taken.0) ≡ opened
  took-opened =
      sym (opens_of-append (of_orders took) (of_orders taken.0))
      ∙ (ap opens_of
      (sym (map-append (λ (o : WriterOrder (OpeningCall J book)). order_of o) took taken.0)
      ∙ ap of_orders (taken.1 ∙ closed.put))
      ∙ (ap opens_of
      (map-append (λ (o : WriterOrder (OpeningCall J book)). order_of o) closed.front (Close ∷ []))
      ∙ (opens_of-append (of_orders closed.front) (Close ∷ []) ∙ append-nil opened)))

  all-distinct : IsDistinct nat_eq (opened ++ opens_of (of_orders closed.dropped))
  all-distinct =
      subst (λ (ids : List ℕ). IsDistinct nat_eq ids) (sym all-opened)
      (distinct-admitted told rising)

  pub took-apart : AreApart took
  took-apart =
      subst (λ (ids : List ℕ). IsDistinct nat_eq ids) (sym (opens-streams took))
      (distinct-part (opens_of (of_orders took)) (opens_of (of_orders taken.0)) (subst
      (λ (ids : List ℕ). IsDistinct nat_eq ids) (sym took-opened)
      (distinct-part opened (opens_of (of_orders closed.dropped)) all-distinct)))

  -- one that was dropped opens none of the streams of those that were taken
  pub dropped-apart : (id : ℕ) (opening : OpeningCall J book)
      → Contains closed.dropped (Open id opening) → Contains (opens_of (of_orders took)) id → ⊥
  dropped-apart id opening dropped there =
      distinct-parts opened (opens_of (of_orders closed.dropped)) id all-distinct
      (subst (λ (ids : List ℕ). Contains ids id) took-opened
      (Contains-append_left (opens_of (of_orders took)) (opens_of (of_orders taken.0)) id there))
      (subst (λ (ids : List ℕ). Contains ids id) (opens-streams closed.dropped) (in-map
      (λ (call : CallNumber J book × ℕ). call.1) (opens closed.dropped) _
      (opens-one closed.dropped id opening dropped)))

  module _ (out : Bool) (run : List RunStep) (rest : Senders J book)
      (handed : List (ℕ × ReturningCall J book)) (obeys : Obeys true (orders_of took) run)
      (tells : All (IsTold run) (rest_calls rest ++ handed_calls handed))
      (done : out ≡ true → All (IsDone run) (rest_calls rest ++ handed_calls handed)) where
    abbrev Carries : ℕ × List OutItem → Type 0
    Carries call = CarriesWhatWasSent out run call.0 call.1

    unserved : (id : ℕ) (items : List OutItem) → (is_served id run ≡ true → ⊥)
        → Carries (id, items)
    unserved id items never = record {
      told = λ served. absurd (never served);
      done = λ is served there. absurd (never served);
    }

    unput-told : (unput : Option (WriterOrder (OpeningCall J book)))
        → IfSome unput (Contains closed.dropped) → All Carries (unput_calls unput)
    unput-told None kept = All-nil Carries
    unput-told (Some (Open id opening)) kept =
        All-cons Carries (id, got_of opening.sending.value.sender) []
        (unserved id (got_of opening.sending.value.sender) (λ served.
        dropped-apart id opening kept (served-among id (orders_of took) run obeys served)))
        (All-nil Carries)
    unput-told (Some (Settings settings)) kept = All-nil Carries
    unput-told (Some (Ping bytes)) kept = All-nil Carries
    unput-told (Some (Probe bytes)) kept = All-nil Carries
    unput-told (Some (Window id n)) kept = All-nil Carries
    unput-told (Some (Refuse id fields)) kept = All-nil Carries
    unput-told (Some (Reset id code written)) kept = All-nil Carries
    unput-told (Some (Goaway last cause)) kept = All-nil Carries
    unput-told (Some InputEnded) kept = All-nil Carries
    unput-told (Some Close) kept = All-nil Carries

    -- what is carried so is what the frames tell, and nothing more was to be written
    pub carries-told : (id : ℕ) (items : List OutItem)
        → carried_in (all_sent rest handed orders.unput) id items
        → CarriesWhatWasSent out run id items
    carries-told id items there =
        All-contains (λ (one : SentItems). Carries (one.id, one.items))
        (all_sent rest handed orders.unput) (record { id = id; items = items })
        (All-map (λ (one : SentItems). Carries (one.id, one.items)) as_sent
        (all_calls rest handed orders.unput)
        (All-append Carries (rest_calls rest ++ handed_calls handed) (unput_calls orders.unput)
        (λ k d within. record {
          told = tells k d within;
          done = λ is. done is k d within;
        }) (unput-told orders.unput closed.kept))) there

  -- ---- those that were left

  module _ (known : ℕ → List (List ℕ) → Bool → Answer → Type 0) (names : List ℕ → ℕ → Type 0)
      (run : List RunStep) (rest : Senders J book) (given : List (WriterOrder (OpeningCall J book)))
      (parts : took ≡ given ++ order_in rest.aside)
      (all : HasAll given run rest.sends.calls.items rest.core.items (put_in rest.sends.home))
      (none : ResetsNone (orders_of given)) where
    streams : IsDistinct nat_eq (map (λ call. call.0) (rest_calls rest ++ handed_calls all.handed))
    streams =
        IsDistinct-IsPermutation nat_eq flips (map (λ call. call.1) (opens took))
        (map (λ call. call.0) (rest_calls rest ++ handed_calls all.handed))
        (call-ids rest all.handed given took parts all.all) took-apart
      where
        flips : (x y : ℕ) → nat_eq x y ≡ nat_eq y x
        flips x y = by (nat_eq x y) refl
          where
            by : (found : Bool) → nat_eq x y ≡ found → nat_eq x y ≡ nat_eq y x
            by true one = one ∙ sym (eq-eqb y x (sym (eqb-true x y one)))
            by false other =
                other ∙ sym (ne_eqb y x (λ same. true≢false (sym (eq-eqb x y (sym same)) ∙ other)))

    among-took : (id : ℕ) (items : List OutItem)
        → Contains (rest_calls rest ++ handed_calls all.handed) (id, items)
        → Contains (opens_of (of_orders took)) id
    among-took id items there =
        subst (λ (ids : List ℕ). Contains ids id) (opens-streams took)
        (Contains-permutation (map (λ call. call.0) (rest_calls rest ++ handed_calls all.handed))
        (map (λ call. call.1) (opens took)) id
        (IsPermutation-sym (map (λ call. call.1) (opens took))
        (map (λ call. call.0) (rest_calls rest ++ handed_calls all.handed))
        (call-ids rest all.handed given took parts all.all))
        (in-map (λ (call : ℕ × List OutItem). call.0) (rest_calls rest ++ handed_calls all.handed)
        (id, items) there))

    in-calls : (id : ℕ) (items : List OutItem)
        → Contains (calls got rest.core.items ++ handed_calls all.handed) (id, items)
        → Contains (rest_calls rest ++ handed_calls all.handed) (id, items)
    in-calls id items there =
        elim (Contains-append_cases (calls got rest.core.items) (handed_calls all.handed)
        (id, items) there) [
          | inl core ↦
              Contains-append_left (rest_calls rest) (handed_calls all.handed) (id, items)
              (Contains-append_right (map (λ call. (call.1, [])) (opens (order_in rest.aside)))
              (calls got rest.core.items) (id, items) core)
          | inr back ↦
              Contains-append_right (rest_calls rest) (handed_calls all.handed) (id, items) back
        ]

    not-unput : (unput : Option (WriterOrder (OpeningCall J book)))
        → IfSome unput (Contains closed.dropped)
        → (id : ℕ) (items : List OutItem) → Contains (unput_calls unput) (id, items)
        → Contains (opens_of (of_orders took)) id → ⊥
    not-unput None kept id items there took-it = none-in (id, items) there
    not-unput (Some (Open stream opening)) kept id items (zero, within, at) took-it =
        dropped-apart stream opening kept (subst (λ (n : ℕ). Contains (opens_of (of_orders took)) n)
        (sym (ap (λ (call : ℕ × List OutItem). call.0) at)) took-it)
    not-unput (Some (Open stream opening)) kept id items (suc k, within, at) took-it =
        none-in (id, items) (k, omega (arith, within), at)
    not-unput (Some (Settings settings)) kept id items there took-it = none-in (id, items) there
    not-unput (Some (Ping bytes)) kept id items there took-it = none-in (id, items) there
    not-unput (Some (Probe bytes)) kept id items there took-it = none-in (id, items) there
    not-unput (Some (Window stream n)) kept id items there took-it = none-in (id, items) there
    not-unput (Some (Refuse stream fields)) kept id items there took-it = none-in (id, items) there
    not-unput (Some (Reset stream code written)) kept id items there took-it =
        none-in (id, items) there
    not-unput (Some (Goaway last cause)) kept id items there took-it = none-in (id, items) there
    not-unput (Some InputEnded) kept id items there took-it = none-in (id, items) there
    not-unput (Some Close) kept id items there took-it = none-in (id, items) there

    back-from : (xs : List (ℕ × List OutItem)) (id : ℕ) (items : List OutItem)
        → Contains (map as_sent xs) (record { id = id; items = items }) → Contains xs (id, items)
    back-from [] id items there = none-in (record { id = id; items = items }) there
    back-from (call ∷ xs) id items (zero, within, at) = (0, omega arith, pair-of call at)
      where
        pair-of : (one : ℕ × List OutItem) → as_sent one ≡ record { id = id; items = items }
            → one ≡ (id, items)
        pair-of (n, found) is = ap (λ (sent : SentItems). (sent.id, sent.items)) is
    back-from (call ∷ xs) id items (suc k, within, at) =
        let rest-of = back-from xs id items (k, omega (arith, within), at) in
        (suc rest-of.0, omega (arith, rest-of.1), rest-of.2)

    settled-left : (account : CallAccount)
        → IsSettled known names (carried_in (all_sent rest all.handed orders.unput)) told account
        → Contains (left_in run) account.id → account.status ≡ None
    settled-left account is there =
        let gave = all.left none account.id there in
        let call = in-calls account.id gave.0 gave.1 in
        let sent =
        by call gave.0 (Contains-append_cases (rest_calls rest ++ handed_calls all.handed)
        (unput_calls orders.unput) (account.id, is.whole.sent)
        (back-from (all_calls rest all.handed orders.unput) account.id is.whole.sent is.carried)) in
        let within : Contains is.whole.given Left =
        subst (λ (items : List OutItem). Contains items Left) (sym is.stands.lawful.sent.1)
        (Contains-append_left is.whole.sent is.stands.lawful.sent.0 Left
        (subst (λ (items : List OutItem). Contains items Left) (sym sent) gave.2)) in
        is.bare (bare-response is.whole.given is.stands.lawful.given within)
      where
        by : {items : List OutItem}
            → Contains (rest_calls rest ++ handed_calls all.handed) (account.id, items)
            → (found : List OutItem)
            → Contains (rest_calls rest ++ handed_calls all.handed) (account.id, is.whole.sent)
            ⊎ Contains (unput_calls orders.unput) (account.id, is.whole.sent)
            → is.whole.sent ≡ items
        by {items} call found (inl same) =
            same-entry (rest_calls rest ++ handed_calls all.handed) account.id is.whole.sent
            items streams same call
        by {items} call found (inr unput) =
            absurd (not-unput orders.unput closed.kept account.id is.whole.sent unput
            (among-took account.id items call))

    pub are-left : (ids : List ℕ) (accounts : List CallAccount)
        → AreAccounts known names
        (carried_in (all_sent rest all.handed orders.unput)) told ids accounts
        → AreLeft (left_in run) accounts
    are-left ids accounts are =
        All-weaker
        (IsAccounted known names (carried_in (all_sent rest all.handed orders.unput)) told)
        (λ (account : CallAccount). Contains (left_in run) account.id → account.status ≡ None)
        (λ account is. by account is) accounts are.each
      where
        by : (account : CallAccount)
            → IsAccounted known names
            (carried_in (all_sent rest all.handed orders.unput)) told account
            → Contains (left_in run) account.id → account.status ≡ None
        by account (inl is) there = settled-left account is there
        by account (inr unserved) there = ap (λ (one : CallAccount). one.status) unserved.bare
