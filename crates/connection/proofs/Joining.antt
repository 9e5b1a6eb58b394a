-- What the senders of a connection's calls got, where its reader meets its writer.
use Rattle.std.proofs.Common.{
  ◌≡◌,
  ◌∙◌,
  ◌⊎◌,
  inl,
  inr,
  ◌<◌,
  ◌≤◌,
  ℕ,
  zero,
  suc,
  false,
  true≢false,
  nat_eq,
  List,
  [],
  ◌∷◌,
  ◌++◌,
  All,
  Option,
  None,
  Some,
  ap,
  append-nil,
  arith,
  map,
  refl,
  subst,
  sym,
}
use Rattle.std.specs.Prelude.{Contains, IfSome, IsSome, IsSomeAnd, MatchOption, option_map}
use Rattle.std.specs.List.{IsDistinct, AllByRecursion}
use Rattle.std.specs.List.Sorted.{IsPermutation}
use Rattle.std.proofs.lemmas.Bool.{eq-eqb}
use Rattle.std.proofs.lemmas.List.Elements.{
  All-append,
  All-contains,
  All-contains_itself,
  All-map,
  All-nil,
  All-cons,
  All-weaker,
  Contains-append_cases,
  Contains-append_left,
  Contains-append_right,
}
use Rattle.std.proofs.lemmas.List.Sorted.{Contains-permutation, IsPermutation-sym}
use Rattle.std.proofs.lemmas.Map.Keys.{IsDistinct-from_apart}
use Rattle.account.specs.declared.call.OutItem.{OutItem}
use Rattle.lane.specs.RingLane.{got}
use Rattle.outwriter.specs.declared.control.WriterOrder.{WriterOrder}
use Rattle.outwriter.specs.declared.control.WriterOrder.TheVariants.{
  Settings,
  Ping,
  Probe,
  Window,
  Open,
  Refuse,
  Reset,
  Goaway,
  InputEnded,
  Close,
}
use Rattle.outwriter.specs.Steps.{Order, order_of}
use Rattle.callparts.specs.declared.order.OpeningCall.{OpeningCall}
use Rattle.callparts.specs.declared.order.ReturningCall.{ReturningCall}
use Rattle.callparts.specs.declared.order.SendingEnd.{SendingEnd}
use Rattle.callparts.specs.declared.register.CallNumber.{CallNumber}
use Rattle.callparts.specs.declared.register.Naming.{Ghosts as Naming}
use Rattle.callparts.specs.declared.work.Request.{Request}
use Rattle.callparts.specs.Lanes.{OutSender}
use Rattle.callparts.specs.Numbers.{request_at}
use Rattle.readerloop.specs.Calls.{HasReturned, SentItems, carried_in}
use Rattle.readerloop.specs.Orders.{orders_at, orders_by}
use Rattle.readerloop.specs.Steps.{IsRising, Step, admitted, admitted_by, last_of, once}
use Rattle.readerloop.proofs.KeptLemmas.{below-last}
use Rattle.readerloop.proofs.KeptSteps.{distinct-push}
use Rattle.writerloop.specs.declared.senders.Senders.{Senders}
use Rattle.writerloop.specs.Orders.{order_in}
use Rattle.writerloop.specs.Rest.{rest_calls}
use Rattle.writerloop.specs.Sent.{got_of, handed_calls, handed_numbers, numbered, numbers, opens}
use Rattle.connection.specs.Heard.{AreCarried}
use Rattle.connection.specs.Puts.{IsOwn}
use Rattle.connection.specs.Rest.{CarriesOpen, CarriesRest}
use Rattle.connection.proofs.Opens.{opens-at, opens_of}

-- ---- elements of lists

pub none-in : {A P : Type 0} (x : A) → Contains [] x → P
none-in x (k, within, at) = absurd (none-within k within)
  where
    none-within : (n : ℕ) → n < 0 → ⊥
    none-within n less = omega (arith, less)

pub first-or-rest : {A : Type 0} (first : A) (xs : List A) (x : A) → Contains (first ∷ xs) x
    → (first ≡ x) ⊎ Contains xs x
first-or-rest first xs x (zero, within, at) = inl at
first-or-rest first xs x (suc k, within, at) = inr (k, omega (arith, within), at)

pub in-first : {A : Type 0} (x : A) (xs : List A) → Contains (x ∷ xs) x
in-first x xs = (0, omega arith, refl)

pub in-rest : {A : Type 0} (first : A) (xs : List A) (x : A) → Contains xs x
    → Contains (first ∷ xs) x
in-rest first xs x (k, within, at) = (suc k, omega (arith, within), at)

pub in-map : {A B : Type 0} (f : A → B) (xs : List A) (x : A) → Contains xs x
    → Contains (map f xs) (f x)
in-map f [] x there = none-in x there
in-map f (first ∷ xs) x there = elim (first-or-rest first xs x there) [
  | inl is ↦
      subst (λ (y : _). Contains (f first ∷ map f xs) y) (ap f is) (in-first (f first) (map f xs))
  | inr rest ↦ in-rest (f first) (map f xs) (f x) (in-map f xs x rest)
]

pub all-itself : {A : Type 0} (P : A → Type 0) (xs : List A)
    → ((x : A) → Contains xs x → P x) → All P xs
all-itself P xs each = All-weaker (Contains xs) P each xs (All-contains_itself xs)

-- ---- ids that are distinct

rec-part : {X : Type 0} (P : X → Type 0) (xs ys : List X) → AllByRecursion P (xs ++ ys)
    → AllByRecursion P xs
rec-part P [] ys all = tt
rec-part P (x ∷ xs) ys all = (all.0, rec-part P xs ys all.1)

rec-behind : {X : Type 0} (P : X → Type 0) (xs ys : List X) → AllByRecursion P (xs ++ ys)
    → AllByRecursion P ys
rec-behind P [] ys all = all
rec-behind P (x ∷ xs) ys all = rec-behind P xs ys all.1

rec-one : {X : Type 0} (P : X → Type 0) (xs : List X) (x : X) → AllByRecursion P xs
    → Contains xs x → P x
rec-one P [] x all there = none-in x there
rec-one P (first ∷ xs) x all there = elim (first-or-rest first xs x there) [
  | inl is ↦ subst P is all.0
  | inr rest ↦ rec-one P xs x all.1 rest
]

pub distinct-part : (ids more : List ℕ) → IsDistinct nat_eq (ids ++ more) → IsDistinct nat_eq ids
unfolding IsDistinct
distinct-part [] more apart = tt
distinct-part (id ∷ ids) more apart =
    (rec-part (λ (y : ℕ). nat_eq id y ≡ false) ids more apart.0, distinct-part ids more apart.1)

pub distinct-parts : (ids more : List ℕ) (id : ℕ) → IsDistinct nat_eq (ids ++ more)
    → Contains ids id → Contains more id → ⊥
unfolding IsDistinct
distinct-parts [] more id apart there other = none-in id there
distinct-parts (first ∷ ids) more id apart there other = elim (first-or-rest first ids id there) [
  | inl is ↦
      true≢false (sym (eq-eqb first id is)
      ∙ rec-one (λ (y : ℕ). nat_eq first y ≡ false) more id
      (rec-behind (λ (y : ℕ). nat_eq first y ≡ false) ids more apart.0) other)
  | inr rest ↦ distinct-parts ids more id apart.1 rest other
]

-- the admitted calls are of distinct streams
pub distinct-admitted : (told : List Step) → IsRising told → IsDistinct nat_eq (admitted told)
distinct-admitted [] rising =
    IsDistinct-from_apart nat_eq [] (λ i j d lt within. absurd (omega (arith, within)))
distinct-admitted (step ∷ before) rising =
    by (admitted_by step) rising.0 (distinct-admitted before rising.1)
  where
    by : (found : Option ℕ) → MatchOption found (Unit {0}) (λ id. last_of before < id)
        → IsDistinct nat_eq (admitted before) → IsDistinct nat_eq (admitted before ++ once found)
    by None rises apart =
        subst (λ (ids : List ℕ). IsDistinct nat_eq ids) (sym (append-nil (admitted before))) apart
    by (Some id) rises apart =
        distinct-push (admitted before) id
        (All-weaker (λ (other : ℕ). other ≤ last_of before) (λ (other : ℕ). other < id)
        (λ other low. omega (arith, low, rises)) (admitted before) (below-last before rising.1))
        apart

-- two entries of one id are one
pub same-entry : {A : Type 0} (entries : List (ℕ × A)) (id : ℕ) (one other : A)
    → IsDistinct nat_eq (map (λ entry. entry.0) entries) → Contains entries (id, one)
    → Contains entries (id, other) → one ≡ other
unfolding IsDistinct
same-entry [] id one other apart there also = none-in (id, one) there
same-entry (entry ∷ entries) id one other apart there also =
    elim (first-or-rest entry entries (id, one) there) [
      | inl is ↦ elim (first-or-rest entry entries (id, other) also) [
        | inl same ↦ ap (λ (e : ℕ × _). e.1) (sym is ∙ same)
        | inr rest ↦
            absurd (true≢false (sym (eq-eqb entry.0 id (ap (λ (e : ℕ × _). e.0) is))
            ∙ rec-one (λ (y : ℕ). nat_eq entry.0 y ≡ false) (map (λ e. e.0) entries) id apart.0
            (in-map (λ e. e.0) entries (id, other) rest)))
      ]
      | inr rest ↦ elim (first-or-rest entry entries (id, other) also) [
        | inl same ↦
            absurd (true≢false (sym (eq-eqb entry.0 id (ap (λ (e : ℕ × _). e.0) same))
            ∙ rec-one (λ (y : ℕ). nat_eq entry.0 y ≡ false) (map (λ e. e.0) entries) id apart.0
            (in-map (λ e. e.0) entries (id, one) rest)))
        | inr more ↦ same-entry entries id one other apart.1 rest more
      ]
    ]

-- ---- what came back

returned-by : (sent : List SentItems) (found : Option Request) (sender : Option OutSender) (id : ℕ)
    → IsSomeAnd found (λ request. request.id ≡ id) → IsSome sender
    → Contains sent (record { id = id; items = got_of sender })
    → IsSomeAnd found (λ request. IsSomeAnd sender (λ one. carried_in sent request.id (got one.rx)))
returned-by sent None sender id own there has = absurd own
returned-by sent (Some request) None id own there has = absurd cc
returned-by sent (Some request) (Some sender) id own there has =
    subst (λ (n : ℕ). carried_in sent n (got sender.rx)) (sym own) has

-- the stream of a request, 0 for none
abbrev pub id_in : Option Request → ℕ
id_in None = 0
id_in (Some request) = request.id

stands-so : (found : Option Request) → IsSome found
    → IsSomeAnd found (λ request. request.id ≡ id_in found)
stands-so None there = absurd cc
stands-so (Some request) there = refl

abbrev pub as_sent : ℕ × List OutItem → SentItems
as_sent call = record { id = call.0; items = call.1 }

pub fresh-there : (sender : Option OutSender) → option_map (λ s. got s.rx) sender ≡ Some []
    → IsSome sender × (got_of sender ≡ [])
fresh-there None fresh = absurd cc
fresh-there (Some sender) fresh = (refl, ends fresh)
  where
    ends : Some (got sender.rx) ≡ Some [] → got sender.rx ≡ []
    ends is = cc

-- ---- the streams that orders open

pub opens_of-append : (xs ys : List Order) → opens_of (xs ++ ys) ≡ opens_of xs ++ opens_of ys
opens_of-append [] ys = refl
opens_of-append (Open id sender ∷ xs) ys = ap (λ (ids : List ℕ). id ∷ ids) (opens_of-append xs ys)
opens_of-append (Settings settings ∷ xs) ys = opens_of-append xs ys
opens_of-append (Ping bytes ∷ xs) ys = opens_of-append xs ys
opens_of-append (Probe bytes ∷ xs) ys = opens_of-append xs ys
opens_of-append (Window id n ∷ xs) ys = opens_of-append xs ys
opens_of-append (Refuse id fields ∷ xs) ys = opens_of-append xs ys
opens_of-append (Reset id code written ∷ xs) ys = opens_of-append xs ys
opens_of-append (Goaway last cause ∷ xs) ys = opens_of-append xs ys
opens_of-append (InputEnded ∷ xs) ys = opens_of-append xs ys
opens_of-append (Close ∷ xs) ys = opens_of-append xs ys

pub opened-admitted : (told : List Step) → opens_of (orders_by told) ≡ admitted told
opened-admitted [] = refl
opened-admitted (step ∷ before) =
    opens_of-append (orders_by before) (orders_at before step)
    ∙ (ap (λ (ids : List ℕ). ids ++ opens_of (orders_at before step)) (opened-admitted before)
    ∙ ap (λ (ids : List ℕ). admitted before ++ ids) (opens-at before step))

module _ {J : Type 0} {book : Naming J} where
  pub opens-append : (xs ys : List (WriterOrder (OpeningCall J book)))
      → opens (xs ++ ys) ≡ opens xs ++ opens ys
  opens-append [] ys = refl
  opens-append (Open id opening ∷ xs) ys =
      ap (λ (all : List (CallNumber J book × ℕ)). numbered id opening.sending.value ∷ all)
      (opens-append xs ys)
  opens-append (Settings settings ∷ xs) ys = opens-append xs ys
  opens-append (Ping bytes ∷ xs) ys = opens-append xs ys
  opens-append (Probe bytes ∷ xs) ys = opens-append xs ys
  opens-append (Window id n ∷ xs) ys = opens-append xs ys
  opens-append (Refuse id fields ∷ xs) ys = opens-append xs ys
  opens-append (Reset id code written ∷ xs) ys = opens-append xs ys
  opens-append (Goaway last cause ∷ xs) ys = opens-append xs ys
  opens-append (InputEnded ∷ xs) ys = opens-append xs ys
  opens-append (Close ∷ xs) ys = opens-append xs ys

  -- their streams
  pub opens-streams : (xs : List (WriterOrder (OpeningCall J book)))
      → map (λ call. call.1) (opens xs) ≡ opens_of (map (λ order. order_of order) xs)
  opens-streams [] = refl
  opens-streams (Open id opening ∷ xs) = ap (λ (ids : List ℕ). id ∷ ids) (opens-streams xs)
  opens-streams (Settings settings ∷ xs) = opens-streams xs
  opens-streams (Ping bytes ∷ xs) = opens-streams xs
  opens-streams (Probe bytes ∷ xs) = opens-streams xs
  opens-streams (Window id n ∷ xs) = opens-streams xs
  opens-streams (Refuse id fields ∷ xs) = opens-streams xs
  opens-streams (Reset id code written ∷ xs) = opens-streams xs
  opens-streams (Goaway last cause ∷ xs) = opens-streams xs
  opens-streams (InputEnded ∷ xs) = opens-streams xs
  opens-streams (Close ∷ xs) = opens-streams xs

  -- a call that one of them opens
  pub opens-one : (xs : List (WriterOrder (OpeningCall J book))) (id : ℕ)
      (opening : OpeningCall J book)
      → Contains xs (Open id opening) → Contains (opens xs) (numbered id opening.sending.value)
  opens-one [] id opening there = none-in (Open id opening) there
  opens-one (first ∷ xs) id opening there = elim (first-or-rest first xs (Open id opening) there) [
    | inl is ↦
        subst (λ (order : WriterOrder (OpeningCall J book)).
        Contains (opens (order ∷ xs)) (numbered id opening.sending.value)) (sym is)
        (in-first (numbered id opening.sending.value) (opens xs))
    | inr rest ↦
        subst (λ (all : List (CallNumber J book × ℕ)).
        Contains all (numbered id opening.sending.value)) (sym (opens-append (first ∷ []) xs))
        (Contains-append_right (opens (first ∷ [])) (opens xs) (numbered id opening.sending.value)
        (opens-one xs id opening rest))
  ]

  -- it stands in the register, with its stream
  abbrev pub IsStanding : CallNumber J book × ℕ → Type 0
  IsStanding call =
      IsSomeAnd (request_at call.0.seen.log call.0.value) (λ request. request.id ≡ call.1)

  one-standing : (order : WriterOrder (OpeningCall J book)) → IsOwn order
      → All IsStanding (opens (order ∷ []))
  one-standing (Open id opening) own =
      All-cons IsStanding (numbered id opening.sending.value) [] own (All-nil IsStanding)
  one-standing (Settings settings) own = All-nil IsStanding
  one-standing (Ping bytes) own = All-nil IsStanding
  one-standing (Probe bytes) own = All-nil IsStanding
  one-standing (Window id n) own = All-nil IsStanding
  one-standing (Refuse id fields) own = All-nil IsStanding
  one-standing (Reset id code written) own = All-nil IsStanding
  one-standing (Goaway last cause) own = All-nil IsStanding
  one-standing InputEnded own = All-nil IsStanding
  one-standing Close own = All-nil IsStanding

  pub all-standing : (orders : List (WriterOrder (OpeningCall J book))) → All IsOwn orders
      → All IsStanding (opens orders)
  all-standing [] own = All-nil IsStanding
  all-standing (order ∷ orders) own =
      subst (λ (all : List (CallNumber J book × ℕ)). All IsStanding all)
      (sym (opens-append (order ∷ []) orders))
      (All-append IsStanding (opens (order ∷ [])) (opens orders)
      (one-standing order (own 0 order (omega arith)))
      (all-standing orders (λ k d within. own (suc k) d (omega (arith, within)))))

  -- ---- that each is carried

  pub returned-as : (sent : List SentItems) (sending : SendingEnd J book) (id : ℕ)
      → IsStanding (numbered id sending) → IsSome sending.sender
      → Contains sent (record { id = id; items = got_of sending.sender })
      → HasReturned (carried_in sent) sending
  returned-as sent sending id standing there has =
      returned-by sent (request_at sending.number.seen.log sending.number.value) sending.sender id
      standing there has

  abbrev pub own_sent : List (ReturningCall J book) → List SentItems
  own_sent returnings =
      map (λ returning. record {
        id =
            id_in (request_at returning.sending.value.number.seen.log
            returning.sending.value.number.value);
        items = got_of returning.sending.value.sender;
      }) returnings

  pub own-carried : (returnings : List (ReturningCall J book))
      → ((returning : ReturningCall J book)
      → IsSome (request_at returning.sending.value.number.seen.log
      returning.sending.value.number.value))
      → AreCarried (own_sent returnings) returnings
  own-carried returnings stand =
      all-itself (λ (returning : ReturningCall J book).
      HasReturned (carried_in (own_sent returnings)) returning.sending.value) returnings
      (λ returning there.
      returned-as (own_sent returnings) returning.sending.value (id_in
      (request_at returning.sending.value.number.seen.log returning.sending.value.number.value))
      (stands-so (request_at returning.sending.value.number.seen.log
      returning.sending.value.number.value) (stand returning)) returning.there
      (in-map (λ (one : ReturningCall J book). record {
        id = id_in (request_at one.sending.value.number.seen.log one.sending.value.number.value);
        items = got_of one.sending.value.sender;
      }) returnings returning there))

  -- ---- what all of them got

  abbrev pub unput_calls : Option (WriterOrder (OpeningCall J book)) → List (ℕ × List OutItem)
  unput_calls (Some (Open id opening)) = (id, got_of opening.sending.value.sender) ∷ []
  unput_calls _ = []

  abbrev pub all_calls : Senders J book → List (ℕ × ReturningCall J book)
      → Option (WriterOrder (OpeningCall J book)) → List (ℕ × List OutItem)
  all_calls rest handed unput = (rest_calls rest ++ handed_calls handed) ++ unput_calls unput

  abbrev pub all_sent : Senders J book → List (ℕ × ReturningCall J book)
      → Option (WriterOrder (OpeningCall J book)) → List SentItems
  all_sent rest handed unput = map as_sent (all_calls rest handed unput)

  module _ (rest : Senders J book) (handed : List (ℕ × ReturningCall J book))
      (unput : Option (WriterOrder (OpeningCall J book))) where
    sent-handed : (one : ℕ × ReturningCall J book) → Contains handed one
        → Contains (all_sent rest handed unput)
        (record { id = one.0; items = got_of one.1.sending.value.sender })
    sent-handed one there =
        in-map as_sent (all_calls rest handed unput) (one.0, got_of one.1.sending.value.sender)
        (Contains-append_left (rest_calls rest ++ handed_calls handed) (unput_calls unput)
        (one.0, got_of one.1.sending.value.sender)
        (Contains-append_right (rest_calls rest) (handed_calls handed)
        (one.0, got_of one.1.sending.value.sender)
        (in-map (λ (a : ℕ × ReturningCall J book). (a.0, got_of a.1.sending.value.sender))
        handed one there)))

    sent-rest : (id : ℕ) (items : List OutItem) → Contains (rest_calls rest) (id, items)
        → Contains (all_sent rest handed unput) (record { id = id; items = items })
    sent-rest id items there =
        in-map as_sent (all_calls rest handed unput) (id, items)
        (Contains-append_left (rest_calls rest ++ handed_calls handed)
        (unput_calls unput) (id, items) (Contains-append_left (rest_calls rest)
        (handed_calls handed) (id, items) there))

    -- these opened all calls, and each stands in the register
    module _ (given took : List (WriterOrder (OpeningCall J book)))
        (parts : took ≡ given ++ order_in rest.aside) (all :
        IsPermutation (opens given) (numbers rest.sends.calls.items ++ handed_numbers handed))
        (own : All IsOwn took) where
      standing : All IsStanding (opens given ++ opens (order_in rest.aside))
      standing =
          subst (λ (calls : List (CallNumber J book × ℕ)). All IsStanding calls)
          (ap opens parts ∙ opens-append given (order_in rest.aside)) (all-standing took own)

      stands-given : (call : CallNumber J book × ℕ)
          → Contains (numbers rest.sends.calls.items ++ handed_numbers handed) call
          → IsStanding call
      stands-given call there =
          All-contains IsStanding (opens given ++ opens (order_in rest.aside)) call standing
          (Contains-append_left (opens given) (opens (order_in rest.aside)) call
          (Contains-permutation (numbers rest.sends.calls.items ++ handed_numbers handed)
          (opens given) call (IsPermutation-sym (opens given)
          (numbers rest.sends.calls.items ++ handed_numbers handed) all) there))

      pub handed-carried : AreCarried (all_sent rest handed unput) (map (λ one. one.1) handed)
      handed-carried =
          All-map (λ (returning : ReturningCall J book).
          HasReturned (carried_in (all_sent rest handed unput)) returning.sending.value)
          (λ (one : ℕ × ReturningCall J book). one.1) handed
          (all-itself (λ (one : ℕ × ReturningCall J book).
          HasReturned (carried_in (all_sent rest handed unput)) one.1.sending.value) handed
          (λ one there.
          returned-as (all_sent rest handed unput) one.1.sending.value one.0
          (stands-given (numbered one.0 one.1.sending.value)
          (Contains-append_right (numbers rest.sends.calls.items) (handed_numbers handed)
          (numbered one.0 one.1.sending.value)
          (in-map (λ (a : ℕ × ReturningCall J book). numbered a.0 a.1.sending.value)
          handed one there)))
          one.1.there (sent-handed one there)))

      pub rest-carried : CarriesRest (all_sent rest handed unput) rest
      rest-carried returning id number call =
          returned-as (all_sent rest handed unput) returning.sending.value id
          (by (Contains-append_cases (opens (order_in rest.aside)) (numbers rest.sends.calls.items)
          (numbered id returning.sending.value) number)) returning.there
          (sent-rest id (got_of returning.sending.value.sender) call)
        where
          by : Contains (opens (order_in rest.aside)) (numbered id returning.sending.value)
              ⊎ Contains (numbers rest.sends.calls.items) (numbered id returning.sending.value)
              → IsStanding (numbered id returning.sending.value)
          by (inl aside) =
              All-contains IsStanding (opens given ++ opens (order_in rest.aside))
              (numbered id returning.sending.value) standing
              (Contains-append_right (opens given) (opens (order_in rest.aside))
              (numbered id returning.sending.value) aside)
          by (inr core) =
              stands-given (numbered id returning.sending.value) (Contains-append_left
              (numbers rest.sends.calls.items) (handed_numbers handed)
              (numbered id returning.sending.value) core)

  -- of an order that isn't put
  pub open-carried : (rest : Senders J book) (handed : List (ℕ × ReturningCall J book))
      (dropped : List (WriterOrder (OpeningCall J book)))
      (unput : Option (WriterOrder (OpeningCall J book)))
      → All IsOwn dropped → IfSome unput (Contains dropped)
      → IfSome unput (CarriesOpen (all_sent rest handed unput))
  open-carried rest handed dropped None own kept = tt
  open-carried rest handed dropped (Some (Open id opening)) own kept =
      let sent = all_sent rest handed (Some (Open id opening)) in
      returned-as sent opening.sending.value id
      (All-contains IsOwn dropped (Open id opening) own kept)
      (fresh-there opening.sending.value.sender opening.fresh).0
      (in-map as_sent (all_calls rest handed (Some (Open id opening)))
      (id, got_of opening.sending.value.sender)
      (Contains-append_right (rest_calls rest ++ handed_calls handed)
      ((id, got_of opening.sending.value.sender) ∷ []) (id, got_of opening.sending.value.sender)
      (in-first (id, got_of opening.sending.value.sender) [])))
  open-carried rest handed dropped (Some (Settings settings)) own kept = tt
  open-carried rest handed dropped (Some (Ping bytes)) own kept = tt
  open-carried rest handed dropped (Some (Probe bytes)) own kept = tt
  open-carried rest handed dropped (Some (Window id n)) own kept = tt
  open-carried rest handed dropped (Some (Refuse id fields)) own kept = tt
  open-carried rest handed dropped (Some (Reset id code written)) own kept = tt
  open-carried rest handed dropped (Some (Goaway last cause)) own kept = tt
  open-carried rest handed dropped (Some InputEnded) own kept = tt
  open-carried rest handed dropped (Some Close) own kept = tt
