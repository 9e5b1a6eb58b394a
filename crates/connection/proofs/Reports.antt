-- What became of a connection, of what was heard, ordered and written.
use Rattle.std.proofs.Common.{
  ◌≡◌,
  ◌≢◌,
  ◌∙◌,
  ◌⊎◌,
  ◌≤◌,
  arith,
  inl,
  inr,
  ℕ,
  Bool,
  true,
  false,
  true≢false,
  List,
  [],
  ◌∷◌,
  ◌++◌,
  Option,
  None,
  Some,
  ap,
  append-nil,
  refl,
  subst,
  sym,
}
use Rattle.std.proofs.lemmas.List.{append_assoc}
use Rattle.std.specs.Prelude.{◌||◌, All, Contains, map}
use Rattle.std.specs.Io.KnownBytes.{Appends, IsAtEnd}
use Rattle.std.proofs.lemmas.List.Elements.{All-nil, All-weaker}
use Rattle.account.specs.declared.call.OutItem.{OutItem}
use Rattle.callparts.specs.declared.call_account.CallAccount.{CallAccount}
use Rattle.callparts.specs.declared.register.Naming.{Ghosts as Naming}
use Rattle.callparts.specs.declared.report.Ending.{Ending}
use Rattle.callparts.specs.declared.report.Ending.TheVariants.{
  Drained,
  InputEnded,
  PeerGoaway,
  ProtocolError,
  ReadFailed,
  WriteFailed,
  OutOfMemory,
}
use Rattle.h2frame.specs.declared.error_code.ErrorCode.{ErrorCode}
use Rattle.h2frame.specs.declared.error_code.ErrorCode.TheVariants.{FlowControlError}
use Rattle.handlers.specs.declared.step.MethodStep.{MethodStep as Answer}
use Rattle.outwriter.specs.Steps.{Order}
use Rattle.outwriter.specs.declared.control.WriterOrder.TheVariants as orders
use Rattle.session.specs.declared.event.InEvent.{InEvent}
use Rattle.session.specs.Events.{Events}
use Rattle.session.specs.FlowBytes.{counted_told}
use Rattle.readerloop.specs.declared.reading.Reading.{Reading}
use Rattle.readerloop.specs.Calls.{SentItems}
use Rattle.readerloop.specs.Orders.{IsReset, orders_by}
use Rattle.readerloop.specs.Reports.{AreAccounts, IsAccounted, IsFront, IsSettled, is_heard_out}
use Rattle.readerloop.specs.Steps.{Step, events_of, is_drain, is_draining, reported}
use Rattle.readerloop.proofs.Resets.{calm-more, reset-left, reset-ordered}
use Rattle.writerloop.specs.Blamed.{WouldOverflow}
use Rattle.writerloop.specs.Left.{left_in}
use Rattle.writerloop.specs.Written.{HasWritten}
use Rattle.connection.specs.declared.orders.Orders.{Orders}
use Rattle.connection.specs.declared.orders.Route.{Ghosts}
use Rattle.connection.specs.Heard.{HasEnded, HasPut, HasRead, IsEndedBy, IsOfInput}
use Rattle.connection.specs.Left.{AreLeft}
use Rattle.connection.specs.Puts.{put_orders}
use Rattle.connection.specs.Sent.{CarriesWhatWasSent}
use Rattle.connection.specs.Served.{IsServed, is_drained}
use Rattle.connection.proofs.Drained.{has-drained}
use Rattle.connection.proofs.CreditSteps.{told-within}
use Rattle.connection.proofs.Founded.{all-founded, cuts-founded}
use Rattle.connection.proofs.Heard.{
  closed-put,
  closed-whole,
  ended-more,
  input-out,
  silent-more,
  undrained-more,
}
use Rattle.connection.proofs.Tallies.{cuts-justified}

-- what is so unless an error ended the connection
pub calm-so : (ending : Ending) (P : Type 0) → is_heard_out ending ≡ true
    → (ending ≢ OutOfMemory → ending ≢ WriteFailed
    → ((code : ErrorCode) → ending ≢ ProtocolError code) → P)
    → P
calm-so InputEnded P calm so = so (λ is. cc) (λ is. cc) (λ code is. cc)
calm-so PeerGoaway P calm so = so (λ is. cc) (λ is. cc) (λ code is. cc)
calm-so ReadFailed P calm so = so (λ is. cc) (λ is. cc) (λ code is. cc)
calm-so Drained P calm so = so (λ is. cc) (λ is. cc) (λ code is. cc)
calm-so (ProtocolError code) P calm so = absurd cc
calm-so WriteFailed P calm so = absurd cc
calm-so OutOfMemory P calm so = absurd cc

-- ---- the server drained

drained-out : (ending : Ending) → ending ≡ Drained → is_heard_out ending ≡ true
drained-out ending is = ap (λ (e : Ending). is_heard_out e) is

drained-spared : (ending : Ending) → ending ≡ Drained → Some ending ≢ Some OutOfMemory
drained-spared ending is lacked = cc

drained-sent : (ending : Ending) → ending ≡ Drained → Some ending ≢ Some WriteFailed
drained-sent ending is failed = cc

pub drained-is : (ending : Ending) → is_drained ending ≡ true → ending ≡ Drained
drained-is Drained is = refl
drained-is InputEnded is = absurd cc
drained-is PeerGoaway is = absurd cc
drained-is (ProtocolError code) is = absurd cc
drained-is ReadFailed is = absurd cc
drained-is WriteFailed is = absurd cc
drained-is OutOfMemory is = absurd cc

or-more : (a b : Bool) → b ≡ true → (a || b) ≡ true
or-more true b is = refl
or-more false b is = is

draining-more : (more told : List Step) → is_draining told ≡ true
    → is_draining (more ++ told) ≡ true
draining-more [] told is = is
draining-more (step ∷ more) told is =
    or-more (is_drain step) (is_draining (more ++ told)) (draining-more more told is)

abbrev ending_orders : List Order
ending_orders = orders.InputEnded ∷ orders.Close ∷ []

-- that the writer blames its peer is no cause of the reader's
blamed-so : {B : Type 0} (told : List Step) (read : Ending) (code : ErrorCode)
    → ((c : ErrorCode) → read ≡ ProtocolError c → IsEndedBy (ProtocolError c) told)
    → (read ≡ ProtocolError code) ⊎ B → IsEndedBy (ProtocolError code) told ⊎ B
blamed-so told read code failed (inl is) = inl (failed code is)
blamed-so told read code failed (inr is) = inr is

module _ (answers : ℕ → List (List ℕ) → Bool → Answer → Type 0) (names : List ℕ → ℕ → Type 0)
    (carries also : ℕ → List OutItem → Type 0)
    (more : (id : ℕ) (items : List OutItem) → carries id items → also id items) where
  settled-more : (told : List Step) (account : CallAccount)
      → IsSettled answers names carries told account → IsSettled answers names also told account
  settled-more told account is = record {
    head = is.head;
    known = is.known;
    opened = is.opened;
    named = is.named;
    over = is.over;
    whole = is.whole;
    fed = is.fed;
    shut = is.shut;
    stands = is.stands;
    bare = is.bare;
    carried = more account.id is.whole.sent is.carried;
  }

  accounted-more : (told : List Step) (account : CallAccount)
      → IsAccounted answers names carries told account → IsAccounted answers names also told account
  accounted-more told account (inl is) = inl (settled-more told account is)
  accounted-more told account (inr none) = inr none

  -- what is carried is carried otherwise too
  pub accounts-more : (told : List Step) (streams : List ℕ) (accounts : List CallAccount)
      → AreAccounts answers names carries told streams accounts
      → AreAccounts answers names also told streams accounts
  accounts-more told streams accounts are = record {
    each =
        All-weaker (IsAccounted answers names carries told) (IsAccounted answers names also told)
        (accounted-more told) accounts are.each;
    streams = are.streams;
  }

pub un-true : (b : Bool) → (b ≡ true → ⊥) → b ≡ false
un-true true not = absurd (not refl)
un-true false not = refl

module _ (known : ℕ → List (List ℕ) → Bool → Answer → Type 0) (names : List ℕ → ℕ → Type 0)
    {V W : Type 0} (items : V → List CallAccount) (contents : W → Option (List ℕ))
    (failed : W → Bool) where
  -- behind what was read the calls were cut, of which no event tells
  pub are-served : {A B C J M N : Type 0} {book : Naming J} {route : Ghosts N} (came : List ℕ)
      (rest before : Option (List ℕ)) (granted : ℕ) (read_failed : Bool) (read ending : Ending)
      (sent : List SentItems) (told cuts : List Step)
      (reading reading_new : Reading J M book) (old new : Orders A B C J N book route)
      (calls : V) (device : W)
      → HasRead known names sent read came told reading old
      → HasEnded known names sent told cuts reading_new old new
      → (is_heard_out ending ≡ true → ending ≡ read)
      → (ending ≢ OutOfMemory → ending ≢ WriteFailed
      → ((code : ErrorCode) → ending ≢ ProtocolError code) → new.has_dropped ≡ false)
      → (read ≡ ReadFailed → read_failed ≡ true)
      → (IsOfInput read → old.has_stopped ≡ false → IsAtEnd rest)
      → (new.has_stopped ≡ true → is_heard_out ending ≡ false)
      → granted ≤ counted_told (events_of told)
      → (written :
      HasWritten contents failed before granted (put_orders new) (Some ending)
      (is_drained ending) device)
      → AreAccounts known names (CarriesWhatWasSent (is_heard_out ending) written.run)
      (cuts ++ told) (reported (cuts ++ told)) (items calls)
      → AreLeft (left_in written.run) (items calls)
      → ((code : ErrorCode) → ending ≡ ProtocolError code
      → (read ≡ ProtocolError code) ⊎ ((code ≡ FlowControlError) × WouldOverflow 0 written.run))
      → IsServed items contents failed known names came rest before read_failed ending calls device
  are-served came rest before granted read_failed read ending sent told cuts reading
      reading_new old new calls device has ended input undropped unread over halts within
      written accounts left blamed =
      let is : events_of (cuts ++ told) ≡ events_of told = silent-more cuts told ended.silent in
      let also : is_heard_out ending ≡ true → is_heard_out read ≡ true = λ out.
      subst (λ (e : Ending). is_heard_out e ≡ true) (input out) out in
      let closed = ended.ordered has.ordered in
      let of-input : IsOfInput ending → IsOfInput read = λ by.
      subst (λ (e : Ending). IsOfInput e) (input (input-out ending by)) by in
      let going : IsOfInput ending → old.has_stopped ≡ false = λ by.
      un-true old.has_stopped
      (λ stopped. true≢false (sym (input-out ending by) ∙ halts (ended.stops stopped))) in
      let whole : is_heard_out ending ≡ true → put_orders new ≡ orders_by (cuts ++ told)
      ++ ending_orders =
      λ out. calm-so ending _ out (λ spares sends calm.
      closed-whole (orders_by (cuts ++ told) ++ orders.InputEnded ∷ []) new closed
      (undropped spares sends calm)
      ∙ append_assoc (orders_by (cuts ++ told)) (orders.InputEnded ∷ []) (orders.Close ∷ [])) in
      record {
        told = cuts ++ told;
        put = put_orders new;
        heard = record {
          front = subst (λ (es : List InEvent). IsFront came es) (sym is) has.heard.front;
          whole = λ out.
              subst (λ (es : List InEvent). Events came es) (sym is) (has.heard.whole (also out));
        };
        rising = ended.reads.calls.rising;
        calm = λ out. calm-more cuts told ended.calm (has.calm (also out));
        justified = cuts-justified cuts told ended.silent has.justified;
        stopped = new.has_stopped;
        halted = halts;
        founded =
            cuts-founded names new.has_stopped cuts told ended.silent
            (all-founded names old.has_stopped new.has_stopped ended.stops told has.founded);
        closed = ended.reads.calls.closed;
        ended = record {
          cuts = cuts;
          heard = told;
          parts = refl;
          silent = ended.silent;
          going = has.going;
        };
        ordered = closed-put (orders_by (cuts ++ told) ++ orders.InputEnded ∷ []) new closed;
        whole = whole;
        resets = λ out id known closed-at finished shut.
            subst (λ (os : List Order). IsReset id os) (sym (whole out))
            (reset-left id (orders_by (cuts ++ told)) ending_orders (reset-ordered (cuts ++ told) id
            (calm-more cuts told ended.calm (has.calm (also out))) known closed-at finished shut));
        granted = granted;
        written = written;
        credit =
            told-within contents failed before granted (put_orders new) (Some ending) device
            (counted_told (events_of (cuts ++ told))) written
            (subst (λ (es : List InEvent). granted ≤ counted_told es) (sym is) within);
        rows = accounts;
        left = left;
        drained = λ is.
            let out = drained-out ending is in
            has-drained (cuts ++ told) (put_orders new) written.run
            (calm-more cuts told ended.calm (has.calm (also out))) ended.reads.calls.closed
            (draining-more cuts told (has.drained (sym (input out) ∙ is))) (whole out)
            (written.each (drained-spared ending is) (drained-sent ending is)) written.lawful
            (written.over (drained-spared ending is) (drained-sent ending is)).answered
            (written.sound (ap is_drained is));
        cause = record {
          over = λ by. over (of-input by) (going by);
          undrained = λ by. undrained-more cuts told ended.undrained (has.undrained (of-input by));
          drains = λ is.
              draining-more cuts told (has.drained (sym (input (drained-out ending is)) ∙ is));
          unsent = λ sent. written.marked (ap Some sent);
          unread = λ fails.
              unread (sym (input (ap (λ (e : Ending). is_heard_out e) fails)) ∙ fails);
          goaway = λ gone.
              let was =
              has.goaway (sym (input (ap (λ (e : Ending). is_heard_out e) gone)) ∙ gone) in
              (was.0, was.1, is ∙ was.2);
          failed = λ code fails.
              blamed-so (cuts ++ told) read code
              (λ c by. ended-more (ProtocolError c) cuts told (has.failed c by))
              (blamed code fails);
        };
      }

  -- the device by another name
  pub served-by : (came : List ℕ) (rest before : Option (List ℕ)) (read_failed : Bool)
      (end : Ending) (calls : V) (one other : W)
      → other ≡ one
      → IsServed items contents failed known names came rest before read_failed end calls one
      → IsServed items contents failed known names came rest before read_failed end calls other
  served-by came rest before read_failed end calls one other is served =
      subst (λ (device : W).
      IsServed items contents failed known names came rest before read_failed end calls
      device) (sym is) served

  none-accounts : (carries : ℕ → List OutItem → Type 0) (calls : V) → items calls ≡ []
      → AreAccounts known names carries [] [] (items calls)
  none-accounts carries calls is = record {
    each =
        subst (λ (accounts : List CallAccount). All (IsAccounted known names carries []) accounts)
        (sym is) (All-nil (IsAccounted known names carries []));
    streams =
        ap (λ (accounts : List CallAccount).
        map (λ (account : CallAccount). account.id) accounts) is;
  }

  -- no memory was there, and nothing was read
  pub none-served : (rest before : Option (List ℕ)) (granted : ℕ) (read_failed : Bool)
      (ending : Ending) (put : List Order) (calls : V) (device : W)
      → ending ≡ OutOfMemory
      → items calls ≡ [] → HasPut (orders.InputEnded ∷ []) put → granted ≤ 0
      → HasWritten contents failed before granted put (Some ending) (is_drained ending) device
      → IsServed items contents failed known names [] rest before read_failed ending calls device
  none-served rest before granted read_failed ending put calls device lacked none
      ordered within written =
      let not : is_heard_out ending ≡ true → ⊥ = λ out.
      true≢false (sym out ∙ ap (λ (e : Ending). is_heard_out e) lacked) in
      record {
        told = [];
        put = put;
        heard = record { front = λ all are. (all, refl); whole = λ out. absurd (not out) };
        rising = tt;
        calm = λ out. tt;
        justified = tt;
        stopped = false;
        halted = λ is. absurd (true≢false (sym is));
        founded = tt;
        closed = tt;
        ended = record { cuts = []; heard = []; parts = refl; silent = refl; going = tt };
        ordered = ordered;
        whole = λ out. absurd (not out);
        resets = λ out. absurd (not out);
        granted = granted;
        written = written;
        credit =
            told-within contents failed before granted put (Some ending) device 0 written within;
        rows = none-accounts (CarriesWhatWasSent (is_heard_out ending) written.run) calls none;
        left =
            subst (λ (accounts : List CallAccount). AreLeft (left_in written.run) accounts)
            (sym none) (All-nil (λ (account : CallAccount).
            Contains (left_in written.run) account.id → account.status ≡ None));
        drained = λ is. absurd (not (drained-out ending is));
        cause = record {
          over = λ by. absurd (not (input-out ending by));
          undrained = λ by. refl;
          drains = λ is. absurd (not (drained-out ending is));
          unread = λ is. absurd cc;
          unsent = λ sent. absurd cc;
          goaway = λ is. absurd cc;
          failed = λ code is. absurd cc;
        };
      }

  appends-none : (now : Option (List ℕ)) → Appends now now []
  appends-none None = tt
  appends-none (Some bytes) = sym (append-nil bytes)

  -- nothing was written either
  pub none-written : (device : W) (ending : Ending) → ending ≡ OutOfMemory
      → HasWritten contents failed (contents device) 0 (orders.Close ∷ []) (Some ending)
      (is_drained ending) device
  none-written device ending lacked = record {
    run = [];
    lawful = tt;
    credited = refl;
    some = record {
      front = [];
      rest = orders.Close ∷ [];
      ends = [];
      steps = [];
      orders_are = refl;
      run_is = refl;
      took = refl;
      answered = tt;
      ended = tt;
    };
    each = λ spared. absurd (spared (ap Some lacked));
    others = λ id unopened. ([], (_, [], (refl, refl), refl), inl refl);
    marked = λ sent. absurd cc;
    front = ([], ([], refl), appends-none (contents device));
    all = λ unmarked. appends-none (contents device);
    over = λ spared. absurd (spared (ap Some lacked));
    sound = λ is. refl;
  }

  -- the device is as it was
  pub unbegun : (rest : Option (List ℕ)) (read_failed : Bool) (ending : Ending)
      (calls : V) (old device : W)
      → ending ≡ OutOfMemory → device ≡ old → items calls ≡ []
      → IsServed items contents failed known names [] rest (contents old) read_failed
      ending calls device
  unbegun rest read_failed ending calls old device lacked same none =
      none-served rest (contents old) 0 read_failed ending (orders.Close ∷ []) calls
      device lacked none (record {
        front = [];
        begins = (orders.InputEnded ∷ [], refl);
        closed = refl;
      }) (omega arith)
      (subst (λ (d : W).
      HasWritten contents failed (contents d) 0 (orders.Close ∷ []) (Some ending)
      (is_drained ending) device) same (none-written device ending lacked))
