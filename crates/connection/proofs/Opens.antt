-- Which streams the orders of a step open: that of the call that it admits, and no other.
use Rattle.std.proofs.Common.{
  ◌≡◌,
  ◌∙◌,
  ℕ,
  Bool,
  true,
  false,
  List,
  [],
  ◌∷◌,
  ◌++◌,
  Option,
  None,
  Some,
  ap,
  refl,
  subst,
  sym,
}
use Rattle.std.specs.Prelude.{if◌then◌else◌, IfSome, IsSomeAnd}
use Rattle.callhead.specs.declared.head.CallHead.{CallHead}
use Rattle.callhead.specs.declared.fault.HeadFault.{HeadFault}
use Rattle.callhead.specs.StatusFields.{refusal_of}
use Rattle.callparts.specs.declared.order.OpeningCall.{OpeningCall}
use Rattle.callparts.specs.declared.register.Naming.{Ghosts as Naming}
use Rattle.callparts.specs.declared.report.Ending.{Ending}
use Rattle.callparts.specs.declared.work.Request.{Request}
use Rattle.connbook.specs.declared.answers.AdmitFault.TheVariants as refused
use Rattle.connbook.specs.declared.answers.Receipt.TheVariants.{Feed, Discard, CallWindow, Overrun}
use Rattle.lists.specs.declared.field.Field.{Field}
use Rattle.outwriter.specs.declared.control.WriterOrder.{WriterOrder}
use Rattle.outwriter.specs.declared.control.WriterOrder.TheVariants.{
  Settings,
  Ping,
  Probe,
  Window,
  Open,
  Refuse,
  Reset,
  Goaway,
  InputEnded,
  Close,
}
use Rattle.outwriter.specs.Steps.{Order}
use Rattle.session.specs.declared.event.PeerControl.{PeerControl as News}
use Rattle.session.specs.declared.event.PeerControl.TheVariants as news
use Rattle.session.specs.declared.event.InEvent.TheVariants as events
use Rattle.readerloop.specs.declared.decision.Decision.{Decision}
use Rattle.readerloop.specs.Orders.{
  begun,
  came,
  came_loose,
  is_fed,
  last_stream,
  named,
  named_with,
  news_of,
  opened,
  orders_at,
  refused_head,
  without_head,
}
use Rattle.readerloop.specs.Readings.{
  Opens,
  goaway_in,
  order_in,
  orders_in,
  refused_by,
  unless_ended,
}
use Rattle.readerloop.specs.Steps.{
  NoWorker,
  Stopped,
  Fate,
  Plain,
  Admitted,
  Unserved,
  Unknown,
  TurnedAway,
  Received,
  Missed,
  Lacking,
  Step,
  Told,
  CutOff,
  Drains,
  Lacks,
  admitted_by,
  is_draining,
  once,
}
use Rattle.connection.specs.Puts.{IsOwn}

-- the streams that orders open
abbrev pub opens_of : List Order → List ℕ
opens_of [] = []
opens_of (Open id opened ∷ orders) = id ∷ opens_of orders
opens_of (Settings settings ∷ orders) = opens_of orders
opens_of (Ping bytes ∷ orders) = opens_of orders
opens_of (Probe bytes ∷ orders) = opens_of orders
opens_of (Window id n ∷ orders) = opens_of orders
opens_of (Refuse id fields ∷ orders) = opens_of orders
opens_of (Reset id code written ∷ orders) = opens_of orders
opens_of (Goaway last cause ∷ orders) = opens_of orders
opens_of (InputEnded ∷ orders) = opens_of orders
opens_of (Close ∷ orders) = opens_of orders

-- ---- the orders of a step

behind-if : (here : Bool) (orders : List Order) (first : Order) → opens_of (first ∷ []) ≡ []
    → opens_of ((if here then first ∷ [] else []) ++ orders) ≡ opens_of orders
behind-if true orders (Open other opened) none = absurd cc
behind-if true orders (Settings settings) none = refl
behind-if true orders (Ping bytes) none = refl
behind-if true orders (Probe bytes) none = refl
behind-if true orders (Window other n) none = refl
behind-if true orders (Refuse other fields) none = refl
behind-if true orders (Reset other code written) none = refl
behind-if true orders (Goaway last cause) none = refl
behind-if true orders InputEnded none = refl
behind-if true orders Close none = refl
behind-if false orders first none = refl

behind-last : (id : ℕ) (draining : Bool) (ids : List ℕ) (orders : List Order)
    → opens_of (last_stream id draining ids ++ orders) ≡ opens_of orders
behind-last id true ids orders = refl
behind-last id false ids orders = behind-if _ orders _ refl

opened-opens : (last id : ℕ) (fate : Fate) (found : Option ℕ) → (fate ≡ Admitted → found ≡ Some id)
    → ((fate ≡ Admitted → ⊥) → found ≡ None) → opens_of (opened last id fate) ≡ once found
opened-opens last id Admitted found is not = ap (λ (o : Option ℕ). once o) (sym (is refl))
opened-opens last id Plain found is not = ap (λ (o : Option ℕ). once o) (sym (not (λ e. cc)))
opened-opens last id Unknown found is not = ap (λ (o : Option ℕ). once o) (sym (not (λ e. cc)))
opened-opens last id (TurnedAway refused.TooMany) found is not =
    ap (λ (o : Option ℕ). once o) (sym (not (λ e. cc)))
opened-opens last id (TurnedAway refused.Draining) found is not =
    ap (λ (o : Option ℕ). once o) (sym (not (λ e. cc)))
opened-opens last id (TurnedAway refused.NotNew) found is not =
    ap (λ (o : Option ℕ). once o) (sym (not (λ e. cc)))
opened-opens last id (TurnedAway refused.OutOfMemory) found is not =
    ap (λ (o : Option ℕ). once o) (sym (not (λ e. cc)))
opened-opens last id Lacking found is not = ap (λ (o : Option ℕ). once o) (sym (not (λ e. cc)))
opened-opens last id (Unserved NoWorker) found is not =
    ap (λ (o : Option ℕ). once o) (sym (not (λ e. cc)))
opened-opens last id (Unserved Stopped) found is not =
    ap (λ (o : Option ℕ). once o) (sym (not (λ e. cc)))
opened-opens last id (Received receipt) found is not =
    ap (λ (o : Option ℕ). once o) (sym (not (λ e. cc)))
opened-opens last id Missed found is not = ap (λ (o : Option ℕ). once o) (sym (not (λ e. cc)))

head-opens : (id : ℕ) (found : Option (List Field)) → opens_of (without_head id found ∷ []) ≡ []
head-opens id None = refl
head-opens id (Some fields) = refl

refused-opens : (last id : ℕ) (fault : HeadFault) (fate : Fate)
    → opens_of (refused_head last id fault fate) ≡ []
refused-opens last id fault Lacking = refl
refused-opens last id fault Plain = head-opens id (refusal_of fault)
refused-opens last id fault Admitted = head-opens id (refusal_of fault)
refused-opens last id fault (Unserved why) = head-opens id (refusal_of fault)
refused-opens last id fault Unknown = head-opens id (refusal_of fault)
refused-opens last id fault (TurnedAway one) = head-opens id (refusal_of fault)
refused-opens last id fault (Received receipt) = head-opens id (refusal_of fault)
refused-opens last id fault Missed = head-opens id (refusal_of fault)

came-opens : (last id : ℕ) (fate : Fate) → opens_of (came last id fate) ≡ []
came-opens last id (Received Feed) = refl
came-opens last id (Received Discard) = refl
came-opens last id (Received CallWindow) = refl
came-opens last id (Received Overrun) = refl
came-opens last id Missed = refl
came-opens last id Plain = refl
came-opens last id Admitted = refl
came-opens last id (Unserved why) = refl
came-opens last id Unknown = refl
came-opens last id (TurnedAway fault) = refl
came-opens last id Lacking = refl

loose-opens : (last : ℕ) (fate : Fate) → opens_of (came_loose last fate) ≡ []
loose-opens last (Received Feed) = refl
loose-opens last (Received Discard) = refl
loose-opens last (Received CallWindow) = refl
loose-opens last (Received Overrun) = refl
loose-opens last Missed = refl
loose-opens last Plain = refl
loose-opens last Admitted = refl
loose-opens last (Unserved why) = refl
loose-opens last Unknown = refl
loose-opens last (TurnedAway fault) = refl
loose-opens last Lacking = refl

news-opens-none : (told : News) → opens_of (news_of told ∷ []) ≡ []
news-opens-none (news.Settings settings) = refl
news-opens-none (news.Ping bytes) = refl
news-opens-none (news.Window id n) = refl

cut-opens : (id : ℕ) (feeding : Bool) (order : Order) → opens_of (order ∷ []) ≡ []
    → opens_of (if feeding then order ∷ [] else []) ≡ []
cut-opens id true order none = none
cut-opens id false order none = refl

is-admitted : (id : ℕ) (head : CallHead) (fate : Fate)
    → (fate ≡ Admitted → admitted_by (Told (events.Open id head) fate) ≡ Some id)
is-admitted id head fate is =
    subst (λ (f : Fate). admitted_by (Told (events.Open id head) f) ≡ Some id) (sym is) refl

not-admitted : (id : ℕ) (head : CallHead) (fate : Fate) → (fate ≡ Admitted → ⊥)
    → admitted_by (Told (events.Open id head) fate) ≡ None
not-admitted id head Admitted not = absurd (not refl)
not-admitted id head Plain not = refl
not-admitted id head (Unserved why) not = refl
not-admitted id head Unknown not = refl
not-admitted id head (TurnedAway fault) not = refl
not-admitted id head (Received receipt) not = refl
not-admitted id head Missed not = refl
not-admitted id head Lacking not = refl

pub opens-at : (told : List Step) (step : Step)
    → opens_of (orders_at told step) ≡ once (admitted_by step)
opens-at told (Told (events.Open id head) fate) =
    behind-last id (is_draining told) (begun told)
    (opened (named_with id (is_draining told) (named told)) id fate)
    ∙ opened-opens (named_with id (is_draining told) (named told)) id fate
    (admitted_by (Told (events.Open id head) fate)) (is-admitted id head fate)
    (not-admitted id head fate)
opens-at told (Told (events.BadHead id fault) fate) =
    behind-last id (is_draining told) (begun told)
    (refused_head (named_with id (is_draining told) (named told)) id fault fate)
    ∙ refused-opens (named_with id (is_draining told) (named told)) id fault fate
opens-at told (Told (events.Data id piece counted) fate) = came-opens (named told) id fate
opens-at told (Told (events.Loose counted) fate) = loose-opens (named told) fate
opens-at told (Told (events.End id) fate) = refl
opens-at told (Told (events.Reset id code) fate) = refl
opens-at told (Told (events.StreamError id code) fate) = refl
opens-at told (Told (events.Control control) fate) = news-opens-none control
opens-at told (Told events.PeerGoaway fate) = refl
opens-at told (Told (events.Fatal cause) fate) = refl
opens-at told Drains = refl
opens-at told Lacks = refl
opens-at told (CutOff id) = cut-opens id (is_fed id told) _ refl

-- ---- what was decided

-- of a call that isn't for the lock to admit
pub admits-none : (id : ℕ) (head : CallHead) (draining : Bool) (end : Option Ending)
    → admitted_by (Told (events.Open id head) (unless_ended end (refused_by draining))) ≡ None
admits-none id head true None = refl
admits-none id head false None = refl
admits-none id head draining (Some ending) = refl

behind-goaway : (goaway : Option ℕ) (orders : List Order)
    → opens_of (goaway_in goaway ++ orders) ≡ opens_of orders
behind-goaway None orders = refl
behind-goaway (Some last) orders = refl

module _ {J : Type 0} {book : Naming J} where
  plain-one : (order : Option (WriterOrder (OpeningCall J book))) → opens_of (order_in order) ≡ []
      → IfSome order IsOwn
  plain-one None none = tt
  plain-one (Some (Open id opening)) none = absurd cc
  plain-one (Some (Settings settings)) none = tt
  plain-one (Some (Ping bytes)) none = tt
  plain-one (Some (Probe bytes)) none = tt
  plain-one (Some (Window id n)) none = tt
  plain-one (Some (Refuse id fields)) none = tt
  plain-one (Some (Reset id code written)) none = tt
  plain-one (Some (Goaway last cause)) none = tt
  plain-one (Some InputEnded) none = tt
  plain-one (Some Close) none = tt

  -- a step that admits no call opens none
  pub plain-own : (told : List Step) (step : Step) (decided : Decision J book)
      → admitted_by step ≡ None → orders_in decided ≡ orders_at told step
      → IfSome decided.order IsOwn
  plain-own told step decided none is =
      plain-one decided.order
      (sym (behind-goaway decided.goaway (order_in decided.order))
      ∙ (ap (λ (orders : List Order). opens_of orders) is
      ∙ (opens-at told step ∙ ap (λ (found : Option ℕ). once found) none)))

  opens-own : (request : Request) (order : WriterOrder (OpeningCall J book))
      → Opens request order → IsOwn order
  opens-own request (Open id opening) opens =
      subst (λ (found : Option Request). IsSomeAnd found (λ one. one.id ≡ id))
      (sym opens.1) (sym opens.0)
  opens-own request (Settings settings) opens = absurd opens
  opens-own request (Ping bytes) opens = absurd opens
  opens-own request (Probe bytes) opens = absurd opens
  opens-own request (Window id n) opens = absurd opens
  opens-own request (Refuse id fields) opens = absurd opens
  opens-own request (Reset id code written) opens = absurd opens
  opens-own request (Goaway last cause) opens = absurd opens
  opens-own request InputEnded opens = absurd opens
  opens-own request Close opens = absurd opens

  -- the order of a call that begins
  pub begun-own : (request : Request) (order : Option (WriterOrder (OpeningCall J book)))
      → IsSomeAnd order (Opens request) → IfSome order IsOwn
  begun-own request None opens = tt
  begun-own request (Some order) opens = opens-own request order opens
