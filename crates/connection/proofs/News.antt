-- What the peer tells the side that writes goes on to it in its order, and is acknowledged so.
use Rattle.std.proofs.Common.{
  ◌≡◌,
  ◌∙◌,
  ◌⊎◌,
  inl,
  inr,
  ℕ,
  Bool,
  true,
  false,
  List,
  [],
  ◌∷◌,
  ◌++◌,
  Option,
  None,
  Some,
  ap,
  append-nil,
  filter,
  refl,
  sym,
  ◌+◌,
}
use Rattle.std.specs.Prelude.{◌==◌, if◌then◌else◌, length, not}
use Rattle.std.specs.List.{list_any}
use Rattle.std.proofs.lemmas.List.{append_assoc}
use Rattle.std.proofs.lemmas.List.Elements.{filter-append}
use Rattle.std.proofs.lemmas.Grind.{flat_map-append}
use mathlib.Core.List.{IsPrefix}
use Rattle.account.specs.Accounts.{Begins}
use Rattle.limits.specs.declared.TheConstants.{MAX_STREAMS}
use Rattle.callhead.specs.StatusFields.{refusal_of}
use Rattle.callhead.specs.declared.fault.HeadFault.{HeadFault}
use Rattle.connbook.specs.declared.answers.AdmitFault.TheVariants as refused
use Rattle.connbook.specs.declared.answers.Receipt.TheVariants.{Feed, Discard, CallWindow, Overrun}
use Rattle.writerloop.specs.OwnOrders.{own_order}
use Rattle.h2frame.specs.declared.error_code.ErrorCode.{ErrorCode}
use Rattle.h2frame.specs.declared.error_code.ErrorCode.TheVariants as error
use Rattle.h2frame.specs.declared.frame.Frame.{Frame}
use Rattle.lists.specs.declared.field.Field.{Field}
use Rattle.outwriter.specs.declared.control.WriterOrder.TheVariants.{
  Settings,
  Ping,
  Probe,
  Window,
  Open,
  Refuse,
  Reset,
  Goaway,
  InputEnded,
  Close,
}
use Rattle.outwriter.specs.Frames.{is_last}
use Rattle.outwriter.specs.RunState.{IsAnswered}
use Rattle.outwriter.specs.Runs.{IsLawful, due, due_by, has_begun, told_by, without_goaway}
use Rattle.outwriter.specs.Runs.{told as duties_told}
use Rattle.outwriter.specs.Steps.{Order, Taken, Granted, Written, Returned, frames_of}
use Rattle.outwriter.specs.Steps.{Step as RunStep}
use Rattle.reasons.specs.declared.Reason.TheVariants as reason
use Rattle.session.specs.declared.event.PeerControl.{PeerControl}
use Rattle.session.specs.declared.event.PeerControl.TheVariants as controls
use Rattle.session.specs.declared.event.InEvent.{InEvent}
use Rattle.session.specs.declared.event.InEvent.TheVariants as events
use Rattle.readerloop.specs.Orders.{
  begun,
  came,
  came_loose,
  is_fed,
  last_stream,
  named,
  named_with,
  news_of,
  opened,
  orders_at,
  orders_by,
  refused_head,
  without_head,
}
use Rattle.readerloop.specs.Steps.{
  Fate,
  Plain,
  Admitted,
  Unserved,
  NoWorker,
  Stopped,
  Unknown,
  TurnedAway,
  Received,
  Missed,
  Lacking,
  Step,
  Told,
  CutOff,
  Drains,
  Lacks,
  events_of,
  is_draining,
}
use Rattle.writerloop.specs.Orders.{
  AreLast,
  HasParted,
  HasTaken,
  IsAmong,
  IsAnswer,
  Obeys,
  ResetsCall,
  Warns,
}
use Rattle.connection.specs.Heard.{HasPut}
use Rattle.connection.specs.News.{
  acknowledgements,
  answer_to,
  answers_to,
  is_news,
  is_probe,
  news_at,
  news_in,
  news_told,
  taken_by,
}

news-append : (first more : List Order) → news_in (first ++ more) ≡ news_in first ++ news_in more
news-append first more = filter-append is_news first more

-- ---- the order of a step

last-news : (id : ℕ) (draining : Bool) (before : List ℕ)
    → news_in (last_stream id draining before) ≡ []
last-news id true before = refl
last-news id false before = by ((1 + length before) == MAX_STREAMS)
  where
    by : (b : Bool) → news_in (if b then Goaway id (reason.Code error.NoError) ∷ [] else []) ≡ []
    by true = refl
    by false = refl

opened-news : (last id : ℕ) (fate : Fate) → news_in (opened last id fate) ≡ []
opened-news last id (TurnedAway refused.TooMany) = refl
opened-news last id (TurnedAway refused.Draining) = refl
opened-news last id (TurnedAway refused.NotNew) = refl
opened-news last id (TurnedAway refused.OutOfMemory) = refl
opened-news last id Admitted = refl
opened-news last id Unknown = refl
opened-news last id Lacking = refl
opened-news last id (Unserved NoWorker) = refl
opened-news last id (Unserved Stopped) = refl
opened-news last id Plain = refl
opened-news last id (Received receipt) = refl
opened-news last id Missed = refl

without-news : (id : ℕ) (found : Option (List Field)) → news_in (without_head id found ∷ []) ≡ []
without-news id None = refl
without-news id (Some fields) = refl

refused-news : (last id : ℕ) (fault : HeadFault) (fate : Fate)
    → news_in (refused_head last id fault fate) ≡ []
refused-news last id fault Lacking = refl
refused-news last id fault Plain = without-news id (refusal_of fault)
refused-news last id fault Admitted = without-news id (refusal_of fault)
refused-news last id fault (Unserved why) = without-news id (refusal_of fault)
refused-news last id fault Unknown = without-news id (refusal_of fault)
refused-news last id fault (TurnedAway why) = without-news id (refusal_of fault)
refused-news last id fault (Received receipt) = without-news id (refusal_of fault)
refused-news last id fault Missed = without-news id (refusal_of fault)

came-news : (last id : ℕ) (fate : Fate) → news_in (came last id fate) ≡ []
came-news last id (Received CallWindow) = refl
came-news last id (Received Overrun) = refl
came-news last id (Received Discard) = refl
came-news last id (Received Feed) = refl
came-news last id Missed = refl
came-news last id Plain = refl
came-news last id Admitted = refl
came-news last id (Unserved why) = refl
came-news last id Unknown = refl
came-news last id (TurnedAway fault) = refl
came-news last id Lacking = refl

loose-news : (last : ℕ) (fate : Fate) → news_in (came_loose last fate) ≡ []
loose-news last (Received Overrun) = refl
loose-news last (Received CallWindow) = refl
loose-news last (Received Discard) = refl
loose-news last (Received Feed) = refl
loose-news last Missed = refl
loose-news last Plain = refl
loose-news last Admitted = refl
loose-news last (Unserved why) = refl
loose-news last Unknown = refl
loose-news last (TurnedAway fault) = refl
loose-news last Lacking = refl

control-news : (control : PeerControl) → news_in (news_of control ∷ []) ≡ news_of control ∷ []
control-news (controls.Settings settings) = refl
control-news (controls.Ping bytes) = refl
control-news (controls.Window id increment) = refl

cut-news : (id : ℕ) (code : ErrorCode) (fed : Bool)
    → news_in (if fed then Reset id code true ∷ [] else []) ≡ []
cut-news id code true = refl
cut-news id code false = refl

both-none : (first more : List Order) → news_in first ≡ [] → news_in more ≡ []
    → news_in (first ++ more) ≡ []
both-none first more one other =
    news-append first more ∙ (ap (λ (os : List Order). os ++ news_in more) one ∙ other)

event-news : (before : List Step) (event : InEvent) (fate : Fate)
    → news_in (orders_at before (Told event fate)) ≡ news_at event
event-news before (events.Open id head) fate =
    let last = named_with id (is_draining before) (named before) in
    both-none (last_stream id (is_draining before) (begun before)) (opened last id fate)
    (last-news id (is_draining before) (begun before)) (opened-news last id fate)
event-news before (events.BadHead id fault) fate =
    let last = named_with id (is_draining before) (named before) in
    both-none (last_stream id (is_draining before) (begun before)) (refused_head last id fault fate)
    (last-news id (is_draining before) (begun before)) (refused-news last id fault fate)
event-news before (events.Data id piece counted) fate = came-news (named before) id fate
event-news before (events.Loose counted) fate = loose-news (named before) fate
event-news before (events.Reset id code) fate = refl
event-news before (events.StreamError id code) fate = refl
event-news before (events.Control control) fate = control-news control
event-news before (events.Fatal cause) fate = refl
event-news before (events.End id) fate = refl
event-news before events.PeerGoaway fate = refl

-- ---- of all steps

pub orders-news : (told : List Step) → news_in (orders_by told) ≡ news_told (events_of told)
orders-news [] = refl
orders-news (Told event fate ∷ before) =
    news-append (orders_by before) (orders_at before (Told event fate))
    ∙ (ap (λ (os : List Order). os ++ news_in (orders_at before (Told event fate)))
    (orders-news before)
    ∙ (ap (λ (os : List Order). news_told (events_of before) ++ os)
    (event-news before event fate ∙ sym (append-nil (news_at event)))
    ∙ sym (flat_map-append news_at (events_of before) (event ∷ []))))
orders-news (Drains ∷ before) =
    news-append (orders_by before) (orders_at before Drains)
    ∙ (append-nil (news_in (orders_by before)) ∙ orders-news before)
orders-news (Lacks ∷ before) =
    news-append (orders_by before) (orders_at before Lacks)
    ∙ (append-nil (news_in (orders_by before)) ∙ orders-news before)
orders-news (CutOff id ∷ before) =
    news-append (orders_by before) (orders_at before (CutOff id))
    ∙ (ap (λ (os : List Order). news_in (orders_by before) ++ os)
    (cut-news id error.Cancel (is_fed id before))
    ∙ (append-nil (news_in (orders_by before)) ∙ orders-news before))

-- ---- of a run

taken-more : (before : List RunStep) (order : Order) (told : List Order)
    → news_in (taken_by before) ≡ told
    → news_in (taken_by before ++ order ∷ []) ≡ told ++ news_in (order ∷ [])
taken-more before order told is =
    news-append (taken_by before) (order ∷ [])
    ∙ ap (λ (os : List Order). os ++ news_in (order ∷ [])) is

taken-silent : (before : List RunStep) (order : Order) (told : List Order)
    → news_in (order ∷ []) ≡ [] → news_in (taken_by before) ≡ told
    → news_in (taken_by before ++ order ∷ []) ≡ told
taken-silent before order told none is =
    taken-more before order told is ∙ (ap (λ (os : List Order). told ++ os) none ∙ append-nil told)

answer-silent : (last id : ℕ) → news_in (own_order last id ∷ []) ≡ []
answer-silent last id = by (id == 0)
  where
    by : (b : Bool)
        → news_in
        ((if b then Goaway last reason.Window else Reset id error.FlowControlError true) ∷ [])
        ≡ []
    by true = refl
    by false = refl

own-silent : (order : Order) (before : List RunStep) (orders : List Order)
    → IsAnswer order before ⊎ (ResetsCall order orders ⊎ Warns order before)
    → news_in (order ∷ []) ≡ []
own-silent order before orders (inr (inl left)) = ap (λ (o : Order). news_in (o ∷ [])) left.1
own-silent order before orders (inr (inr (inl warns))) =
    ap (λ (o : Order). news_in (o ∷ [])) warns.0
own-silent order before orders (inr (inr (inr warns))) =
    ap (λ (o : Order). news_in (o ∷ [])) warns.0
own-silent order [] orders (inl answer) = absurd answer
own-silent order (Taken blamed ∷ before) orders (inl answer) =
    ap (λ (o : Order). news_in (o ∷ [])) answer.2 ∙ answer-silent answer.0 answer.1
own-silent order (Granted id n ∷ before) orders (inl answer) = absurd answer
own-silent order (Written frame ∷ before) orders (inl answer) = absurd answer
own-silent order (Returned id items ∷ before) orders (inl answer) = absurd answer

took-news : (orders : List Order) (steps : List RunStep) → HasTaken orders steps
    → news_in (taken_by steps) ≡ news_in orders
took-news orders [] took = sym (ap news_in took)
took-news orders (Taken order ∷ before) (inl took) =
    taken-more before order (news_in took.0) (took-news took.0 before took.2)
    ∙ sym (ap news_in took.1 ∙ news-append took.0 (order ∷ []))
took-news orders (Taken order ∷ before) (inr took) =
    taken-silent before order (news_in orders) (own-silent order before orders took.0)
    (took-news orders before took.1)
took-news orders (Granted id n ∷ before) took = took-news orders before took
took-news orders (Written frame ∷ before) took = took-news orders before took
took-news orders (Returned id items ∷ before) took = took-news orders before took

last-silent : (order : Order) (rest : List Order)
    → ((last : ℕ) × (order ≡ Goaway last reason.Memory)) ⊎ ((order ≡ Close) × IsAmong order rest)
    → news_in (order ∷ []) ≡ []
last-silent order rest (inl goaway) = ap (λ (o : Order). news_in (o ∷ [])) goaway.1
last-silent order rest (inr close) = ap (λ (o : Order). news_in (o ∷ [])) close.0

ends-news : (rest : List Order) (ends steps : List RunStep) → AreLast rest ends
    → news_in (taken_by (ends ++ steps)) ≡ news_in (taken_by steps)
ends-news rest [] steps last = refl
ends-news rest (Taken order ∷ before) steps last =
    taken-silent (before ++ steps) order (news_in (taken_by steps)) (last-silent order rest last.0)
    (ends-news rest before steps last.1)
ends-news rest (Granted id n ∷ before) steps last = ends-news rest before steps last
ends-news rest (Written frame ∷ before) steps last = ends-news rest before steps last
ends-news rest (Returned id items ∷ before) steps last = ends-news rest before steps last

parted-news : (put : List Order) (run : List RunStep) (parted : HasParted put run)
    → news_in (taken_by run) ≡ news_in parted.front
parted-news put run parted =
    ap (λ (steps : List RunStep). news_in (taken_by steps)) parted.run_is
    ∙ (ends-news parted.rest parted.ends parted.steps parted.ended
    ∙ took-news parted.front parted.steps parted.took)

-- what was put tells a beginning of the news
put-news : (told : List Step) (put : List Order) → HasPut (orders_by told ++ InputEnded ∷ []) put
    → IsPrefix (news_in put) (news_told (events_of told))
put-news told put has = (
  news_in has.begins.0,
  ap (λ (os : List Order). news_in os ++ news_in has.begins.0) has.closed
      ∙ (ap (λ (os : List Order). os ++ news_in has.begins.0)
      (news-append has.front (Close ∷ []) ∙ append-nil (news_in has.front))
      ∙ (sym (news-append has.front has.begins.0)
      ∙ (ap news_in has.begins.1
      ∙ (news-append (orders_by told) (InputEnded ∷ [])
      ∙ (append-nil (news_in (orders_by told)) ∙ orders-news told))))),
)

pub some-news : (told : List Step) (put : List Order) (run : List RunStep)
    → HasPut (orders_by told ++ InputEnded ∷ []) put → Obeys true put run
    → IsPrefix (news_in (taken_by run)) (news_told (events_of told))
some-news told put run has parted =
    let all = put-news told put has in (
      news_in parted.rest ++ all.0,
      ap (λ (os : List Order). os ++ (news_in parted.rest ++ all.0)) (parted-news put run parted)
          ∙ (sym (append_assoc (news_in parted.front) (news_in parted.rest) all.0)
          ∙ (ap (λ (os : List Order). os ++ all.0)
          (sym (news-append parted.front parted.rest) ∙ sym (ap news_in parted.orders_are))
          ∙ all.1)),
    )

pub all-news : (told : List Step) (put : List Order) (run : List RunStep)
    → put ≡ orders_by told ++ InputEnded ∷ Close ∷ [] → Obeys false put run
    → news_in (taken_by run) ≡ news_told (events_of told)
all-news told put run is obeys =
    took-news put run obeys.0
    ∙ (ap news_in is
    ∙ (news-append (orders_by told) (InputEnded ∷ Close ∷ [])
    ∙ (append-nil (news_in (orders_by told)) ∙ orders-news told)))

-- ---- acknowledgements

acks-append : (first more : List Frame)
    → acknowledgements (first ++ more) ≡ acknowledgements first ++ acknowledgements more
acks-append first more =
    ap (λ (fs : List Frame). filter (λ frame. not (is_probe frame)) fs) (filter-append _ first more)
    ∙ filter-append _ (without_goaway first) (without_goaway more)

acks-begin : (front all : List Frame) → Begins (without_goaway front) (without_goaway all)
    → Begins (acknowledgements front) (acknowledgements all)
acks-begin front all (rest, is) = (
  filter (λ frame. not (is_probe frame)) rest,
  ap (λ (fs : List Frame). filter (λ frame. not (is_probe frame)) fs) is
      ∙ filter-append _ (without_goaway front) rest,
)

one-due : (order : Order) → acknowledgements (due_by order) ≡ answers_to (news_in (order ∷ []))
one-due (Settings settings) = refl
one-due (Ping bytes) = refl
one-due (Probe bytes) = refl
one-due (Window id increment) = refl
one-due (Open id sender) = refl
one-due (Refuse id fields) = refl
one-due (Reset id code written) = refl
one-due (Goaway last cause) = refl
one-due InputEnded = refl
one-due Close = refl

answers-append : (first more : List Order)
    → answers_to (first ++ more) ≡ answers_to first ++ answers_to more
answers-append first more = flat_map-append answer_to first more

due-answers : (run : List RunStep)
    → acknowledgements (due run) ≡ answers_to (news_in (taken_by run))
due-answers [] = refl
due-answers (Taken order ∷ before) =
    acks-append (due before) (due_by order)
    ∙ (ap (λ (fs : List Frame). fs ++ acknowledgements (due_by order)) (due-answers before)
    ∙ (ap (λ (fs : List Frame). answers_to (news_in (taken_by before)) ++ fs) (one-due order)
    ∙ (sym (answers-append (news_in (taken_by before)) (news_in (order ∷ [])))
    ∙ sym (ap answers_to (news-append (taken_by before) (order ∷ []))))))
due-answers (Granted id n ∷ before) = due-answers before
due-answers (Written frame ∷ before) = due-answers before
due-answers (Returned id items ∷ before) = due-answers before

told-due : (run : List RunStep) → IsLawful run
    → Begins (acknowledgements (duties_told run)) (acknowledgements (due run))
told-due [] lawful = ([], refl)
told-due (Taken order ∷ before) lawful =
    let rest = told-due before lawful in (
      rest.0 ++ acknowledgements (due_by order),
      acks-append (due before) (due_by order)
          ∙ (ap (λ (fs : List Frame). fs ++ acknowledgements (due_by order)) rest.1
          ∙ append_assoc (acknowledgements (duties_told before)) rest.0
          (acknowledgements (due_by order))),
    )
told-due (Granted id n ∷ before) lawful = told-due before lawful
told-due (Returned id items ∷ before) lawful = told-due before lawful
told-due (Written frame ∷ before) lawful =
    acks-begin (duties_told before ++ told_by (has_begun (frames_of before)) frame)
    (due before) lawful.1.answers

pub some-answers : (told : List Step) (put : List Order) (run : List RunStep)
    → HasPut (orders_by told ++ InputEnded ∷ []) put → Obeys true put run → IsLawful run
    → Begins (acknowledgements (duties_told run)) (answers_to (news_told (events_of told)))
some-answers told put run has obeys lawful =
    let news = some-news told put run has obeys in
    let written = told-due run lawful in (
      written.0 ++ answers_to news.0,
      ap answers_to (sym news.1)
          ∙ (answers-append (news_in (taken_by run)) news.0
          ∙ (ap (λ (fs : List Frame). fs ++ answers_to news.0) (sym (due-answers run) ∙ written.1)
          ∙ append_assoc (acknowledgements (duties_told run)) written.0 (answers_to news.0))),
    )

pub all-answers : (told : List Step) (put : List Order) (run : List RunStep)
    → put ≡ orders_by told ++ InputEnded ∷ Close ∷ [] → Obeys false put run → IsAnswered run
    → list_any is_last (frames_of run) ≡ false
    → acknowledgements (duties_told run) ≡ answers_to (news_told (events_of told))
all-answers told put run is obeys (inl over) going = absurd cc
all-answers told put run is obeys (inr answered) going =
    ap acknowledgements answered.0
    ∙ (due-answers run ∙ ap answers_to (all-news told put run is obeys))
