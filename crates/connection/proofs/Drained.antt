-- Behind a drain the last GOAWAY that is ordered names the greatest stream whose call was admitted,
-- and so does the last that is written.
use Rattle.std.proofs.Common.{
  ◌≡◌,
  ◌∙◌,
  ◌⊎◌,
  inl,
  inr,
  ℕ,
  ◌==◌,
  if◌then◌else◌,
  Bool,
  true,
  false,
  true≢false,
  List,
  [],
  ◌∷◌,
  ◌++◌,
  Option,
  None,
  Some,
  ap,
  append-nil,
  refl,
  sym,
}
use Rattle.std.specs.Option.{is_some, option_or}
use Rattle.callhead.specs.declared.fault.HeadFault.{HeadFault}
use Rattle.callhead.specs.StatusFields.{refusal_of}
use Rattle.connbook.specs.declared.answers.AdmitFault.TheVariants as refused
use Rattle.connbook.specs.declared.answers.Receipt.TheVariants.{Feed, Discard, CallWindow, Overrun}
use Rattle.writerloop.specs.OwnOrders.{own_order}
use Rattle.h2frame.specs.declared.error_code.ErrorCode.{ErrorCode}
use Rattle.h2frame.specs.declared.error_code.ErrorCode.TheVariants.{
  NoError,
  FlowControlError,
  Cancel,
}
use Rattle.h2frame.specs.declared.frame.Frame.{Frame}
use Rattle.lists.specs.declared.field.Field.{Field}
use Rattle.outwriter.specs.declared.control.WriterOrder.TheVariants.{
  Goaway,
  Reset,
  InputEnded,
  Close,
}
use Rattle.outwriter.specs.Drains.{HasDrained, fails, goaway_by, has_failed, ordered_goaway}
use Rattle.outwriter.specs.Frames.{goaway_frame}
use Rattle.outwriter.specs.RunState.{IsAnswered}
use Rattle.outwriter.specs.Runs.{IsLawful}
use Rattle.outwriter.specs.Steps.{Order, Taken, Granted, Written, Returned}
use Rattle.outwriter.specs.Steps.{Step as RunStep}
use Rattle.outwriter.proofs.Drained.{last-is-ordered, none-is-last}
use Rattle.outwriter.proofs.Leads.{either-false}
use Rattle.reasons.specs.declared.Reason.TheVariants as reason
use Rattle.session.specs.declared.event.PeerControl.{PeerControl as News}
use Rattle.session.specs.declared.event.PeerControl.TheVariants as news
use Rattle.session.specs.declared.event.InEvent.{InEvent}
use Rattle.session.specs.declared.event.InEvent.TheVariants as events
use Rattle.readerloop.specs.Orders.{
  begun,
  came,
  came_loose,
  ends_at,
  ends_by,
  greatest,
  is_fed,
  last_stream,
  named,
  named_with,
  news_of,
  opened,
  orders_at,
  orders_by,
  refused_head,
  without_head,
}
use Rattle.readerloop.specs.Reports.{AreCalm}
use Rattle.readerloop.specs.Steps.{
  AdmitsNoMore,
  NoWorker,
  Stopped,
  Fate,
  Plain,
  Admitted,
  Unserved,
  Unknown,
  TurnedAway,
  Received,
  Missed,
  Lacking,
  Step,
  Told,
  CutOff,
  Drains,
  Lacks,
  is_draining,
  reported,
  reported_by,
}
use Rattle.writerloop.specs.Orders.{HasTaken, IsAnswer, Obeys, ResetsCall, Warns}

-- that of the last Goaway among orders, the earliest of which is first
abbrev goaway_in : List Order → Option Frame
goaway_in [] = None
goaway_in (order ∷ orders) = option_or (goaway_in orders) (goaway_by order)

or-none : (o : Option Frame) → option_or o None ≡ o
or-none None = refl
or-none (Some frame) = refl

or-assoc : (a b c : Option Frame) → option_or a (option_or b c) ≡ option_or (option_or a b) c
or-assoc None b c = refl
or-assoc (Some frame) b c = refl

goaway-append : (first more : List Order)
    → goaway_in (first ++ more) ≡ option_or (goaway_in more) (goaway_in first)
goaway-append [] more = sym (or-none (goaway_in more))
goaway-append (order ∷ first) more =
    ap (λ (o : Option Frame). option_or o (goaway_by order)) (goaway-append first more)
    ∙ sym (or-assoc (goaway_in more) (goaway_in first) (goaway_by order))

some-not : (found : Option Frame) (g : Frame) → found ≡ None → found ≡ Some g → ⊥
some-not found g none some = cc

-- ---- of a run

own-fails : (last : ℕ) → fails (Goaway last reason.Window) ≡ true
own-fails last = refl

-- an answer of the writer's own is an error, or it is no GOAWAY
answer-none : (last id : ℕ) (order : Order) → order ≡ own_order last id → fails order ≡ false
    → goaway_by order ≡ None
answer-none last id order is clean = by (id == 0) is
  where
    by : (b : Bool)
        → order ≡ (if b then Goaway last reason.Window else Reset id FlowControlError true)
        → goaway_by order ≡ None
    by true same = absurd (true≢false (sym (ap fails same ∙ own-fails last) ∙ clean))
    by false same = ap goaway_by same

own-none : (order : Order) (before : List RunStep) (orders : List Order) (g : Frame)
    → IsAnswer order before ⊎ (ResetsCall order orders ⊎ Warns order before) → fails order ≡ false
    → ordered_goaway before ≡ Some g → goaway_by order ≡ None
own-none order [] orders g (inl answer) clean was = absurd answer
own-none order (Taken blamed ∷ before) orders g (inl answer) clean was =
    answer-none answer.0 answer.1 order answer.2 clean
own-none order (Granted id n ∷ before) orders g (inl answer) clean was = absurd answer
own-none order (Written frame ∷ before) orders g (inl answer) clean was = absurd answer
own-none order (Returned id items ∷ before) orders g (inl answer) clean was = absurd answer
own-none order before orders g (inr (inl left)) clean was = ap goaway_by left.1
own-none order before orders g (inr (inr (inl warns))) clean was =
    absurd (true≢false (sym (ap (λ (o : Option Frame). is_some o) was) ∙ warns.1))
own-none order before orders g (inr (inr (inr warns))) clean was = ap goaway_by warns.0

later-goaway : (now had took : Option Frame) (g : Frame) → (had ≡ Some g → took ≡ Some g)
    → option_or now had ≡ Some g → option_or now took ≡ Some g
later-goaway (Some frame) had took g follows is = is
later-goaway None had took g follows is = follows is

-- the last Goaway that is taken is that of the orders, where none has an error
took-goaway : (orders : List Order) (run : List RunStep) (g : Frame) → HasTaken orders run
    → has_failed run ≡ false → goaway_in orders ≡ Some g → ordered_goaway run ≡ Some g
took-goaway orders [] g none clean is =
    absurd (some-not (goaway_in orders) g (ap goaway_in none) is)
took-goaway orders (Taken order ∷ before) g (inl (earlier, parts, took)) clean is =
    later-goaway (goaway_by order) (goaway_in earlier) (ordered_goaway before) g
    (λ found.
    took-goaway earlier before g took
    (either-false (fails order) (has_failed before) clean).1 found)
    (sym (ap goaway_in parts ∙ goaway-append earlier (order ∷ [])) ∙ is)
took-goaway orders (Taken order ∷ before) g (inr (own, took)) clean is =
    let both = either-false (fails order) (has_failed before) clean in
    let rest = took-goaway orders before g took both.1 is in
    ap (λ (o : Option Frame). option_or o (ordered_goaway before))
    (own-none order before orders g own both.0 rest)
    ∙ rest
took-goaway orders (Granted id n ∷ before) g took clean is =
    took-goaway orders before g took clean is
took-goaway orders (Written frame ∷ before) g took clean is =
    took-goaway orders before g took clean is
took-goaway orders (Returned id items ∷ before) g took clean is =
    took-goaway orders before g took clean is

-- ---- of a step behind the drain

opened-none : (last id : ℕ) (fate : Fate) → ends_by fate ≡ None
    → goaway_in (opened last id fate) ≡ None
opened-none last id Admitted calm = refl
opened-none last id Unknown calm = refl
opened-none last id (TurnedAway refused.TooMany) calm = refl
opened-none last id (TurnedAway refused.Draining) calm = refl
opened-none last id (TurnedAway refused.NotNew) calm = absurd cc
opened-none last id (TurnedAway refused.OutOfMemory) calm = absurd cc
opened-none last id Lacking calm = absurd cc
opened-none last id (Unserved NoWorker) calm = absurd cc
opened-none last id (Unserved Stopped) calm = refl
opened-none last id Plain calm = refl
opened-none last id (Received receipt) calm = refl
opened-none last id Missed calm = refl

without-none : (id : ℕ) (found : Option (List Field))
    → goaway_in (without_head id found ∷ []) ≡ None
without-none id None = refl
without-none id (Some fields) = refl

refused-none : (last id : ℕ) (fault : HeadFault) (fate : Fate) → ends_by fate ≡ None
    → goaway_in (refused_head last id fault fate) ≡ None
refused-none last id fault Lacking calm = absurd cc
refused-none last id fault Plain calm = without-none id (refusal_of fault)
refused-none last id fault Admitted calm = without-none id (refusal_of fault)
refused-none last id fault (Unserved why) calm = without-none id (refusal_of fault)
refused-none last id fault Unknown calm = without-none id (refusal_of fault)
refused-none last id fault (TurnedAway why) calm = without-none id (refusal_of fault)
refused-none last id fault (Received receipt) calm = without-none id (refusal_of fault)
refused-none last id fault Missed calm = without-none id (refusal_of fault)

came-none : (last id : ℕ) (fate : Fate) → ends_by fate ≡ None → goaway_in (came last id fate) ≡ None
came-none last id (Received CallWindow) calm = refl
came-none last id (Received Overrun) calm = absurd cc
came-none last id (Received Discard) calm = refl
came-none last id (Received Feed) calm = refl
came-none last id Missed calm = refl
came-none last id Plain calm = refl
came-none last id Admitted calm = refl
came-none last id (Unserved why) calm = refl
came-none last id Unknown calm = refl
came-none last id (TurnedAway fault) calm = refl
came-none last id Lacking calm = absurd cc

loose-none : (last : ℕ) (fate : Fate) → ends_by fate ≡ None
    → goaway_in (came_loose last fate) ≡ None
loose-none last (Received Overrun) calm = absurd cc
loose-none last (Received CallWindow) calm = refl
loose-none last (Received Discard) calm = refl
loose-none last (Received Feed) calm = refl
loose-none last Missed calm = refl
loose-none last Plain calm = refl
loose-none last Admitted calm = refl
loose-none last (Unserved why) calm = refl
loose-none last Unknown calm = refl
loose-none last (TurnedAway fault) calm = refl
loose-none last Lacking calm = refl

news-none : (control : News) → goaway_in (news_of control ∷ []) ≡ None
news-none (news.Settings settings) = refl
news-none (news.Ping bytes) = refl
news-none (news.Window id increment) = refl

cut-none : (id : ℕ) (code : ErrorCode) (fed : Bool)
    → goaway_in (if fed then Reset id code true ∷ [] else []) ≡ None
cut-none id code true = refl
cut-none id code false = refl

behind-last : (id : ℕ) (draining : Bool) (ids : List ℕ) (orders : List Order) → draining ≡ true
    → goaway_in (last_stream id draining ids ++ orders) ≡ goaway_in orders
behind-last id true ids orders is = refl
behind-last id false ids orders is = absurd (true≢false (sym is))

event-none : (before : List Step) (event : InEvent) (fate : Fate) → is_draining before ≡ true
    → ends_at (Told event fate) ≡ None → goaway_in (orders_at before (Told event fate)) ≡ None
event-none before (events.Open id head) fate draining calm =
    behind-last id (is_draining before) (begun before)
    (opened (named_with id (is_draining before) (named before)) id fate) draining
    ∙ opened-none (named_with id (is_draining before) (named before)) id fate calm
event-none before (events.BadHead id fault) fate draining calm =
    behind-last id (is_draining before) (begun before)
    (refused_head (named_with id (is_draining before) (named before)) id fault fate) draining
    ∙ refused-none (named_with id (is_draining before) (named before)) id fault fate calm
event-none before (events.Data id piece counted) fate draining calm =
    came-none (named before) id fate calm
event-none before (events.Loose counted) fate draining calm = loose-none (named before) fate calm
event-none before (events.Reset id code) fate draining calm = refl
event-none before (events.StreamError id code) fate draining calm = refl
event-none before (events.Control control) fate draining calm = news-none control
event-none before (events.Fatal cause) fate draining calm = absurd cc
event-none before (events.End id) fate draining calm = refl
event-none before events.PeerGoaway fate draining calm = refl

-- ---- of all steps

abbrev Names : List Step → Type 0
Names told =
    goaway_in (orders_by told)
    ≡ Some (goaway_frame (greatest (reported told)) (reason.Code NoError))

names-still : (before : List Step) (step : Step) → goaway_in (orders_at before step) ≡ None
    → reported_by step ≡ None → Names before → Names (step ∷ before)
names-still before step none unreported names =
    goaway-append (orders_by before) (orders_at before step)
    ∙ (ap (λ (o : Option Frame). option_or o (goaway_in (orders_by before))) none
    ∙ (names
    ∙ ap (λ (ids : List ℕ). Some (goaway_frame (greatest ids) (reason.Code NoError))) (sym still)))
  where
    still : reported (step ∷ before) ≡ reported before
    still = rw unreported (append-nil (reported before))

none-ends : {A : Type 0} {end : A} → Some end ≡ None → ⊥
none-ends is = cc

drain-names : (told : List Step) → AreCalm told → AdmitsNoMore told
    → is_draining told ≡ true → Names told
drain-names [] calm closed draining = absurd (true≢false (sym draining))
drain-names (Drains ∷ before) calm closed draining =
    goaway-append (orders_by before) (orders_at before Drains)
    ∙ ap (λ (ids : List ℕ). Some (goaway_frame (greatest ids) (reason.Code NoError)))
    (sym (append-nil (reported before)))
drain-names (Lacks ∷ before) calm closed draining = absurd (none-ends calm.0)
drain-names (Told event fate ∷ before) calm closed draining =
    names-still before (Told event fate) (event-none before event fate draining calm.0)
    (closed.0 draining) (drain-names before calm.1 closed.1 draining)
drain-names (CutOff id ∷ before) calm closed draining =
    names-still before (CutOff id) (cut-none id Cancel (is_fed id before)) refl
    (drain-names before calm.1 closed.1 draining)

-- the last GOAWAY that is written has no error, and names the greatest stream whose call was
-- admitted
pub has-drained : (told : List Step) (put : List Order) (run : List RunStep) → AreCalm told
    → AdmitsNoMore told → is_draining told ≡ true → put ≡ orders_by told ++ InputEnded ∷ Close ∷ []
    → Obeys false put run → IsLawful run → IsAnswered run → has_failed run ≡ false
    → HasDrained (greatest (reported told)) run
has-drained told put run calm closed draining is obeys lawful (inl fails) clean =
    absurd (true≢false (sym fails ∙ none-is-last run lawful clean))
has-drained told put run calm closed draining is obeys lawful (inr all) clean =
    last-is-ordered run lawful all.0
    ∙ took-goaway put run _ obeys.0 clean (ap goaway_in is
    ∙ (goaway-append (orders_by told) (InputEnded ∷ Close ∷ [])
    ∙ drain-names told calm closed draining))
