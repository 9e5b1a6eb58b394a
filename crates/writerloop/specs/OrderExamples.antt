-- Worked runs of a writer's core, by the orders that it took. A run has its latest step first, and
-- orders the earliest.
use Rattle.reasons.specs.declared.Reason.TheVariants as reason
use Rattle.std.proofs.Common.{inl, inr, ap, subst, sym, ◌∙◌, true≢false}
use Rattle.std.specs.Prelude.{◌≡◌, ◌++◌, ℕ, Bool, true, false, refl, List, [], ◌∷◌}
use Rattle.std.specs.Option.{is_some}
use Rattle.sendwindows.specs.WindowHistory.{CanCredit}
use Rattle.sendwindows.specs.WindowHistory.{Step as WindowStep}
use Rattle.h2frame.specs.declared.error_code.ErrorCode.TheVariants.{NoError, InternalError}
use Rattle.outwriter.specs.declared.control.WriterOrder.TheVariants.{
  Ping,
  Probe,
  Window,
  Open,
  Reset,
  Goaway,
  InputEnded,
  Close,
}
use Rattle.outwriter.specs.declared.control.OutFault.TheVariants.{PeerWindow}
use Rattle.outwriter.specs.Calls.{closes}
use Rattle.outwriter.specs.Drains.{draining, goaway_by, warning}
use Rattle.outwriter.specs.RunState.{Blames}
use Rattle.outwriter.specs.Steps.{Order, Taken, Granted}
use Rattle.writerloop.specs.Orders.{HasTaken, Obeys, ends_input}

-- in turn, whatever else is done between them
pub in_turn :
    Obeys false (InputEnded ∷ Close ∷ []) (Taken Close ∷ Granted 0 10 ∷ Taken InputEnded ∷ [])
in_turn = (inl (InputEnded ∷ [], refl, inl ([], refl, refl)), (inl tt, (inl tt, tt)))

-- a window is too large, and the writer ends the connection by itself
pub answered : (n : ℕ) → Blames {S = Unit {0}} (PeerWindow 0) (Window 0 n) []
    → Obeys false (Window 0 n ∷ Close ∷ [])
    (Taken Close ∷ Taken (Goaway 5 reason.Window) ∷ Taken (Window 0 n) ∷ [])
answered n blames = (
  inl (Window 0 n ∷ [], refl, inr (inl (5, 0, refl, refl, blames), inl ([], refl, refl))),
  (inl tt, (inl tt, (inr (inl (5, 0, refl, refl)), tt))),
)

-- the writer must end it
pub unanswered : (n : ℕ) → ¬ CanCredit [] 0 n
    → ¬ Obeys false (Window 0 n ∷ []) (Taken (Window 0 n) ∷ [])
unanswered n over (took, (inl (history, none, room), rest)) =
    over (subst (λ (found : List WindowStep). CanCredit found 0 n) none (room (inl refl)))
unanswered n over (took, (inr (inl answer), rest)) = answer
unanswered n over (took, (inr (inr lacks), rest)) = true≢false (sym lacks)

-- a call was left without trailers, and the writer resets its stream
pub left :
    Obeys false (Open 1 tt ∷ Close ∷ [])
    (Taken Close ∷ Taken (Reset 1 InternalError true) ∷ Taken (Open 1 tt) ∷ [])
left = (
  inl (Open 1 tt ∷ [], refl, inr (inr (inl (1, refl, inl refl, refl)), inl ([], refl, refl))),
  (inl tt, (inl tt, (inl tt, tt))),
)

-- the peer is warned, and then told the greatest stream of a call
pub drained :
    Obeys false (Goaway 5 (reason.Code NoError) ∷ Close ∷ []) (Taken Close
    ∷ Taken (Goaway 5 (reason.Code NoError)) ∷ Taken (Probe draining) ∷ Taken warning ∷ [])
drained = (
  inl (
    Goaway 5 (reason.Code NoError) ∷ [],
    refl,
    inl ([], refl, inr (inr (inr (inr (refl, refl))), inr (inr (inr (inl (refl, refl))), refl))),
  ),
  (inl tt, (inl tt, (inl tt, (inl tt, tt)))),
)

-- there was no memory for a PING: the writer ends the connection, and takes no more orders than
-- Close
pub parted : (bytes : List ℕ)
    → Obeys true (InputEnded ∷ Ping bytes ∷ InputEnded ∷ Close ∷ [])
    (Taken Close ∷ Taken (Goaway 5 reason.Memory) ∷ Taken InputEnded ∷ [])
parted bytes = record {
  front = InputEnded ∷ [];
  rest = Ping bytes ∷ InputEnded ∷ Close ∷ [];
  ends = Taken Close ∷ Taken (Goaway 5 reason.Memory) ∷ [];
  steps = Taken InputEnded ∷ [];
  orders_are = refl;
  run_is = refl;
  took = inl ([], refl, refl);
  answered = (inl tt, tt);
  ended = (inr (refl, inr (inr (inl refl))), (inl (5, refl), tt));
}

abbrev last_is : (Order → Bool) → List Order → Bool
last_is test [] = false
last_is test (order ∷ []) = test order
last_is test (order ∷ next ∷ orders) = last_is test (next ∷ orders)

last_at : (test : Order → Bool) (orders : List Order) (order : Order)
    → last_is test (orders ++ order ∷ []) ≡ test order
last_at test [] order = refl
last_at test (one ∷ []) order = refl
last_at test (one ∷ next ∷ orders) order = last_at test (next ∷ orders) order

-- no order is left out where none was lost
pub left_out : ¬ Obeys false (Close ∷ []) []
left_out obeys = true≢false (ap (λ (orders : List Order). last_is closes orders) obeys.0)

-- two orders don't change places
pub exchanged : ¬ Obeys false (Close ∷ InputEnded ∷ []) (Taken Close ∷ Taken InputEnded ∷ [])
exchanged (inl (earlier, parts, took), answered) =
    true≢false (sym (last_at closes earlier Close)
    ∙ ap (λ (orders : List Order). last_is closes orders) (sym parts))
exchanged (inr (inl (last, id, is, concerns, blames), took), answered) = absurd concerns
exchanged (inr (inr (inl (id, is, among, goes_on)), took), answered) = true≢false (ap closes is)
exchanged (inr (inr (inr (inl (is, unsaid))), took), answered) = true≢false (ap closes is)
exchanged (inr (inr (inr (inr (is, unsaid))), took), answered) = true≢false (ap closes is)

-- no call is reset after the end of the input
pub left_too_late :
    ¬ Obeys false (Open 1 tt ∷ InputEnded ∷ [])
    (Taken (Reset 1 InternalError true) ∷ Taken InputEnded ∷ Taken (Open 1 tt) ∷ [])
left_too_late (inl (earlier, parts, took), answered) =
    true≢false (ap (λ (orders : List Order). last_is ends_input orders) parts
    ∙ last_at ends_input earlier (Reset 1 InternalError true))
left_too_late (inr (inl (last, id, is, concerns, blames), took), answered) = absurd concerns
left_too_late (inr (inr (inl (id, is, among, goes_on)), took), answered) = true≢false goes_on
left_too_late (inr (inr (inr (inl (is, unsaid))), took), answered) = absurd cc
left_too_late (inr (inr (inr (inr (is, unsaid))), took), answered) = absurd cc

abbrev leaves : Order → Bool
leaves order = is_some (goaway_by order)

-- the writer doesn't warn twice, nor after another GOAWAY
pub warned_late : ¬ HasTaken [] (Taken warning ∷ Taken (Goaway 5 (reason.Code NoError)) ∷ [])
warned_late (inl (earlier, parts, took)) =
    true≢false (sym (last_at leaves earlier warning)
    ∙ ap (λ (orders : List Order). last_is leaves orders) (sym parts))
warned_late (inr (inl (last, id, is, concerns, blames), took)) = absurd concerns
warned_late (inr (inr (inl (id, is, among, goes_on)), took)) = absurd among
warned_late (inr (inr (inr (inl (is, unsaid))), took)) = true≢false unsaid
warned_late (inr (inr (inr (inr (is, unsaid))), took)) = absurd cc
