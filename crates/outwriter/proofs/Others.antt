-- Of streams that are no call's: what was told of them stays so, as the run goes on.
use Rattle.std.proofs.Common.{
  ◌≡◌,
  ◌⊎◌,
  ℕ,
  inl,
  inr,
  refl,
  sym,
  ap,
  subst,
  ◌∙◌,
  Bool,
  true,
  false,
  true≢false,
  List,
  [],
  ◌∷◌,
  Option,
}
use Rattle.std.specs.Prelude.{◌||◌, ◌&&◌, is_some, if◌then◌else◌}
use Rattle.account.specs.declared.call.OutItem.{OutItem}
use Rattle.h2frame.specs.declared.frame.Frame.{Frame}
use Rattle.lists.specs.declared.field.Field.{Field}
use Rattle.outwriter.specs.Calls.{
  is_fresh,
  is_served,
  refuses_stream,
  calls_off,
  is_called_off,
  drops,
  is_dropped,
  IsRefused,
  IsOther,
  IsReturned,
}
use Rattle.outwriter.specs.Runs.{is_opened, opens_stream}
use Rattle.outwriter.specs.declared.outbound.Outbound.{Outbound}
use Rattle.outwriter.specs.Histories.{is_stream, was_reset, resets_stream}
use Rattle.outwriter.specs.States.{knows}
use Rattle.outwriter.specs.Parts.{Mark}
use Rattle.outwriter.specs.CallState.{IsUncalled, has_reason}
use Rattle.outwriter.specs.Steps.{Step, Order, Taken, Granted, Written, Returned}

pub or-true : (a b : Bool) → b ≡ true → (a || b) ≡ true
or-true true b e = refl
or-true false b e = e

pub or-false : (a b : Bool) → a ≡ false → (a || b) ≡ b
or-false true b e = cc
or-false false b e = refl

or-more : (a b c d : Bool) → (b || d) ≡ true → ((a || b) || (c || d)) ≡ true
or-more true b c d e = refl
or-more false true c d e = refl
or-more false false c d e = or-true c d e

-- ---- streams of calls

-- a stream that was opened isn't fresh, and one that is served was opened
opened-stale : (run : List Step) (id : ℕ) → is_opened id run ≡ true → is_fresh id run ≡ false
opened-stale [] id e = absurd (true≢false (sym e))
opened-stale (Granted stream n ∷ run) id e = opened-stale run id e
opened-stale (Returned stream items ∷ run) id e = opened-stale run id e
opened-stale (Written frame ∷ run) id e = opened-stale run id e
opened-stale (Taken order ∷ run) id e =
    by (opened-stale run id) (opens_stream id order) (refuses_stream id order) e
  where
    by : (is_opened id run ≡ true → is_fresh id run ≡ false) → (opens refuses : Bool)
        → (opens || is_opened id run) ≡ true
        → (if opens then false else (if refuses then false else is_fresh id run)) ≡ false
    by before true refuses f = refl
    by before false true f = refl
    by before false false f = before f

served-opened : (run : List Step) (id : ℕ) → is_served id run ≡ true → is_opened id run ≡ true
served-opened [] id e = absurd (true≢false (sym e))
served-opened (Granted stream n ∷ run) id e = served-opened run id e
served-opened (Returned stream items ∷ run) id e = served-opened run id e
served-opened (Written frame ∷ run) id e = served-opened run id e
served-opened (Taken order ∷ run) id e = by (served-opened run id) (opens_stream id order) e
  where
    by : (is_served id run ≡ true → is_opened id run ≡ true) → (opens : Bool)
        → (if opens then is_fresh id run else is_served id run) ≡ true
        → (opens || is_opened id run) ≡ true
    by before true f = refl
    by before false f = before f

-- whose stream is a call's, by the run
module _ (run : List Step) (o : Outbound)
    (brought : (id : ℕ) → knows o.states id ≡ (is_stream id && is_opened id run)) (id : ℕ) where
  pub opened-known : is_opened id run ≡ true → is_stream id ≡ true → knows o.states id ≡ true
  opened-known e there = brought id ∙ ap (λ b. b && is_opened id run) there ∙ e

  pub served-known : is_served id run ≡ true → is_stream id ≡ true → knows o.states id ≡ true
  served-known e there = opened-known (served-opened run id e) there

  pub known-opened : knows o.states id ≡ true → is_opened id run ≡ true
  known-opened e = by (is_stream id) (is_opened id run) (sym (brought id) ∙ e)
    where
      by : (a b : Bool) → (a && b) ≡ true → b ≡ true
      by true b f = f
      by false b f = absurd (true≢false (sym f))

  pub known-stream : knows o.states id ≡ true → is_stream id ≡ true
  known-stream e = by (is_stream id) (is_opened id run) (sym (brought id) ∙ e)
    where
      by : (a b : Bool) → (a && b) ≡ true → a ≡ true
      by true b f = refl
      by false b f = absurd (true≢false (sym f))

  pub known-stale : knows o.states id ≡ true → is_fresh id run ≡ false
  known-stale e = opened-stale run id (known-opened e)

-- ---- as the run goes on

-- what was refused, reset, called off or dropped is so still, and what is opened was
pub record Later (run next : List Step) : Type 0 where
  pub opened : (id : ℕ) → is_opened id next ≡ is_opened id run
  pub refused : (id : ℕ) (fields : List Field) → IsRefused id fields run → IsRefused id fields next
  pub reset : (id : ℕ) → was_reset id run ≡ true → was_reset id next ≡ true
  pub reason : (id : ℕ) → has_reason id run ≡ true → has_reason id next ≡ true
  pub returned : (id : ℕ) (items : List OutItem) → IsReturned id items next
      → IsReturned id items run

pub later-none : (run : List Step) → Later run run
later-none run = record {
  opened = λ id. refl;
  refused = λ id fields is. is;
  reset = λ id e. e;
  reason = λ id e. e;
  returned = λ id items is. is;
}

pub later-written : (run : List Step) (frame : Frame) → Later run (Written frame ∷ run)
later-written run frame = record {
  opened = λ id. refl;
  refused = λ id fields is. is;
  reset = λ id e. e;
  reason = λ id e. e;
  returned = λ id items is. is;
}

pub later-granted : (run : List Step) (id n : ℕ) → Later run (Granted id n ∷ run)
later-granted run id n = record {
  opened = λ other. refl;
  refused = λ other fields is. is;
  reset = λ other e. e;
  reason = λ other e. e;
  returned = λ other items is. is;
}

-- with any control
pub reset-taken : (run : List Step) (order : Order) (id : ℕ) → was_reset id run ≡ true
    → was_reset id (Taken order ∷ run) ≡ true
reset-taken run order id e = or-true (resets_stream id order) (was_reset id run) e

pub reason-taken : (run : List Step) (order : Order) (id : ℕ) → has_reason id run ≡ true
    → has_reason id (Taken order ∷ run) ≡ true
reason-taken run order id e =
    or-more (calls_off id (is_opened id run) order) (is_called_off id run) (drops id order)
    (is_dropped id run) e

pub dropped-taken : (run : List Step) (order : Order) (id : ℕ) → is_dropped id run ≡ true
    → is_dropped id (Taken order ∷ run) ≡ true
dropped-taken run order id e = or-true (drops id order) (is_dropped id run) e

pub refused-taken : (run : List Step) (order : Order) (id : ℕ) (fields : List Field)
    → IsRefused id fields run → IsRefused id fields (Taken order ∷ run)
refused-taken run order id fields is = inr is

pub later-taken : (run : List Step) (order : Order) → ((id : ℕ) → opens_stream id order ≡ false)
    → Later run (Taken order ∷ run)
later-taken run order none = record {
  opened = λ id. or-false (opens_stream id order) (is_opened id run) (none id);
  refused = refused-taken run order;
  reset = reset-taken run order;
  reason = reason-taken run order;
  returned = λ id items is. is;
}

pub other-later : (run next : List Step) (id : ℕ) (part : List Mark)
    → ((fields : List Field) → IsRefused id fields run → IsRefused id fields next)
    → IsOther id run part → IsOther id next part
other-later run next id part refused (inl none) = inl none
other-later run next id part refused (inr (inl reset)) = inr (inl reset)
other-later run next id part refused (inr (inr (fields, asked, is))) =
    inr (inr (fields, refused fields asked, is))

pub uncalled-same : (run next : List Step) (id : ℕ) (over after : Option Bool)
    (told more : List Mark)
    → ((fields : List Field) → IsRefused id fields run → IsRefused id fields next)
    → after ≡ over → more ≡ told
    → IsUncalled id run over told → IsUncalled id next after more
uncalled-same run next id over after told more refused e f (none, other) =
    subst (λ (x : Option Bool). IsUncalled id next x more) (sym e) (subst
    (λ (x : List Mark). IsUncalled id next over x) (sym f)
    (none, other-later run next id told refused other))

-- a stream that has ended or was reset has or was so still
pub ended-later : (over after : Option Bool) (reset later : Bool) → after ≡ over
    → (reset ≡ true → later ≡ true)
    → (is_some over ≡ true) ⊎ (reset ≡ true) → (is_some after ≡ true) ⊎ (later ≡ true)
ended-later over after reset later e goes (inl ended) = inl (ap is_some e ∙ ended)
ended-later over after reset later e goes (inr was) = inr (goes was)
