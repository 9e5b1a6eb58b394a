-- What controls do to the windows of a run.
use Rattle.std.proofs.Common.{
  ◌≡◌,
  ℕ,
  zero,
  suc,
  ◌<◌,
  inl,
  inr,
  Bool,
  true,
  false,
  ℤ,
  pos,
  ◌+ℤ◌,
  refl,
  sym,
  ap,
  subst,
  ◌∙◌,
  List,
  [],
  ◌∷◌,
  ◌++◌,
  Option,
  Some,
  None,
  Result,
  Ok,
  Err,
  arith,
  OnOk,
  OnErr,
  true≢false,
}
use Rattle.std.specs.Prelude.{
  not,
  ◌&&◌,
  is_some,
  if◌then◌else◌,
  ◌<ℤ◌,
  MatchOption,
  All,
  map,
  reverse,
}
use Rattle.std.specs.Option.{option_map}
use Rattle.sendwindows.specs.declared.send_windows.WindowFault.{WindowFault}
use Rattle.sendwindows.specs.declared.send_windows.WindowFault.TheVariants.{
  Overflow,
  NoRoom,
  Unknown,
  OutOfMemory,
}
use Rattle.limits.specs.declared.TheConstants.{MAX_WINDOW}
use Rattle.sendwindows.specs.WindowHistory.{
  Opening,
  Credit,
  Resizing,
  Closing,
  stream_window,
  since_opening,
  balance_of,
  initial_size,
  CanCredit,
  CanResize,
  Follows,
}
use Rattle.sendwindows.specs.WindowHistory.{Step as WindowStep}
use Rattle.sendwindows.specs.Windows.{Windows, window, balance, CreditFault, Meets}
use Rattle.outwriter.specs.declared.control.WriterOrder.TheVariants.{Window, Settings, Open, Reset}
use Rattle.h2frame.specs.declared.error_code.ErrorCode.{ErrorCode}
use Rattle.h2frame.specs.declared.settings.PeerSetting.{PeerSetting}
use Rattle.outwriter.specs.Histories.{
  HasWindow,
  Overflows,
  Takes,
  is_over,
  is_stream,
  was_reset,
  window_sizes,
}
use Rattle.outwriter.specs.RunState.{HasOver, HasResets, HasWindows}
use Rattle.outwriter.specs.States.{
  Moves,
  States,
  by_reset,
  end_of,
  is_reset,
  opening,
  opens_window,
  state_on,
}
use Rattle.outwriter.specs.Steps.{Step, Order, Taken}

-- a stream isn't the connection
number-positive : (id : ℕ) → is_stream id ≡ true → 0 < id
number-positive zero e = absurd (true≢false (sym e))
number-positive (suc n) e = omega arith

-- ---- a window by what is kept, and by its history

moved : (id kept size : ℕ) (b : Option ℤ) (since : Option (List WindowStep))
    → b ≡ option_map (balance_of id) since → kept ≡ size
    → option_map (λ z. pos kept +ℤ z) b
    ≡ option_map (λ steps. pos size +ℤ balance_of id steps) since
moved id kept size b None e f = ap (λ o. option_map (λ z. pos kept +ℤ z) o) e
moved id kept size b (Some steps) e f =
    ap (λ o. option_map (λ z. pos kept +ℤ z) o) e ∙ ap (λ n. Some (pos n +ℤ balance_of id steps)) f

pub window-follows : (h : List WindowStep) (w : Windows) (id : ℕ) → Follows h w → 0 < id
    → window w id ≡ stream_window id h
window-follows h w id f there =
    moved id w.initial (initial_size h) (balance w id) (since_opening id h)
    (f.balances id there) f.initial

-- ---- credit

shut : (since : Option (List WindowStep)) (size : List WindowStep → ℤ)
    → option_map size since ≡ None → is_some since ≡ true → ⊥
shut None size e is_open = true≢false (sym is_open)
shut (Some steps) size e is_open = cc

open-by : (since : Option (List WindowStep)) (size : List WindowStep → ℤ) (P : ℤ → Type 0)
    → MatchOption (option_map size since) ⊥ P → is_some since ≡ true
open-by None size P h = absurd h
open-by (Some steps) size P h = refl

-- what a control of credit does to the windows: it is credited, or refused and changes nothing
pub window-taken : (run : List Step) (id n : ℕ) (old new : States)
    (r : Result (Unit {0}) WindowFault)
    → OnOk r ((history : List WindowStep) → Follows history old.windows → CanCredit history id n)
    → OnErr r ((history : List WindowStep) → Follows history old.windows → ¬ CanCredit history id n)
    → OnErr r (new ≡ old) → OnOk r (Moves old (Credit id n ∷ []) new)
    → HasWindows run old.windows → HasWindows (Taken (Window id n) ∷ run) new.windows
window-taken run id n old new (Ok done) can cannot same follows (h, has, f) =
    (Credit id n ∷ h, (h, has, inl (can h f, refl)), follows h f)
window-taken run id n old new (Err fault) can cannot same follows (h, has, f) =
    (h, (h, has, inr (cannot h f, refl)), subst (λ (s : States). Follows h s.windows) (sym same) f)

-- credit that overflows no window has room, where there is a window
pub fits-unless-over : (w : Windows) (id n : ℕ) (r : Result (Unit {0}) WindowFault)
    → Meets (CreditFault w id n) r
    → OnOk r ((history : List WindowStep) → Follows history w → CanCredit history id n)
    → (r ≡ Err Overflow → ⊥)
    → (history : List WindowStep) → Follows history w → HasWindow history id
    → CanCredit history id n
fits-unless-over w id n (Ok done) meets can isnt h f there = can h f
fits-unless-over w id n (Err Overflow) meets can isnt h f there = absurd (isnt refl)
fits-unless-over w id n (Err Unknown) meets can isnt h f (inl e) =
    let no : ⊥ = omega (arith, e, meets.0) in
    absurd no
fits-unless-over w id n (Err Unknown) meets can isnt h f (inr is_open) =
    absurd (shut (since_opening id h) (λ steps. pos (initial_size h) +ℤ balance_of id steps)
    (sym (window-follows h w id f meets.0) ∙ meets.1) is_open)
fits-unless-over w id n (Err NoRoom) meets can isnt h f there = absurd meets
fits-unless-over w id n (Err OutOfMemory) meets can isnt h f there = absurd meets

has-window : (h : List WindowStep) (w : Windows) (id n : ℕ) → Follows h w
    → CreditFault w id n Overflow → HasWindow h id
has-window h w id n f (inl (e, over)) = inl e
has-window h w id n f (inr (there, over)) =
    inr (open-by (since_opening id h) (λ steps. pos (initial_size h) +ℤ balance_of id steps)
    (λ size. pos MAX_WINDOW <ℤ (size +ℤ pos n))
    (subst (λ o. MatchOption o ⊥ (λ size. pos MAX_WINDOW <ℤ (size +ℤ pos n)))
    (window-follows h w id f there) over))

-- and credit that overflows one has none
pub over-stands : (w : Windows) (id n : ℕ) (r : Result (Unit {0}) WindowFault)
    → Meets (CreditFault w id n) r
    → OnErr r ((history : List WindowStep) → Follows history w → ¬ CanCredit history id n)
    → r ≡ Err Overflow
    → (history : List WindowStep) → Follows history w → Overflows history id n
over-stands w id n (Ok done) meets cannot is = cc
over-stands w id n (Err Overflow) meets cannot is = λ h f. (has-window h w id n f meets, cannot h f)
over-stands w id n (Err Unknown) meets cannot is = cc
over-stands w id n (Err NoRoom) meets cannot is = absurd meets
over-stands w id n (Err OutOfMemory) meets cannot is = absurd meets

-- what SETTINGS do to the windows: all their initial sizes are set, or none
pub settings-taken : (run : List Step) (settings : List PeerSetting) (old new : States)
    (r : Result (Unit {0}) WindowFault)
    → OnOk r ((history : List WindowStep) → Follows history old.windows
    → All (CanResize history) (window_sizes settings))
    → OnErr r ((history : List WindowStep) → Follows history old.windows
    → ¬ All (CanResize history) (window_sizes settings))
    → OnErr r (new ≡ old) → OnOk r (Moves old (reverse (map Resizing (window_sizes settings))) new)
    → HasWindows run old.windows → HasWindows (Taken (Settings settings) ∷ run) new.windows
settings-taken run settings old new (Ok done) fit over same moves (h, has, f) =
    (reverse (map Resizing (window_sizes settings)) ++ h, (h, has, inl (fit h f, refl)), moves h f)
settings-taken run settings old new (Err fault) fit over same moves (h, has, f) =
    (h, (h, has, inr (over h f, refl)), subst (λ (s : States). Follows h s.windows) (sym same) f)

-- a control that concerns no window
pub nothing-taken : (run : List Step) (order : Order) (w : Windows)
    → ((history : List WindowStep) → Takes run history order history)
    → HasWindows run w → HasWindows (Taken order ∷ run) w
nothing-taken run order w stays (h, has, f) = (h, (h, has, stays h), f)

-- a Reset, which closes the window of its stream
pub reset-taken : (run : List Step) (id : ℕ) (code : ErrorCode) (written : Bool)
    (w windows : Windows)
    → ((history : List WindowStep) → Follows history w → Follows (Closing id ∷ history) windows)
    → HasWindows run w → HasWindows (Taken (Reset id code written) ∷ run) windows
reset-taken run id code written w windows follows (h, has, f) =
    (Closing id ∷ h, (h, has, refl), follows h f)

-- an Open, whether or not it opens the window of its stream
pub open-taken : (run : List Step) (id : ℕ) (old new : States) → HasOver run old → HasResets run old
    → Moves old (if is_stream id then opening old id else []) new
    → HasWindows run old.windows → HasWindows (Taken (Open id tt) ∷ run) new.windows
open-taken run id old new over resets moves (h, has, f) = (
  (if is_stream id then opening old id else []) ++ h,
  (h, has, by (is_stream id) refl),
  moves h f,
)
  where
    mapped : {A B : Type 0} (g : A → B) (o : Option A) → is_some (option_map g o) ≡ is_some o
    mapped g None = refl
    mapped g (Some x) = refl

    same : is_stream id ≡ true
        → opens_window old id
        ≡ ((not (is_over id run) && not (was_reset id run)) && not (is_some (since_opening id h)))
    same there =
        ap (λ b. (not b && not (is_reset old id)) && not (is_some (balance old.windows id)))
        (sym (mapped by_reset (end_of (state_on old id))) ∙ (over id).0)
        ∙ ap (λ b. (not (is_over id run) && not b) && not (is_some (balance old.windows id)))
        (resets id there)
        ∙ ap (λ b. (not (is_over id run) && not (was_reset id run)) && not b)
        (ap is_some (f.balances id (number-positive id there))
        ∙ mapped (balance_of id) (since_opening id h))

    both : (b c : Bool) → b ≡ c
        → (if b then Opening id ∷ [] else []) ++ h ≡ (if c then Opening id ∷ h else h)
    both true true e = refl
    both false false e = refl
    both true false e = absurd (true≢false e)
    both false true e = absurd (true≢false (sym e))

    by : (b : Bool) → is_stream id ≡ b
        → (if b then opening old id else []) ++ h
        ≡ (if b
        && ((not (is_over id run) && not (was_reset id run)) && not (is_some (since_opening id h)))
        then Opening id ∷ h
        else h)
    by false e = refl
    by true e =
        both (opens_window old id) ((not (is_over id run) && not (was_reset id run))
        && not (is_some (since_opening id h))) (same e)

pub not-true : (b : Bool) → not b ≡ true → b ≡ false
not-true true e = cc
not-true false e = refl

pub not-false : (b : Bool) → not b ≡ false → b ≡ true
not-false true e = refl
not-false false e = cc
