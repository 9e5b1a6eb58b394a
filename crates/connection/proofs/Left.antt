-- Which calls were left: by the orders that their streams are reset by, and by their accounts.
use Rattle.std.proofs.Common.{
  ◌≡◌,
  ◌∙◌,
  ◌⊎◌,
  inl,
  inr,
  ℕ,
  zero,
  suc,
  Bool,
  true,
  false,
  true≢false,
  nat_eq,
  List,
  [],
  ◌∷◌,
  ◌++◌,
  Option,
  None,
  Some,
  ap,
  arith,
  eqb-true,
  map,
  refl,
  subst,
  sym,
}
use Rattle.std.specs.Prelude.{◌||◌, Contains}
use Rattle.std.specs.List.{list_any}
use Rattle.std.proofs.lemmas.Bool.{cases_Bool}
use Rattle.std.proofs.lemmas.List.Elements.{
  All-contains,
  Contains-append_left,
  Contains-append_right,
}
use Rattle.std.proofs.lemmas.List.Folds.{list_any-append}
use Rattle.callparts.specs.declared.call_account.CallAccount.{CallAccount}
use Rattle.h2frame.specs.declared.error_code.ErrorCode.{ErrorCode}
use Rattle.h2frame.specs.declared.error_code.ErrorCode.TheVariants as error
use Rattle.h2frame.specs.declared.frame.Frame.{Frame}
use Rattle.h2frame.specs.declared.kind.FrameKind.TheVariants.{RstStream}
use Rattle.outwriter.specs.declared.control.WriterOrder.TheVariants.{
  Settings,
  Ping,
  Probe,
  Window,
  Open,
  Refuse,
  Reset,
  Goaway,
  InputEnded,
  Close,
}
use Rattle.outwriter.specs.Frames.{reset_frame}
use Rattle.outwriter.specs.Runs.{Asks, IsAsked, IsLawful}
use Rattle.outwriter.specs.Steps.{Order, Taken, Granted, Written, Returned}
use Rattle.outwriter.specs.Steps.{Step as RunStep}
use Rattle.session.specs.declared.event.InEvent.TheVariants as events
use Rattle.readerloop.specs.Calls.{is_admitted}
use Rattle.readerloop.specs.Steps.{
  Plain,
  Admitted,
  Unserved,
  Unknown,
  TurnedAway,
  Received,
  Missed,
  Lacking,
  Step,
  Told,
  CutOff,
  Drains,
  Lacks,
  admitted,
  admitted_by,
  once,
  reported,
  reported_by,
}
use Rattle.writerloop.specs.Left.{left_by, left_in}
use Rattle.connection.specs.Causes.{WasTaken, WasWritten}
use Rattle.connection.specs.Left.{AreLeft, WasLeft}

-- ---- the orders

pub left-taken : (id : ℕ) (run : List RunStep) → WasTaken (Reset id error.InternalError true) run
    → Contains (left_in run) id
left-taken id [] was = absurd was
left-taken id (Taken found ∷ before) (inl is) =
    subst (λ (order : Order). Contains (left_by order ++ left_in before) id) is
    (Contains-append_left (id ∷ []) (left_in before) id (0, omega arith, refl))
left-taken id (Taken found ∷ before) (inr was) =
    Contains-append_right (left_by found) (left_in before) id (left-taken id before was)
left-taken id (Granted stream n ∷ before) was = left-taken id before was
left-taken id (Written frame ∷ before) was = left-taken id before was
left-taken id (Returned stream items ∷ before) was = left-taken id before was

asks-is : (id : ℕ) (code : ErrorCode) (order : Order) → Asks id code order
    → Reset id code true ≡ order
asks-is id code (Reset stream found true) asks =
    ap (λ (n : ℕ). Reset n code true) asks.0 ∙ ap (λ (c : ErrorCode). Reset stream c true) asks.1
asks-is id code (Reset stream found false) asks = absurd asks
asks-is id code (Settings settings) asks = absurd asks
asks-is id code (Ping bytes) asks = absurd asks
asks-is id code (Probe bytes) asks = absurd asks
asks-is id code (Window stream increment) asks = absurd asks
asks-is id code (Open stream sender) asks = absurd asks
asks-is id code (Refuse stream fields) asks = absurd asks
asks-is id code (Goaway last found) asks = absurd asks
asks-is id code InputEnded asks = absurd asks
asks-is id code Close asks = absurd asks

asked-taken : (id : ℕ) (code : ErrorCode) (run : List RunStep) → IsAsked id code run
    → WasTaken (Reset id code true) run
asked-taken id code [] asked = absurd asked
asked-taken id code (Taken order ∷ before) (inl asked) = inl (asks-is id code order asked.0)
asked-taken id code (Taken order ∷ before) (inr asked) = inr (asked-taken id code before asked)
asked-taken id code (Granted stream n ∷ before) asked = asked-taken id code before asked
asked-taken id code (Written frame ∷ before) asked = asked-taken id code before asked
asked-taken id code (Returned stream items ∷ before) asked = asked-taken id code before asked

-- an RST_STREAM was ordered by a Reset with its code
abbrev pub IsOrdered : List RunStep → Frame → Type 0
IsOrdered run frame =
    (code : ErrorCode) × (frame ≡ reset_frame frame.head.stream code)
    × WasTaken (Reset frame.head.stream code true) run

pub written-ordered : (run : List RunStep) → IsLawful run → (frame : Frame) → WasWritten frame run
    → frame.head.kind ≡ RstStream → IsOrdered run frame
written-ordered [] lawful frame was is = absurd was
written-ordered (Taken order ∷ before) lawful frame was is =
    let found = written-ordered before lawful frame was is in (found.0, found.1, inr found.2)
written-ordered (Granted id n ∷ before) lawful frame was is =
    written-ordered before lawful frame was is
written-ordered (Returned id items ∷ before) lawful frame was is =
    written-ordered before lawful frame was is
written-ordered (Written found ∷ before) lawful frame (inr was) is =
    written-ordered before lawful.2 frame was is
written-ordered (Written found ∷ before) lawful frame (inl same) is =
    let asked = lawful.1.asked (sym (ap (λ (f : Frame). f.head.kind) same) ∙ is) in
    subst (λ (f : Frame). IsOrdered before f) (sym same)
    (asked.0, asked.2, asked-taken found.head.stream asked.0 before asked.1)

-- ---- the accounts

both-admitted : (step : Step) → (admitted_by step ≡ None) ⊎ (reported_by step ≡ admitted_by step)
both-admitted (Told (events.Open id head) Admitted) = inr refl
both-admitted (Told (events.Open id head) (Unserved why)) = inl refl
both-admitted (Told (events.Open id head) Plain) = inl refl
both-admitted (Told (events.Open id head) Unknown) = inl refl
both-admitted (Told (events.Open id head) (TurnedAway fault)) = inl refl
both-admitted (Told (events.Open id head) (Received receipt)) = inl refl
both-admitted (Told (events.Open id head) Missed) = inl refl
both-admitted (Told (events.Open id head) Lacking) = inl refl
both-admitted (Told (events.BadHead id fault) fate) = inl refl
both-admitted (Told (events.Data id piece counted) fate) = inl refl
both-admitted (Told (events.Loose counted) fate) = inl refl
both-admitted (Told (events.End id) fate) = inl refl
both-admitted (Told (events.Reset id code) fate) = inl refl
both-admitted (Told (events.StreamError id code) fate) = inl refl
both-admitted (Told (events.Control control) fate) = inl refl
both-admitted (Told events.PeerGoaway fate) = inl refl
both-admitted (Told (events.Fatal cause) fate) = inl refl
both-admitted (CutOff id) = inl refl
both-admitted Drains = inl refl
both-admitted Lacks = inl refl

once-there : (id : ℕ) (found : Option ℕ) → list_any (nat_eq id) (once found) ≡ true
    → Contains (once found) id
once-there id None is = absurd cc
once-there id (Some other) is =
    (0, omega arith, sym (eqb-true id other (or-false (nat_eq id other) is)))
  where
    or-false : (b : Bool) → (b || false) ≡ true → b ≡ true
    or-false true same = refl
    or-false false same = same

-- a call that was admitted has an account
pub admitted-reported : (id : ℕ) (told : List Step) → is_admitted id told ≡ true
    → Contains (reported told) id
admitted-reported id [] known = absurd cc
admitted-reported id (step ∷ before) known = elim (cases_Bool (is_admitted id before)) [
  | inl there ↦
      Contains-append_left (reported before) (once (reported_by step)) id
      (admitted-reported id before there)
  | inr apart ↦
      by (both-admitted step)
      (sym (ap (λ (b : Bool). b || list_any (nat_eq id) (once (admitted_by step))) apart) ∙ split)
]
  where
    split : (is_admitted id before || list_any (nat_eq id) (once (admitted_by step))) ≡ true
    split = sym (list_any-append (nat_eq id) (admitted before) (once (admitted_by step))) ∙ known

    by : (admitted_by step ≡ None) ⊎ (reported_by step ≡ admitted_by step)
        → list_any (nat_eq id) (once (admitted_by step)) ≡ true
        → Contains (reported before ++ once (reported_by step)) id
    by (inl none) is =
        absurd (true≢false
        (sym is ∙ ap (λ (found : Option ℕ). list_any (nat_eq id) (once found)) none))
    by (inr same) is =
        Contains-append_right (reported before) (once (reported_by step)) id
        (subst (λ (found : Option ℕ). Contains (once found) id) (sym same)
        (once-there id (admitted_by step) is))

account-there : (id : ℕ) (accounts : List CallAccount)
    → Contains (map (λ (account : CallAccount). account.id) accounts) id
    → (account : CallAccount) × Contains accounts account × (account.id ≡ id)
account-there id [] (k, within, at) = absurd (omega (arith, within))
account-there id (account ∷ accounts) (zero, within, at) = (account, (0, omega arith, refl), at)
account-there id (account ∷ accounts) (suc k, within, at) =
    let found = account-there id accounts (k, omega (arith, within), at) in
    (found.0, (suc found.1.0, omega (arith, found.1.1), found.1.2), found.2)

-- no trailers were given to a call that was admitted, whose stream was reset so
pub was-left : (id : ℕ) (told : List Step) (run : List RunStep) (accounts : List CallAccount)
    → AreLeft (left_in run) accounts
    → map (λ (account : CallAccount). account.id) accounts ≡ reported told
    → is_admitted id told ≡ true → WasTaken (Reset id error.InternalError true) run
    → WasLeft id accounts
was-left id told run accounts left same known was =
    let found =
    account-there id accounts
    (subst (λ (ids : List ℕ). Contains ids id) (sym same) (admitted-reported id told known)) in
    record {
      account = found.0;
      among = found.1;
      whose = found.2;
      unanswered =
          All-contains (λ (account : CallAccount).
          Contains (left_in run) account.id → account.status ≡ None) accounts
          found.0 left found.1
          (subst (λ (n : ℕ). Contains (left_in run) n) (sym found.2) (left-taken id run was));
    }
