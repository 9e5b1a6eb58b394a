-- What is kept follows from a run of one more step.
use Rattle.std.proofs.Common.{
  ◌≡◌,
  ℕ,
  ◌+◌,
  ◌==◌,
  inr,
  refl,
  sym,
  ap,
  subst,
  ◌∙◌,
  Bool,
  true,
  false,
  true≢false,
  List,
  [],
  ◌∷◌,
  ◌++◌,
  Option,
  Some,
  None,
  append-nil,
  append_assoc,
  min,
}
use Rattle.std.specs.Prelude.{IfSome, All, is_some, flat_map, ◌||◌, ◌&&◌, not, if◌then◌else◌}
use Rattle.std.proofs.lemmas.Bool.{eqb-true, ne_eqb, eq-eqb}
use Rattle.std.proofs.lemmas.Grind.{flat_map-append}
use Rattle.std.proofs.lemmas.List.Elements.{All-append, All-tail, All-weaker}
use Rattle.limits.specs.declared.TheConstants.{MAX_WINDOW}
use Rattle.sendwindows.specs.WindowHistory.{Follows}
use Rattle.sendwindows.specs.WindowHistory.{Step as WindowStep}
use Rattle.sendwindows.specs.Windows.{Windows}
use Rattle.h2frame.specs.declared.error_code.ErrorCode.{ErrorCode}
use Rattle.h2frame.specs.declared.frame.Frame.{Frame}
use Rattle.lists.specs.declared.field.Field.{Field}
use Rattle.outwriter.specs.declared.blocks.HeaderBlock.{HeaderBlock}
use Rattle.outwriter.specs.declared.control.WriterOrder.TheVariants.{Open, Refuse, Reset}
use Rattle.outwriter.specs.declared.due.Due.{Due}
use Rattle.outwriter.specs.declared.outbound.Outbound.{Outbound}
use Rattle.outwriter.specs.declared.stream_state.StreamState.{StreamState}
use Rattle.outwriter.specs.declared.stream.OpenStream.{OpenStream}
use Rattle.outwriter.specs.declared.stream_state.StreamState.TheVariants.{NoCall, Call}
use Rattle.outwriter.specs.declared.stream_state.StreamState.TheVariants.{Reset as StreamReset}
use Rattle.outwriter.specs.States.{
  States,
  StandAs,
  Grants,
  SameButWindows,
  SameEnds,
  SameOver,
  SameOwed,
  amount_of,
  is_paid,
  is_reset,
  knows,
  more,
  owed_on,
  pays,
  state_on,
}
use Rattle.outwriter.specs.Histories.{Takes, is_stream, resets_stream, was_reset}
use Rattle.outwriter.specs.RunState.{
  Mirrors,
  HasWindows,
  HasOver,
  HasDue,
  HasBlock,
  HasOwed,
  HasResets,
  HasStates,
  AreAsked,
  MirrorsOf,
  MirrorsOn,
  SameButOpen,
  duties_of,
  resets_of,
}
use Rattle.outwriter.specs.Runs.{
  IsAsked,
  Fragments,
  unfinished,
  is_opened,
  may_owe,
  opens_stream,
  owed,
  due,
  due_by,
  told,
}
use Rattle.outwriter.specs.Steps.{Step, Order, Taken, Granted}
use Rattle.outwriter.proofs.Others.{or-true}
use Rattle.outwriter.proofs.WindowRuns.{nothing-taken}

-- the header block is as it was
pub same-block : (run after : List Step) (block : Option HeaderBlock)
    → unfinished after ≡ unfinished run → HasBlock run block → HasBlock after block
same-block run after None e h = e ∙ h
same-block run after (Some block) e h =
    subst (λ (o : Option Fragments).
    (block.begun ≡ true) × IfSome o (λ written. written.stream ≡ block.id)
    × (o ≡ None → ⊥)) (sym e) h

flat_map-push : {B : Type 0} (f : Due → List B) (waiting : List Due) (one : Due)
    → flat_map f (waiting ++ one ∷ []) ≡ flat_map f waiting ++ f one
flat_map-push {B} f waiting one =
    flat_map-append f waiting (one ∷ [])
    ∙ ap (λ (last : List B). flat_map f waiting ++ last) (append-nil (f one))

-- what was asked for stays so
asked-on : (order : Order) (run : List Step) (resets : List (ℕ × ErrorCode))
    → All (λ reset. IsAsked reset.0 reset.1 run) resets
    → All (λ reset. IsAsked reset.0 reset.1 (Taken order ∷ run)) resets
asked-on order run resets h =
    let P : ℕ × ErrorCode → Type 0 = λ reset. IsAsked reset.0 reset.1 run in
    let Q : ℕ × ErrorCode → Type 0 = λ reset. IsAsked reset.0 reset.1 (Taken order ∷ run) in
    All-weaker P Q (λ reset is. inr is) resets h

pub all-behind : {X : Type 0} (P : X → Type 0) → (xs ys : List X) → All P (xs ++ ys) → All P ys
all-behind P [] ys h = h
all-behind P (x ∷ xs) ys h = all-behind P xs ys (All-tail P x (xs ++ ys) h)

-- a control that obliges to nothing
pub same-due : (order : Order) (run : List Step) (waiting : List Due) → due_by order ≡ []
    → HasDue run waiting → HasDue (Taken order ∷ run) waiting
same-due order run waiting e h = (
  ap (λ (more : List Frame). due run ++ more) e ∙ append-nil (due run) ∙ h.0,
  asked-on order run (flat_map resets_of waiting) h.1,
)

-- one more is due
pub more-due : (order : Order) (run : List Step) (waiting : List Due) (one : Due)
    → due_by order ≡ duties_of one → AreAsked (Taken order ∷ run) (one ∷ [])
    → HasDue run waiting → HasDue (Taken order ∷ run) (waiting ++ one ∷ [])
more-due order run waiting one e asked h =
    let P : ℕ × ErrorCode → Type 0 = λ reset. IsAsked reset.0 reset.1 (Taken order ∷ run) in (
      ap (λ (more : List Frame). due run ++ more) e
          ∙ ap (λ (all : List Frame). all ++ duties_of one) h.0
          ∙ append_assoc (told run) (flat_map duties_of waiting) (duties_of one)
          ∙ ap (λ (more : List Frame). told run ++ more)
          (sym (flat_map-push duties_of waiting one)),
      subst (All P) (sym (flat_map-append resets_of waiting (one ∷ [])))
          (All-append P (flat_map resets_of waiting) (flat_map resets_of (one ∷ []))
          (asked-on order run (flat_map resets_of waiting) h.1) asked),
    )

-- a control changes the windows and what is due, and nothing else
pub taken : (order : Order) (run : List Step) (begun gone : Bool) (w windows : Windows)
    (waiting after : List Due)
    (block : Option HeaderBlock) (owed : States) → Mirrors run begun gone w waiting block owed
    → HasWindows (Taken order ∷ run) windows
    → HasDue (Taken order ∷ run) after → HasStates (Taken order ∷ run) owed
    → Mirrors (Taken order ∷ run) begun gone windows after block owed
taken order run begun gone w windows waiting after block owed m follow dues stand = record {
  begins = m.begins;
  goes = m.goes;
  windows_follow = follow;
  answers = dues;
  goes_on = same-block run (Taken order ∷ run) block refl m.goes_on;
  not_reset = m.not_reset;
  stand = stand;
}

-- ---- what is owed

-- a control that opens nothing and resets nothing
pub quiet-owed : (order : Order) (run : List Step) (kept : States)
    → ((id : ℕ) → resets_stream id order ≡ false) → ((id : ℕ) → opens_stream id order ≡ false)
    → HasOwed run kept → HasOwed (Taken order ∷ run) kept
quiet-owed order run kept unreset unopened owes id = (
  (owes id).0 ∙ sym (ap (λ b. if b && is_stream id then 0 else owed id run) (unreset id)),
  (owes id).1
      ∙ sym (ap (λ b.
      (id == 0)
      || ((is_stream id && (b || is_opened id run))
      && not (resets_stream id order || was_reset id run))) (unopened id)
      ∙ ap (λ b. (id == 0) || ((is_stream id && is_opened id run) && not (b || was_reset id run)))
      (unreset id)),
  λ e. ap (λ b. b || is_opened id run) (unopened id) ∙ (owes id).2 e,
)

pub quiet-stand : (order : Order) (run : List Step) (kept : States)
    → ((id : ℕ) → resets_stream id order ≡ false) → ((id : ℕ) → opens_stream id order ≡ false)
    → HasStates run kept → HasStates (Taken order ∷ run) kept
quiet-stand order run kept unreset unopened h = record {
  over = h.over;
  silent = h.silent;
  resets = λ id there. h.resets id there ∙ sym (ap (λ b. b || was_reset id run) (unreset id));
  owes = quiet-owed order run kept unreset unopened h.owes;
  no_stream_0 = h.no_stream_0;
}

-- the connection is no stream
pub not-0 : (id : ℕ) → is_stream id ≡ true → (id == 0) ≡ false
not-0 id is = ne_eqb id 0 (λ e. true≢false (sym is ∙ ap is_stream e))

-- an Open, of a stream that is new or not
pub open-owed : (id : ℕ) (run : List Step) (is_new : Bool) (kept left : States)
    → is_new ≡ (is_stream id && not (knows kept id))
    → ((k : ℕ) → owed_on left k ≡ owed_on kept k)
    → ((k : ℕ)
    → pays left k ≡ (if is_new && (k == id) then not (is_reset kept id) else pays kept k))
    → ((k : ℕ) → knows left k ≡ ((is_new && (k == id)) || knows kept k)) → HasResets run kept
    → HasOwed run kept → HasOwed (Taken (Open id tt) ∷ run) left
open-owed id run is_new kept left new same paid known resets owes k =
    (same k ∙ (owes k).0, paying (k == id) refl, opening (k == id) refl)
  where
    there : (zero stream opened was reset : Bool) (known : Bool) (n : Bool)
        → n ≡ (stream && not known) → (stream ≡ true → zero ≡ false) → (stream ≡ true → reset ≡ was)
        → (known ≡ true → opened ≡ true)
        → (if n && true then not reset else (zero || ((stream && opened) && not was)))
        ≡ (zero || ((stream && true) && not was))
    there zero false opened was reset known n is apart e o =
        ap (λ b. if b && true then not reset else (zero || false)) is
    there zero true opened was reset false n is apart e o =
        ap (λ b. if b && true then not reset else (zero || (opened && not was))) is
        ∙ ap not (e refl) ∙ sym (ap (λ b. b || not was) (apart refl))
    there zero true opened was reset true n is apart e o =
        ap (λ b. if b && true then not reset else (zero || (opened && not was))) is
        ∙ ap (λ b. zero || (b && not was)) (o refl)

    never : (b : Bool) → (b && false) ≡ false
    never true = refl
    never false = refl

    elsewhere : {X : Type 0} (n : Bool) (here away : X) → (if n && false then here else away) ≡ away
    elsewhere true here away = refl
    elsewhere false here away = refl

    paying : (b : Bool) → (k == id) ≡ b → pays left k ≡ may_owe k (Taken (Open id tt) ∷ run)
    paying true p =
        let P : ℕ → Type 0 = λ j. pays left j ≡ may_owe j (Taken (Open id tt) ∷ run) in
        subst P (sym (eqb-true k id p)) (
        paid id
        ∙ ap (λ b. if is_new && b then not (is_reset kept id) else pays kept id) (eq-eqb id id refl)
        ∙ ap (λ b. if is_new && true then not (is_reset kept id) else b) (owes id).1
        ∙ there (id == 0) (is_stream id) (is_opened id run) (was_reset id run) (is_reset kept id)
        (knows kept id) is_new new (not-0 id) (resets id) (owes id).2
        ∙ sym (ap
        (λ b. (id == 0) || ((is_stream id && (b || is_opened id run)) && not (was_reset id run)))
        (eq-eqb id id refl))
        )
    paying false p =
        paid k ∙ ap (λ b. if is_new && b then not (is_reset kept id) else pays kept k) p
        ∙ elsewhere is_new (not (is_reset kept id)) (pays kept k) ∙ (owes k).1
        ∙ sym
        (ap (λ b. (k == 0) || ((is_stream k && (b || is_opened k run)) && not (was_reset k run))) p)

    opening : (b : Bool) → (k == id) ≡ b → knows left k ≡ true
        → is_opened k (Taken (Open id tt) ∷ run) ≡ true
    opening true p e = ap (λ b. b || is_opened k run) p
    opening false p e =
        ap (λ b. b || is_opened k run) p
        ∙ (owes k).2 (sym (ap (λ b. b || knows kept k) (ap (λ b. is_new && b) p ∙ never is_new))
        ∙ sym (known k) ∙ e)

-- a Reset, by which nothing is owed on its stream
pub reset-owed : (id : ℕ) (code : ErrorCode) (written : Bool) (run : List Step) (kept left : States)
    → ((k : ℕ) → owed_on left k ≡ (if is_stream id && (k == id) then 0 else owed_on kept k))
    → ((k : ℕ) → pays left k ≡ (if is_stream id && (k == id) then false else pays kept k))
    → ((k : ℕ) → knows left k ≡ knows kept k) → HasOwed run kept
    → HasOwed (Taken (Reset id code written) ∷ run) left
reset-owed id code written run kept left less paid known owes k = (
  less k ∙ ap (λ n. if is_stream id && (k == id) then 0 else n) (owes k).0
      ∙ ap (λ b. if b then 0 else owed k run) (swapped (k == id) refl),
  paid k ∙ ap (λ b. if is_stream id && (k == id) then false else b) (owes k).1
      ∙ ap (λ b. if b then false else may_owe k run) (swapped (k == id) refl)
      ∙ there (k == 0) (k == id) (is_stream k) (is_opened k run) (was_reset k run) (not-0 k),
  λ e. (owes k).2 (sym (known k) ∙ e),
)
  where
    never : (b : Bool) → (b && false) ≡ false
    never true = refl
    never false = refl

    always : (b : Bool) → (b && true) ≡ b
    always true = refl
    always false = refl

    swapped : (b : Bool) → (k == id) ≡ b → (is_stream id && (k == id)) ≡ ((k == id) && is_stream k)
    swapped true p =
        ap (λ b. is_stream id && b) p ∙ always (is_stream id) ∙ ap is_stream (sym (eqb-true k id p))
        ∙ sym (ap (λ b. b && is_stream k) p)
    swapped false p =
        ap (λ b. is_stream id && b) p ∙ never (is_stream id) ∙ sym (ap (λ b. b && is_stream k) p)

    there : (zero here stream opened was : Bool) → (stream ≡ true → zero ≡ false)
        → (if here && stream then false else (zero || ((stream && opened) && not was)))
        ≡ (zero || ((stream && opened) && not (here || was)))
    there zero false stream opened was apart = refl
    there zero true false opened was apart = refl
    there zero true true opened was apart =
        sym (ap (λ b. b || (opened && false)) (apart refl) ∙ never opened)

-- what was granted is owed from then on
pub grant-owed : (id n : ℕ) (run : List Step) (kept left : States) → Grants kept id n left
    → HasOwed run kept → HasOwed (Granted id n ∷ run) left
grant-owed id n run kept left grants owes k = (
  owing (k == id) refl,
  (grants.0 k).1 ∙ (owes k).1,
  λ e. (owes k).2 (sym (grants.0 k).0 ∙ e),
)
  where
    unpaid : (state : StreamState) → is_paid state ≡ false → amount_of state ≡ 0
    unpaid (NoCall over) e = refl
    unpaid (StreamReset is_call over) e = refl
    unpaid (Call m over) e = absurd (true≢false e)

    none : (zero : Bool) (m : ℕ) (state : StreamState)
        → (if zero then true else is_paid state) ≡ false → (if zero then m else amount_of state) ≡ 0
    none true m state e = absurd (true≢false e)
    none false m state e = unpaid state e

    here : (b : Bool) → pays kept id ≡ b
        → (if b then more (owed_on kept id) n else 0)
        ≡ (if b then min (owed id run + n) MAX_WINDOW else owed id run)
    here true p = ap (λ m. more m n) (owes id).0
    here false p = sym (none (id == 0) kept.connection (state_on kept id) p) ∙ (owes id).0

    owing : (b : Bool) → (k == id) ≡ b → owed_on left k ≡ owed k (Granted id n ∷ run)
    owing true p =
        let P : ℕ → Type 0 = λ j. owed_on left j ≡ owed j (Granted id n ∷ run) in
        subst P (sym (eqb-true k id p)) (
        grants.1 id
        ∙ ap
        (λ b. if b then (if pays kept id then more (owed_on kept id) n else 0) else owed_on kept id)
        (eq-eqb id id refl)
        ∙ here (pays kept id) refl
        ∙ ap (λ b. if b then min (owed id run + n) MAX_WINDOW else owed id run) (owes id).1
        ∙ sym (ap
        (λ b. if b && may_owe id run then min (owed id run + n) MAX_WINDOW else owed id run)
        (eq-eqb id id refl))
        )
    owing false p =
        grants.1 k
        ∙ ap (λ b.
        if b then (if pays kept id then more (owed_on kept id) n else 0) else owed_on kept k) p
        ∙ (owes k).0
        ∙ sym
        (ap (λ b. if b && may_owe k run then min (owed k run + n) MAX_WINDOW else owed k run) p)

-- ---- controls

-- no end is written
pub over-kept : (run : List Step) (kept left : States) → SameOver kept left → HasOver run kept
    → HasOver run left
over-kept run kept left ends has id =
    (ap is_some (ends id) ∙ (has id).0, λ isnt. (has id).1 (λ e. isnt (ends id ∙ e)))

-- nor more or less owed
pub owed-kept : (run : List Step) (kept left : States) → SameOwed kept left → HasOwed run kept
    → HasOwed run left
owed-kept run kept left same owes k =
    (same.1 k ∙ (owes k).0, (same.0 k).1 ∙ (owes k).1, λ e. (owes k).2 (sym (same.0 k).0 ∙ e))

-- nothing changes of how the streams stand
pub stand-kept : (run : List Step) (kept left : States) → SameOver kept left → SameOwed kept left
    → HasStates run kept → HasStates run left
stand-kept run kept left over same h = record {
  over = over-kept run kept left over h.over;
  silent = λ k is. (same.0 k).2 ∙ h.silent k (sym (over k) ∙ is);
  resets = λ k there. (same.0 k).2 ∙ h.resets k there;
  owes = owed-kept run kept left same h.owes;
  no_stream_0 = over 0 ∙ h.no_stream_0;
}

-- what is kept of the open streams changes
pub stand-but-open : (run : List Step) (states : States) (opened : List (ℕ × Option OpenStream))
    → HasStates run states → HasStates run (record states { opened = opened })
stand-but-open run states opened h = record {
  over = h.over;
  silent = h.silent;
  resets = h.resets;
  owes = h.owes;
  no_stream_0 = h.no_stream_0;
}

pub mirrors-but-open : (run : List Step) (o after : Outbound) → SameButOpen o after
    → MirrorsOf run o → MirrorsOf run after
mirrors-but-open run o after e m = subst (MirrorsOf run) (sym e) (record {
  begins = m.begins;
  goes = m.goes;
  windows_follow = m.windows_follow;
  answers = m.answers;
  goes_on = m.goes_on;
  not_reset = m.not_reset;
  stand = stand-but-open run o.states after.states.opened m.stand;
})

-- how the streams stand is the same with other windows
pub stand-moved : (run : List Step) (states : States) (windows : Windows) → HasStates run states
    → HasStates run (record states { windows = windows })
stand-moved run states windows h = record {
  over = h.over;
  silent = h.silent;
  resets = h.resets;
  owes = h.owes;
  no_stream_0 = h.no_stream_0;
}

pub mirrors-moved : (run : List Step) (begun gone : Bool) (w windows : Windows) (waiting : List Due)
    (block : Option HeaderBlock) (states : States)
    → Mirrors run begun gone w waiting block states
    → Mirrors run begun gone w waiting block (record states { windows = windows })
mirrors-moved run begun gone w windows waiting block states m = record {
  begins = m.begins;
  goes = m.goes;
  windows_follow = m.windows_follow;
  answers = m.answers;
  goes_on = m.goes_on;
  not_reset = m.not_reset;
  stand = stand-moved run states windows m.stand;
}

pub mirrors-rest : (run : List Step) (begun gone : Bool) (w : Windows) (waiting : List Due)
    (block : Option HeaderBlock) (old new : States)
    → SameButWindows old new
    → Mirrors run begun gone w waiting block old → Mirrors run begun gone w waiting block new
mirrors-rest run begun gone w waiting block old new same m =
    subst (Mirrors run begun gone w waiting block) (sym same)
    (mirrors-moved run begun gone w new.windows waiting block old m)

-- a history of the windows is one of others
pub windows-still : (run : List Step) (begun gone : Bool) (w windows : Windows) (waiting : List Due)
    (block : Option HeaderBlock) (states : States)
    → ((history : List WindowStep) → Follows history w → Follows history windows)
    → Mirrors run begun gone w waiting block states
    → Mirrors run begun gone windows waiting block states
windows-still run begun gone w windows waiting block states moves m = record {
  begins = m.begins;
  goes = m.goes;
  windows_follow =
      (m.windows_follow.0, m.windows_follow.1, moves m.windows_follow.0 m.windows_follow.2);
  answers = m.answers;
  goes_on = m.goes_on;
  not_reset = m.not_reset;
  stand = m.stand;
}

-- what is kept of the open streams changes
pub but-open : (o : Outbound) (states : States) → StandAs o.states states
    → SameButOpen o (record o { states = states })
but-open o states stands = ap (λ (x : States). record o { states = x }) stands

-- a Refuse
pub refuse-led : (id : ℕ) (fields : List Field) (run : List Step) (begun gone : Bool) (w : Windows)
    (waiting after : List Due) (block : Option HeaderBlock) (kept left : States)
    → SameOver kept left → SameOwed kept left → HasDue (Taken (Refuse id fields) ∷ run) after
    → Mirrors run begun gone w waiting block kept
    → Mirrors (Taken (Refuse id fields) ∷ run) begun gone w after block left
refuse-led id fields run begun gone w waiting after block kept left over same dues m = record {
  begins = m.begins;
  goes = m.goes;
  windows_follow = nothing-taken run (Refuse id fields) w (λ h. refl) m.windows_follow;
  answers = dues;
  goes_on = same-block run (Taken (Refuse id fields) ∷ run) block refl m.goes_on;
  not_reset = m.not_reset;
  stand =
      quiet-stand (Refuse id fields) run left (λ k. refl) (λ k. refl)
      (stand-kept run kept left over same m.stand);
}

-- an Open, which leaves what is owed, and what was reset
pub open-led : (id : ℕ) (run : List Step) (begun gone : Bool) (w windows : Windows)
    (waiting : List Due) (block : Option HeaderBlock)
    (is_new : Bool) (kept left : States) → is_new ≡ (is_stream id && not (knows kept id))
    → ((k : ℕ) → owed_on left k ≡ owed_on kept k)
    → ((k : ℕ)
    → pays left k ≡ (if is_new && (k == id) then not (is_reset kept id) else pays kept k))
    → ((k : ℕ) → knows left k ≡ ((is_new && (k == id)) || knows kept k))
    → ((k : ℕ) → is_reset left k ≡ is_reset kept k)
    → SameOver kept left → HasWindows (Taken (Open id tt) ∷ run) windows
    → Mirrors run begun gone w waiting block kept
    → Mirrors (Taken (Open id tt) ∷ run) begun gone windows waiting block left
open-led id run begun gone w windows waiting block is_new kept left new same paid known marks ends
    follow m = record {
      begins = m.begins;
      goes = m.goes;
      windows_follow = follow;
      answers = same-due (Open id tt) run waiting refl m.answers;
      goes_on = same-block run (Taken (Open id tt) ∷ run) block refl m.goes_on;
      not_reset = m.not_reset;
      stand = record {
        over = over-kept run kept left ends m.stand.over;
        silent = λ k is. marks k ∙ m.stand.silent k (sym (ends k) ∙ is);
        resets = λ k there. marks k ∙ m.stand.resets k there;
        owes = open-owed id run is_new kept left new same paid known m.stand.resets m.stand.owes;
        no_stream_0 = ends 0 ∙ m.stand.no_stream_0;
      };
    }

-- a Reset, after which nothing is owed on its stream
pub reset-led : (id : ℕ) (code : ErrorCode) (written : Bool) (run : List Step) (begun gone : Bool)
    (w windows : Windows) (waiting after : List Due)
    (block : Option HeaderBlock) (kept left : States)
    → ((k : ℕ) → owed_on left k ≡ (if is_stream id && (k == id) then 0 else owed_on kept k))
    → ((k : ℕ) → pays left k ≡ (if is_stream id && (k == id) then false else pays kept k))
    → ((k : ℕ) → knows left k ≡ knows kept k)
    → ((k : ℕ) → is_reset left k ≡ ((is_stream id && (k == id)) || is_reset kept k))
    → SameOver kept left
    → HasWindows (Taken (Reset id code written) ∷ run) windows
    → HasDue (Taken (Reset id code written) ∷ run) after
    → Mirrors run begun gone w waiting block kept
    → Mirrors (Taken (Reset id code written) ∷ run) begun gone windows after block left
reset-led id code written run begun gone w windows waiting after block kept left less paid known
    marks ends follow dues m = record {
      begins = m.begins;
      goes = m.goes;
      windows_follow = follow;
      answers = dues;
      goes_on = same-block run (Taken (Reset id code written) ∷ run) block refl m.goes_on;
      not_reset = m.not_reset;
      stand = record {
        over = over-kept run kept left ends m.stand.over;
        silent = λ k is.
            marks k
            ∙ or-true (is_stream id && (k == id)) (is_reset kept k)
            (m.stand.silent k (sym (ends k) ∙ is));
        resets = λ k there. resets k there (k == id) refl;
        owes = reset-owed id code written run kept left less paid known m.stand.owes;
        no_stream_0 = ends 0 ∙ m.stand.no_stream_0;
      };
    }
  where
    none : (b : Bool) (k : ℕ) → ((b && false) || is_reset kept k) ≡ is_reset kept k
    none true k = refl
    none false k = refl

    resets : (k : ℕ) → is_stream k ≡ true → (b : Bool) → (k == id) ≡ b
        → is_reset left k ≡ was_reset k (Taken (Reset id code written) ∷ run)
    resets k there true p =
        marks k
        ∙ ap (λ b. (b && (k == id)) || is_reset kept k)
        (ap is_stream (sym (eqb-true k id p)) ∙ there)
        ∙ ap (λ b. b || is_reset kept k) p
        ∙ sym (ap (λ b. b || was_reset k run) p)
    resets k there false p =
        marks k ∙ ap (λ b. (is_stream id && b) || is_reset kept k) p ∙ none (is_stream id) k
        ∙ m.stand.resets k there ∙ sym (ap (λ b. b || was_reset k run) p)

-- credit is granted
pub grant-led : (id n : ℕ) (run : List Step) (begun gone : Bool) (w : Windows) (waiting : List Due)
    (block : Option HeaderBlock)
    (kept left : States) → Grants kept id n left → SameEnds kept left
    → Mirrors run begun gone w waiting block kept
    → Mirrors (Granted id n ∷ run) begun gone w waiting block left
grant-led id n run begun gone w waiting block kept left grants ends m = record {
  begins = m.begins;
  goes = m.goes;
  windows_follow = m.windows_follow;
  answers = m.answers;
  goes_on = same-block run (Granted id n ∷ run) block refl m.goes_on;
  not_reset = m.not_reset;
  stand = record {
    over = over-kept run kept left (λ k. (ends k).0) m.stand.over;
    silent = λ k is. (grants.0 k).2 ∙ m.stand.silent k (sym (ends k).0 ∙ is);
    resets = λ k there. (grants.0 k).2 ∙ m.stand.resets k there;
    owes = grant-owed id n run kept left grants m.stand.owes;
    no_stream_0 = (ends 0).0 ∙ m.stand.no_stream_0;
  };
}

-- a control that obliges to nothing, opens and resets nothing, and concerns no window
pub quiet-led : (order : Order) (o : Outbound) → due_by order ≡ []
    → ((id : ℕ) → resets_stream id order ≡ false) → ((id : ℕ) → opens_stream id order ≡ false)
    → ((run : List Step) (history : List WindowStep) → Takes run history order history)
    → MirrorsOn (Taken order) o o
quiet-led order o none unreset unopened same run m =
    taken order run _ _ _ _ _ _ _ _ m
    (nothing-taken run order o.states.windows (same run) m.windows_follow)
    (same-due order run o.due.items none m.answers)
    (quiet-stand order run o.states unreset unopened m.stand)

-- what was due and obliges to nothing isn't due any more
pub skipped : (run : List Step) (begun gone : Bool) (w : Windows) (one : Due) (waiting : List Due)
    (block : Option HeaderBlock)
    (owed : States) → duties_of one ≡ [] → Mirrors run begun gone w (one ∷ waiting) block owed
    → Mirrors run begun gone w waiting block owed
skipped run begun gone w one waiting block owed none m =
    let P : ℕ × ErrorCode → Type 0 = λ reset. IsAsked reset.0 reset.1 run in record {
      begins = m.begins;
      goes = m.goes;
      windows_follow = m.windows_follow;
      answers = (
        m.answers.0
            ∙ ap (λ (duties : List Frame). told run ++ (duties ++ flat_map duties_of waiting)) none,
        all-behind P (resets_of one) (flat_map resets_of waiting) m.answers.1,
      );
      goes_on = m.goes_on;
      not_reset = m.not_reset;
      stand = m.stand;
    }
