-- Which call a step concerns, and how it shuts its half.
use Rattle.std.proofs.Common.{
  ◌≡◌,
  ◌≢◌,
  ◌∙◌,
  ℕ,
  Bool,
  List,
  [],
  ◌∷◌,
  None,
  Some,
  arith,
  eq-eqb,
  length,
  nat_eq,
  refl,
  sym,
  true,
  false,
}
use Rattle.std.specs.Prelude.{◌==◌, if◌then◌else◌, Result, Ok, Err, OnErr}
use Rattle.std.proofs.lemmas.Bool.{eqb-true}
use Rattle.account.specs.declared.call.Shut.TheVariants as shut
use Rattle.connbook.specs.declared.answers.Receipt.TheVariants.{Discard}
use Rattle.h2frame.specs.declared.error_code.ErrorCode.{ErrorCode}
use Rattle.h2frame.specs.declared.error_code.ErrorCode.TheVariants.{Cancel}
use Rattle.h2frame.specs.ErrorCode.{error_number}
use Rattle.session.specs.declared.event.InEvent.TheVariants as events
use Rattle.readerloop.specs.Concerns.{Concerns, IsIdle}
use Rattle.readerloop.specs.Steps.{
  CutOff,
  Fate,
  Misses,
  Plain,
  Received,
  ShutAs,
  Told,
  closing_at,
  fails_as,
  lost,
  missed,
}

same_number : (id : ℕ) → nat_eq id id ≡ true
same_number id = eq-eqb id id refl

-- ---- which call

pub concerns-data : (id counted : ℕ) (piece : List ℕ) (fate : Fate)
    → Concerns id (Told (events.Data id piece counted) fate)
concerns-data id counted piece fate = record {
  admits = refl;
  reports = refl;
  drains = refl;
  closes = λ other apart. rw apart refl;
  feeds = λ other apart. rw apart refl;
}

pub concerns-end : (id : ℕ) → Concerns id (Told (events.End id) Plain)
concerns-end id = record {
  admits = refl;
  reports = refl;
  drains = refl;
  closes = λ other apart. rw apart refl;
  feeds = λ other apart. refl;
}

pub concerns-reset : (id : ℕ) (code : ErrorCode) → Concerns id (Told (events.Reset id code) Plain)
concerns-reset id code = record {
  admits = refl;
  reports = refl;
  drains = refl;
  closes = λ other apart. rw apart refl;
  feeds = λ other apart. refl;
}

pub concerns-error : (id : ℕ) (code : ErrorCode)
    → Concerns id (Told (events.StreamError id code) Plain)
concerns-error id code = record {
  admits = refl;
  reports = refl;
  drains = refl;
  closes = λ other apart. rw apart refl;
  feeds = λ other apart. refl;
}

pub concerns-cut : (id : ℕ) → Concerns id (CutOff id)
concerns-cut id = record {
  admits = refl;
  reports = refl;
  drains = refl;
  closes = λ other apart. rw apart refl;
  feeds = λ other apart. refl;
}

-- ---- how

pub closes-end : (id : ℕ) → closing_at id (Told (events.End id) Plain) ≡ Some (ShutAs shut.End)
closes-end id = rw (same_number id) refl

pub closes-reset : (id number : ℕ) (code : ErrorCode) → number ≡ error_number code
    → closing_at id (Told (events.Reset id code) Plain) ≡ Some (ShutAs (shut.Reset number))
closes-reset id number code is = rw (same_number id, is) refl

pub closes-error : (id number : ℕ) (code : ErrorCode) → number ≡ error_number code
    → closing_at id (Told (events.StreamError id code) Plain) ≡ Some (ShutAs (shut.Reset number))
closes-error id number code is = rw (same_number id, is) refl

pub closes-cut : (id number : ℕ) → number ≡ error_number Cancel
    → closing_at id (CutOff id) ≡ Some (ShutAs (shut.Reset number))
closes-cut id number is = rw (same_number id, is) refl

-- by a piece that isn't fed
pub closes-lost : (id counted number : ℕ) (piece : List ℕ) (fate : Fate) (code : ErrorCode)
    → lost piece fate ≡ Some (fails_as code) → number ≡ error_number code
    → closing_at id (Told (events.Data id piece counted) fate) ≡ Some (ShutAs (shut.Reset number))
closes-lost id counted number piece fate code lets is = rw (same_number id, is) lets

missed-some : (piece : List ℕ) → piece ≢ [] → missed piece ≡ Some Misses
missed-some [] some = absurd (some refl)
missed-some (byte ∷ bytes) some = refl

pub closes-missed : (id counted : ℕ) (piece : List ℕ) → piece ≢ []
    → closing_at id (Told (events.Data id piece counted) (Received Discard)) ≡ Some Misses
closes-missed id counted piece some = rw (same_number id) (missed-some piece some)

-- ---- pieces without a byte

pub empty-of : (is_empty : Bool) (piece : List ℕ) → is_empty ≡ (length piece == 0)
    → is_empty ≡ true → piece ≡ []
empty-of is_empty [] tells empty = refl
empty-of is_empty (byte ∷ bytes) tells empty =
    let none = eqb-true (length (byte ∷ bytes)) 0 (sym tells ∙ empty) in
    absurd (omega (arith, none))

pub some-of : (is_empty : Bool) (piece : List ℕ) → is_empty ≡ (length piece == 0)
    → is_empty ≡ false → piece ≢ []
some-of is_empty [] tells full e = cc
some-of is_empty (byte ∷ bytes) tells full e = cc

same-both : {A : Type 0} (test : Bool) (x : A) → (if test then x else x) ≡ x
same-both true x = refl
same-both false x = refl

pub idle-discard : (id counted : ℕ) (piece : List ℕ) → piece ≡ []
    → IsIdle (Told (events.Data id piece counted) (Received Discard))
idle-discard id counted piece none = record {
  admits = refl;
  reports = refl;
  closes = λ other. rw none (same-both (nat_eq other id) None);
  feeds = λ other. rw none (same-both (nat_eq other id) []);
}

pub on-err : {A E : Type 0} (found : Result A E) (P : Type 0) → P → OnErr found P
on-err (Ok value) P p = tt
on-err (Err fault) P p = p
