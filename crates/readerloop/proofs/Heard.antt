-- What was heard, one after another.
use Rattle.reasons.specs.declared.Reason.{Reason}
use Rattle.std.proofs.Common.{◌≡◌, ◌≢◌, ℕ, Option, None, Some, refl, subst, sym}
use Rattle.readerloop.specs.Steps.{
  Fate,
  Plain,
  Admitted,
  Unserved,
  Unknown,
  TurnedAway,
  Received,
  Missed,
  Lacking,
  Told,
  Drains,
  Lacks,
  admitted_by,
  reported_by,
}
use Rattle.std.specs.Prelude.{IfErr, IfSome, IsSomeAnd, OnErr, OnOk, Result, Ok, Err}
use Rattle.callhead.specs.declared.head.CallHead.{CallHead}
use Rattle.callhead.specs.declared.fault.HeadFault.{HeadFault}
use Rattle.session.specs.declared.event.PeerControl.{PeerControl}
use Rattle.session.specs.declared.event.InEvent.TheVariants as events
use Rattle.readerloop.specs.Concerns.{IsIdle}

-- ---- events that touch no call

served-not : (id : ℕ) (head : CallHead) (fate : Fate)
    → reported_by (Told (events.Open id head) fate) ≡ None
    → admitted_by (Told (events.Open id head) fate) ≡ None
served-not id head Plain none = refl
served-not id head Admitted none = none
served-not id head (Unserved why) none = refl
served-not id head Unknown none = refl
served-not id head (TurnedAway fault) none = refl
served-not id head (Received receipt) none = refl
served-not id head Missed none = refl
served-not id head Lacking none = refl

pub idle-open : (id : ℕ) (head : CallHead) (fate : Fate)
    → reported_by (Told (events.Open id head) fate) ≡ None
    → IsIdle (Told (events.Open id head) fate)
idle-open id head fate none = record {
  admits = served-not id head fate none;
  reports = none;
  closes = λ other. refl;
  feeds = λ other. refl;
}

pub idle-loose : (counted : ℕ) (fate : Fate) → IsIdle (Told (events.Loose counted) fate)
idle-loose counted fate =
    record { admits = refl; reports = refl; closes = λ other. refl; feeds = λ other. refl }

pub idle-head : (id : ℕ) (fault : HeadFault) (fate : Fate)
    → IsIdle (Told (events.BadHead id fault) fate)
idle-head id fault fate =
    record { admits = refl; reports = refl; closes = λ other. refl; feeds = λ other. refl }

pub idle-control : (control : PeerControl) → IsIdle (Told (events.Control control) Plain)
idle-control control =
    record { admits = refl; reports = refl; closes = λ other. refl; feeds = λ other. refl }

pub idle-goaway : IsIdle (Told events.PeerGoaway Plain)
idle-goaway =
    record { admits = refl; reports = refl; closes = λ other. refl; feeds = λ other. refl }

pub idle-fatal : (cause : Reason) → IsIdle (Told (events.Fatal cause) Plain)
idle-fatal cause =
    record { admits = refl; reports = refl; closes = λ other. refl; feeds = λ other. refl }

pub idle-lacks : IsIdle Lacks
idle-lacks = record { admits = refl; reports = refl; closes = λ other. refl; feeds = λ other. refl }

pub idle-drains : IsIdle Drains
idle-drains =
    record { admits = refl; reports = refl; closes = λ other. refl; feeds = λ other. refl }

-- ---- answers

pub ok-any : {A E : Type 0} (result : Result A E) (P : Type 0) → P → OnOk result P
ok-any (Ok value) P p = p
ok-any (Err fault) P p = tt

pub err-any : {A E : Type 0} (result : Result A E) (P : Type 0) → P → OnErr result P
err-any (Ok value) P p = tt
err-any (Err fault) P p = p

pub some-not-none : {A E : Type 0} (result : Result (Option A) E) (found : Option A) (value : A)
    → result ≡ Ok found → found ≡ Some value → result ≢ Ok None
some-not-none (Err fault) found value is some same = cc
some-not-none (Ok None) found value is some same = cc
some-not-none (Ok (Some other)) found value is some same = cc

pub err-not-none : {A E : Type 0} (result : Result (Option A) E) (fault : E) → result ≡ Err fault
    → result ≢ Ok None
err-not-none (Ok found) fault is same = cc
err-not-none (Err other) fault is same = cc

pub ok-is : {A E : Type 0} (result : Result A E) (value : A) (P : Type 0) → result ≡ Ok value
    → OnOk result P → P
ok-is (Ok other) value P is p = p
ok-is (Err fault) value P is p = absurd cc

pub err-is : {A E : Type 0} (result : Result A E) (fault : E) (P : Type 0) → result ≡ Err fault
    → OnErr result P → P
err-is (Ok value) fault P is p = absurd cc
err-is (Err other) fault P is p = p

pub fault-is : {A E : Type 0} (result : Result A E) (fault : E) (P : E → Type 0)
    → result ≡ Err fault → IfErr result P → P fault
fault-is (Ok value) fault P is p = absurd cc
fault-is {A} {E} (Err other) fault P is p = let same : other ≡ fault = cc in subst P same p

pub not-ok : {A E : Type 0} (result : Result A E) (P : Type 0)
    → ((value : A) → result ≡ Ok value → ⊥) → OnErr result P → P
not-ok (Ok value) P other p = absurd (other value refl)
not-ok (Err fault) P other p = p

pub not-err : {A E : Type 0} (result : Result A E) (P : Type 0)
    → ((fault : E) → result ≡ Err fault → ⊥) → OnOk result P → P
not-err (Ok value) P other p = p
not-err (Err fault) P other p = absurd (other fault refl)

pub ok-map : {A E P Q : Type 0} (result : Result A E) → (P → Q) → OnOk result P → OnOk result Q
ok-map (Ok value) follows p = follows p
ok-map (Err fault) follows p = tt

pub err-map : {A E P Q : Type 0} (result : Result A E) → (P → Q) → OnErr result P → OnErr result Q
err-map (Ok value) follows p = tt
err-map (Err fault) follows p = follows p

pub some-map : {A : Type 0} (found : Option A) (P Q : A → Type 0)
    → ((value : A) → P value → Q value) → IfSome found P → IfSome found Q
some-map None P Q follows p = tt
some-map (Some value) P Q follows p = follows value p

pub some-and : {A : Type 0} (found : Option A) (value : A) (P : A → Type 0) → found ≡ Some value
    → P value → IsSomeAnd found P
some-and {A} found value P is p = subst (λ (o : Option A). IsSomeAnd o P) (sym is) p
