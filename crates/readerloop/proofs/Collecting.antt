-- What came back to the reading side, and which calls may be admitted next.
use mathlib.Core.List.{IsPrefix}
use Rattle.std.proofs.Common.{
  ◌≡◌,
  ◌∙◌,
  ℕ,
  ◌<◌,
  Bool,
  true,
  false,
  List,
  [],
  ◌∷◌,
  ◌++◌,
  ap,
  subst,
  sym,
}
use Rattle.std.specs.Prelude.{All}
use Rattle.std.proofs.lemmas.List.{append-nil, append_assoc}
use Rattle.std.proofs.lemmas.List.Elements.{All-cons, All-head, All-nil, All-tail}
use Rattle.callparts.specs.Blocks.{has_room, items_of}
use Rattle.callparts.specs.declared.accounts.Accounts.{Accounts}
use Rattle.callparts.specs.declared.order.ReturningCall.{ReturningCall}
use Rattle.callparts.specs.declared.register.Naming.{Ghosts}
use Rattle.handlers.specs.declared.step.MethodStep.{MethodStep as Answer}
use Rattle.lane.specs.Ring.{out_name, taken}
use Rattle.readerloop.specs.declared.calls.Calls.{Calls}
use Rattle.readerloop.specs.declared.reading.Reading.{Reading}
use Rattle.readerloop.specs.Calls.{HasReturned, SentItems, carried_in}
use Rattle.readerloop.specs.Readings.{CollectsTo, HasCollected, KeepsNext}
use Rattle.readerloop.proofs.ReadingSteps.{reads-same}

module _ {X : Type 0} (P : X → Type 0) where
  all-left : (xs ys : List X) → All P (xs ++ ys) → All P xs
  all-left [] ys h = All-nil P
  all-left (x ∷ xs) ys h =
      All-cons P x xs (All-head P x (xs ++ ys) h) (all-left xs ys (All-tail P x (xs ++ ys) h))

  all-right : (xs ys : List X) → All P (xs ++ ys) → All P ys
  all-right [] ys h = h
  all-right (x ∷ xs) ys h = all-right xs ys (All-tail P x (xs ++ ys) h)

-- what was taken before the two ends of the way home met begins what was put
pub met-home : {X : Type 0} (was now more put given : List X) → now ≡ was → now ++ more ≡ put
    → put ≡ given → IsPrefix was given
met-home {X = X} was now more put given same all puts =
    (more, ap (λ (items : List X). items ++ more) (sym same) ∙ (all ∙ puts))

-- as many accounts find room as before
pub same-room : (old new : Accounts) → new ≡ old
    → has_room new.count new.last ≡ has_room old.count old.last
same-room old new same = ap (λ (accounts : Accounts). has_room accounts.count accounts.last) same

-- and they are the same
pub same-items : (old new : Accounts) → new ≡ old
    → items_of new.full new.last ≡ items_of old.full old.last
same-items old new same = ap (λ (accounts : Accounts). items_of accounts.full accounts.last) same

module _ {J M : Type 0} {book : Ghosts J} where
  pub keeps-next : (old new : Reading J M book) → new.calls.last ≡ old.calls.last
      → has_room new.calls.accounts.count new.calls.accounts.last
      ≡ has_room old.calls.accounts.count old.calls.accounts.last
      → new.is_draining ≡ old.is_draining → KeepsNext old new
  keeps-next old new last room draining id next =
      (subst (λ (n : ℕ). n < id) (sym last) next.0, room ∙ next.1, draining ∙ next.2)

module _ {J : Type 0} {book : Ghosts J} where
  -- a call that was next is so still
  pub next-calls : (old new : Calls J book) (draining : Bool) → new.last ≡ old.last
      → has_room new.accounts.count new.accounts.last
      ≡ has_room old.accounts.count old.accounts.last
      → (id : ℕ)
      → (old.last < id) × (has_room old.accounts.count old.accounts.last ≡ true)
      × (draining ≡ false)
      → (new.last < id) × (has_room new.accounts.count new.accounts.last ≡ true)
      × (draining ≡ false)
  next-calls old new draining last room id next =
      (subst (λ (n : ℕ). n < id) (sym last) next.0, room ∙ next.1, next.2)

  -- what is carried of one
  pub carried-one : (sent : List SentItems) (returning : ReturningCall J book)
      → All (λ (r : ReturningCall J book).
      HasReturned (carried_in sent) r.sending.value) (returning ∷ [])
      → HasReturned (carried_in sent) returning.sending.value
  carried-one sent returning all =
      All-head (λ (r : ReturningCall J book).
      HasReturned (carried_in sent) r.sending.value) returning [] all

module _ {J M : Type 0} {book : Ghosts J} {known : ℕ → List (List ℕ) → Bool → Answer → Type 0}
    {names : List ℕ → ℕ → Type 0} where
  -- nothing came back
  pub collected-none : (old new : Reading J M book) → taken new.home ≡ taken old.home
      → out_name new.home ≡ out_name old.home → new.calls ≡ old.calls
      → new.is_draining ≡ old.is_draining → new.last ≡ old.last → new.begun ≡ old.begun
      → new.peer_goaway ≡ old.peer_goaway
      → HasCollected known names old new
  collected-none old new home name calls draining last begun goaway = record {
    more = [];
    took = home ∙ sym (append-nil (taken old.home));
    name = name;
    keeps = λ sent all told kept. rw calls kept;
    accounts = ap (λ (some : Calls J book). some.accounts) calls;
    above = ap (λ (some : Calls J book). some.last) calls;
    draining = draining;
    last = last;
    begun = begun;
    goaway = goaway;
  }

  -- first some, then others
  pub collected-after : (old now new : Reading J M book) → HasCollected known names old now
      → HasCollected known names now new → HasCollected known names old new
  collected-after old now new first then = record {
    more = first.more ++ then.more;
    took =
        then.took
        ∙ (ap (λ (items : List (ReturningCall J book)). items ++ then.more) first.took
        ∙ append_assoc (taken old.home) first.more then.more);
    name = then.name ∙ first.name;
    keeps = λ sent all told kept.
        let P = λ (returning : ReturningCall J book).
        HasReturned (carried_in sent) returning.sending.value in
        then.keeps sent (all-right P first.more then.more all) told
        (first.keeps sent (all-left P first.more then.more all) told kept);
    accounts = then.accounts ∙ first.accounts;
    above = then.above ∙ first.above;
    draining = then.draining ∙ first.draining;
    last = then.last ∙ first.last;
    begun = then.begun ∙ first.begun;
    goaway = then.goaway ∙ first.goaway;
  }

  pub collects : (old new : Reading J M book) → HasCollected known names old new
      → CollectsTo known names old new
  collects old new came = (
    came.more,
    came.took,
    λ sent told all reads.
        reads-same told old new came.draining came.last came.begun came.goaway
        (came.keeps sent all told) reads,
  )

  pub collected-next : (old new : Reading J M book) → HasCollected known names old new
      → KeepsNext old new
  collected-next old new came =
      keeps-next old new came.above
      (same-room old.calls.accounts new.calls.accounts came.accounts) came.draining
