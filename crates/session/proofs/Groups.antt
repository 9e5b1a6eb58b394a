-- Groups of frames one after another, and their events.
use Rattle.std.proofs.Common.{
  ◌≡◌,
  ℕ,
  zero,
  suc,
  ◌-◌,
  Bool,
  true,
  false,
  List,
  [],
  ◌∷◌,
  ◌++◌,
  length,
  refl,
  sym,
  ap,
  subst,
  ◌∙◌,
  append_assoc,
  arith,
}
use Rattle.std.specs.Prelude.{Some, flat_map, slice_get, ◌||◌}
use Rattle.std.specs.List.{list_any}
use Rattle.std.proofs.lemmas.List.{append-nil, flat_map_more, length-append}
use Rattle.std.proofs.lemmas.List.Folds.{list_any-append}
use Rattle.h2frame.specs.FrameList.{Entry}
use Rattle.reasons.specs.declared.Reason.{Reason}
use Rattle.session.specs.declared.event.InEvent.{InEvent}
use Rattle.session.specs.declared.event.InEvent.TheVariants.{Fatal}
use Rattle.session.specs.Frames.{fatal}
use Rattle.session.specs.Events.{
  Situation,
  start,
  Group,
  entries_of,
  GroupGives,
  is_fatal,
  IsCalm,
  Runs,
  Opens,
  Passes,
}
use Rattle.session.specs.CoreStates.{IsSettled, ends_at}

-- ---- calm events

or_false : (a b : Bool) → (a || b) ≡ false → (a ≡ false) × (b ≡ false)
or_false true b e = absurd cc
or_false false b e = (refl, e)

pub calm_parts : (xs ys : List InEvent) → IsCalm (xs ++ ys) → IsCalm xs × IsCalm ys
calm_parts xs ys calm =
    or_false (list_any is_fatal xs) (list_any is_fatal ys)
    (sym (list_any-append is_fatal xs ys) ∙ calm)

pub calm_join : (xs ys : List InEvent) → IsCalm xs → IsCalm ys → IsCalm (xs ++ ys)
calm_join xs ys c d = list_any-append is_fatal xs ys ∙ rw (c, d) refl

pub calm_runs : (old new : Situation) (groups : List Group) (given : List InEvent)
    → Runs old groups given new → IsCalm given
calm_runs old new [] given (e, same) = rw e refl
calm_runs old new (group ∷ groups) given (first, others, next, gives, calm, runs, e) =
    rw e (calm_join first others calm (calm_runs next new groups others runs))

-- ---- the last event

calm_at : (xs : List InEvent) (i : ℕ) → IsCalm xs → ends_at (slice_get xs i) ≡ false
calm_at [] i calm = refl
calm_at (x ∷ xs) zero calm = (or_false (is_fatal x) (list_any is_fatal xs) calm).0
calm_at (x ∷ xs) (suc i) calm = calm_at xs i (or_false (is_fatal x) (list_any is_fatal xs) calm).1

pub calm_goes_on : (given : List InEvent) → IsCalm given
    → ends_at (slice_get given (length given - 1)) ≡ false
calm_goes_on given calm = calm_at given (length given - 1) calm

last_at : (xs : List InEvent) (x : InEvent) → slice_get (xs ++ x ∷ []) (length xs) ≡ Some x
last_at [] x = refl
last_at (y ∷ ys) x = last_at ys x

pub fatal_ends : (xs : List InEvent) (error : Reason)
    → ends_at (slice_get (xs ++ fatal error) (length (xs ++ fatal error) - 1)) ≡ true
fatal_ends xs error =
    let n : length (xs ++ fatal error) - 1 ≡ length xs =
    omega (arith, length-append xs (fatal error)) in
    ap (λ (i : ℕ). ends_at (slice_get (xs ++ fatal error) i)) n
    ∙ ap ends_at (last_at xs (Fatal error))

-- ---- one more group

pub runs_more : (old mid new : Situation) (groups : List Group) (group : Group)
    (given more : List InEvent)
    → Runs old groups given mid → GroupGives mid group more new → IsCalm more
    → Runs old (groups ++ group ∷ []) (given ++ more) new
runs_more old mid new [] group given more (e, same) gives calm = (
  more,
  [],
  new,
  subst (λ (s : Situation). GroupGives s group more new) same gives,
  calm,
  (refl, refl),
  ap (λ (es : List InEvent). es ++ more) e ∙ sym (append-nil more),
)
runs_more old mid new (first ∷ groups) group given more
    (start_of, others, next, first_gives, first_calm, runs, e) gives calm = (
      start_of,
      others ++ more,
      next,
      first_gives,
      first_calm,
      runs_more next mid new groups group others more runs gives calm,
      ap (λ (es : List InEvent). es ++ more) e ∙ append_assoc start_of others more,
    )

pub passes_more : (entries behind : List Entry) (given more : List InEvent)
    (now next : Situation) (group : Group)
    → Passes entries behind given now → behind ≡ entries_of group → GroupGives now group more next
    → IsCalm more → Passes entries [] (given ++ more) next
passes_more entries behind given more now next group so e gives calm =
    record {
      groups = so.groups ++ group ∷ [];
      parts = so.parts ∙ ap (λ (es : List Entry). flat_map entries_of so.groups ++ es) e
          ∙ flat_map_more entries_of [] so.groups group
          ∙ sym (append-nil (flat_map entries_of (so.groups ++ group ∷ [])));
      opens = so.opens;
      runs = runs_more start now next so.groups group given more so.runs gives calm;
    }

-- ---- more entries behind the groups

pub passes_longer : (entries behind more : List Entry) (given : List InEvent) (now : Situation)
    → Passes entries behind given now → Opens (entries ++ more)
    → Passes (entries ++ more) (behind ++ more) given now
passes_longer entries behind more given now so opens =
    record {
      groups = so.groups;
      parts =
          ap (λ (es : List Entry). es ++ more) so.parts
          ∙ append_assoc (flat_map entries_of so.groups) behind more;
      opens = opens;
      runs = so.runs;
    }

pub settled_opens : (entries : List Entry) → IsSettled entries → Opens entries
settled_opens [] settled = absurd settled
settled_opens (entry ∷ entries) settled = settled

pub settled_longer : (entries more : List Entry) → IsSettled entries → IsSettled (entries ++ more)
settled_longer [] more settled = absurd settled
settled_longer (entry ∷ entries) more settled = settled

pub passes_none : Passes [] [] [] start
passes_none = record { groups = []; parts = refl; opens = tt; runs = (refl, refl) }
