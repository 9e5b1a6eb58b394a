-- Both ends of a `RingLane` in one place.
use Rattle.std.proofs.Common.{◌≡◌, List, ◌++◌, sym, ap, ◌∙◌, append_assoc, Option, None}
use mathlib.Core.List.{IsPrefix}
use Rattle.lane.specs.Steps.{pieces, ahead_of}
use Rattle.lane.specs.Linked.{of_second}
use Rattle.lane.specs.RingLane.{ahead_at}
use Rattle.lane.specs.Second.{put_in, got, ahead}
use Rattle.lane.specs.declared.ring_lane.second.SecondIn.{SecondIn}
use Rattle.lane.specs.declared.ring_lane.second.SecondOut.{SecondOut}
use Rattle.lane.specs.declared.ring_lane.step.RingStep.{RingStep}
use Rattle.lane.proofs.StepLemmas.{ahead_first}
use Rattle.lane.proofs.LinkLemmas.{first_alone}

module _ {T : Type 0} where
  -- there is no second ring
  pub all_before : (taken taken' here put put' : List (RingStep T)) (out : Option (SecondOut T))
      (next : Option (SecondIn T))
      → out ≡ None → next ≡ None → taken' ≡ taken → put' ≡ put
      → pieces taken ++ ahead_of here ≡ pieces put
      → (pieces taken' ++ of_second got out) ++ ahead_at out here
      ≡ pieces put' ++ of_second put_in next
  all_before taken taken' here put put' out next no_out no_next same_taken same_put items =
      ap (λ us. us ++ ahead_at out here) (first_alone got (pieces taken') out no_out
      ∙ ap (λ (us : List (RingStep T)). pieces us) same_taken)
      ∙ (ap (λ us. pieces taken ++ us) (ahead_first out here no_out)
      ∙ (items
      ∙ (ap (λ (us : List (RingStep T)). pieces us) (sym same_put)
      ∙ sym (first_alone put_in (pieces put') next no_next))))

  -- the way on waits after other items
  pub begins_before : (taken taken' here put put' : List (RingStep T)) (out : Option (SecondOut T))
      (next : Option (SecondIn T))
      → out ≡ None → taken' ≡ taken → put' ≡ put
      → pieces taken ++ ahead_of here ≡ pieces put
      → IsPrefix ((pieces taken' ++ of_second got out) ++ ahead_at out here)
      (pieces put' ++ of_second put_in next)
  begins_before taken taken' here put put' out next no_out same_taken same_put items = (
    of_second put_in next,
    ap (λ us. (us ++ ahead_at out here) ++ of_second put_in next)
        (first_alone got (pieces taken') out no_out
        ∙ ap (λ (us : List (RingStep T)). pieces us) same_taken)
        ∙ (ap (λ us. (pieces taken ++ us) ++ of_second put_in next) (ahead_first out here no_out)
        ∙ (ap (λ us. us ++ of_second put_in next)
        (items ∙ ap (λ (us : List (RingStep T)). pieces us) (sym same_put)))),
  )

  -- both are at the second ring
  pub all_on : (taken taken' put put' : List (RingStep T)) (out : SecondOut T) (next : SecondIn T)
      → taken' ≡ taken → put' ≡ put → taken ≡ put → got out ++ ahead out ≡ put_in next
      → (pieces taken' ++ got out) ++ ahead out ≡ pieces put' ++ put_in next
  all_on taken taken' put put' out next same_taken same_put same all =
      append_assoc (pieces taken') (got out) (ahead out)
      ∙ (ap (λ us. pieces taken' ++ us) all
      ∙ ap (λ (us : List (RingStep T)). pieces us ++ put_in next)
      (same_taken ∙ (same ∙ sym same_put)))
