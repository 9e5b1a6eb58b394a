-- The numbers of the calls that were taken and handed back.
use Rattle.std.proofs.Common.{◌≡◌, ◌∙◌, ap, refl, sym, ℕ, List, [], ◌∷◌, ◌++◌, Option, None, Some}
use Rattle.std.specs.Prelude.{map}
use Rattle.std.proofs.lemmas.List.{map-append}
use Rattle.callworker.specs.Works.{HasHandedBack, asked}

module _ {T F : Type 0} (of_job : T → ℕ) (of_finished : F → ℕ) where
  asked-call : (tasks : List (Option T)) (job : T)
      → asked of_job (tasks ++ Some job ∷ []) ≡ asked of_job tasks ++ of_job job ∷ []
  asked-call [] job = refl
  asked-call (None ∷ tasks) job = asked-call tasks job
  asked-call (Some first ∷ tasks) job =
      ap (λ (ns : List ℕ). of_job first ∷ ns) (asked-call tasks job)

  asked-end : (tasks : List (Option T)) → asked of_job (tasks ++ None ∷ []) ≡ asked of_job tasks
  asked-end [] = refl
  asked-end (None ∷ tasks) = asked-end tasks
  asked-end (Some first ∷ tasks) = ap (λ (ns : List ℕ). of_job first ∷ ns) (asked-end tasks)

  -- one call more was taken, and handed back
  pub one_more : (tasks new_tasks : List (Option T)) (done new_done : List F)
      (job : T) (finished : F)
      → new_tasks ≡ tasks ++ Some job ∷ [] → new_done ≡ done ++ finished ∷ []
      → of_finished finished ≡ of_job job → HasHandedBack of_job of_finished tasks done
      → HasHandedBack of_job of_finished new_tasks new_done
  one_more tasks new_tasks done new_done job finished is_tasks is_done same has =
      ap (map of_finished) is_done ∙ map-append of_finished done (finished ∷ [])
      ∙ (ap (λ (ns : List ℕ). ns ++ of_finished finished ∷ []) has
      ∙ ap (λ (n : ℕ). asked of_job tasks ++ n ∷ []) same
      ∙ sym (ap (asked of_job) is_tasks ∙ asked-call tasks job))

  -- no more come
  pub no_more : (tasks new_tasks : List (Option T)) (done : List F) → new_tasks ≡ tasks ++ None ∷ []
      → HasHandedBack of_job of_finished tasks done
      → HasHandedBack of_job of_finished new_tasks done
  no_more tasks new_tasks done is_tasks has =
      has ∙ sym (ap (asked of_job) is_tasks ∙ asked-end tasks)

  pub none_yet : (tasks : List (Option T)) (done : List F) → tasks ≡ [] → done ≡ []
      → HasHandedBack of_job of_finished tasks done
  none_yet tasks done no_tasks none_done =
      ap (map of_finished) none_done ∙ sym (ap (asked of_job) no_tasks)
