-- An event by its name among those that the reader follows.
use Rattle.std.proofs.Common.{◌≡◌, ℕ, Bool, List, [], ◌∷◌, Option, subst, sym}
use Rattle.callparts.specs.declared.register.Naming.{Ghosts as Naming}
use Rattle.callparts.specs.declared.report.Ending.{Ending}
use Rattle.handlers.specs.declared.step.MethodStep.{MethodStep as Answer}
use Rattle.session.specs.declared.event.InEvent.{InEvent}
use Rattle.readerloop.specs.declared.reading.Reading.{Reading}
use Rattle.connection.specs.declared.orders.Orders.{Orders}
use Rattle.connection.specs.declared.orders.Route.{Ghosts}
use Rattle.connection.specs.Heard.{ReadsTo, ReadsWith}
use Rattle.connection.specs.Limits.{Tally}
use Rattle.connection.proofs.HeardActs.{with-same}

module _ {A B C J M N : Type 0} {book : Naming J} {route : Ghosts N}
    {known : ℕ → List (List ℕ) → Bool → Answer → Type 0} {names : List ℕ → ℕ → Type 0} where
  pub with-as : (tally : Tally) (event given : InEvent) (end : Option Ending)
      (one two : Reading J M book) (old new : Orders A B C J N book route)
      → event ≡ given
      → ReadsTo known names (given ∷ []) end one old two new
      → ReadsWith known names tally tally (event ∷ []) end one old two new
  with-as tally event given end one two old new is reads =
      subst (λ (e : InEvent). ReadsWith known names tally tally (e ∷ []) end one old two new)
      (sym is) (with-same tally (given ∷ []) end one two old new reads)
