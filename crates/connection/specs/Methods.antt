-- What is known of the methods of a server: what the method at an index answers, and which index a
-- path has.
use Rattle.std.specs.Prelude.{ℕ, Bool, List}
use Rattle.std.proofs.Common.{Global}
use Rattle.std.specs.declared.dyn_box.DynBox.{DynBox}
use Rattle.callparts.specs.Workers.{IsWithin, answers_by}
use Rattle.handlers.specs.declared.method.Method.{Ghosts as Method}
use Rattle.handlers.specs.declared.step.MethodStep.{MethodStep as Answer}
use Rattle.readerloop.specs.Calls.{AreNames, IsFirstWith}

module _ {X : Type 0} {F : X → Type 0} (of_type : (vtable : X) → Method (F vtable)) where
  -- what the method at this index answers to messages, and to whether they have ended
  abbrev pub answers_of : List (DynBox X Global F) → ℕ → List (List ℕ) → Bool → Answer → Type 0
  answers_of methods =
      answers_by (λ method. (of_type method.vtable).answers method.value) methods

  -- the method at this index is the first with this path
  abbrev pub paths_of : List (DynBox X Global F) → List ℕ → ℕ → Type 0
  paths_of methods = IsFirstWith (λ method. (of_type method.vtable).name method.value) methods

  -- These answers and these names are those of the methods.
  pub record AreKnownBy (methods : List (DynBox X Global F))
      (known : ℕ → List (List ℕ) → Bool → Answer → Type 0)
      (names : List ℕ → ℕ → Type 0) : Type 0 where
    -- each answer that is known at an index is one of its method
    pub answers : IsWithin known (answers_of methods)
    -- a path names the index of the first method that has it
    pub named : AreNames (paths_of methods) names
    -- and no other index
    pub unnamed : AreNames names (paths_of methods)
