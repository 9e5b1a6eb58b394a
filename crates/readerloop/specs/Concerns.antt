-- Which calls a step concerns.
use Rattle.std.specs.Prelude.{◌≡◌, ℕ, false, nat_eq, [], None}
use Rattle.readerloop.specs.Steps.{Step, admitted_by, reported_by, data_at, is_drain, closing_at}

-- a step that concerns no other call than this stream's, and admits none, served or not
pub record Concerns (id : ℕ) (step : Step) : Type 0 where
  pub admits : admitted_by step ≡ None
  pub reports : reported_by step ≡ None
  pub drains : is_drain step ≡ false
  pub closes : (other : ℕ) → nat_eq other id ≡ false → closing_at other step ≡ None
  pub feeds : (other : ℕ) → nat_eq other id ≡ false → data_at other step ≡ []

-- a step that concerns no call that a worker serves
pub record IsIdle (step : Step) : Type 0 where
  pub admits : admitted_by step ≡ None
  pub reports : reported_by step ≡ None
  pub closes : (id : ℕ) → closing_at id step ≡ None
  pub feeds : (id : ℕ) → data_at id step ≡ []
