-- What the book's answer to a new call says to its callers.
use Rattle.std.proofs.Common.{
  ◌≡◌,
  ℕ,
  ◌<◌,
  ◌≤◌,
  Bool,
  true,
  false,
  Result,
  Ok,
  Err,
  length,
  refl,
  arith,
}
use Rattle.std.specs.Prelude.{OnErr, OnOk}
use Rattle.limits.specs.declared.TheConstants.{MAX_LIVE}
use Rattle.creditbook.specs.declared.book.fault.BookFault.{BookFault}
use Rattle.creditbook.specs.declared.book.fault.BookFault.TheVariants as faults
use Rattle.creditbook.specs.Books.{Books, AdmitCause, MeetsOrMemory}
use Rattle.connbook.specs.Receipts.{Admits, IsNew, admission_of}

module _ (b : Books) (id : ℕ) (new : IsNew b id) where
  accepts : ¬ (b.closing ≡ true) → b.closing ≡ false
  accepts not = by b.closing refl
    where
      by : (t : Bool) → b.closing ≡ t → b.closing ≡ false
      by true is = absurd (not is)
      by false is = is

  few : ¬ (MAX_LIVE ≤ length b.calls) → length b.calls < MAX_LIVE
  few not = omega (arith, not)

  pub admits : (r : Result (Unit {0}) BookFault) → MeetsOrMemory (AdmitCause b) r
      → Admits b id (admission_of r)
  admits (Ok done) none = (new, accepts (none faults.Draining), few (none faults.TooMany))
  admits (Err faults.OutOfMemory) none =
      (new, accepts (none faults.Draining), few (none faults.TooMany))
  admits (Err faults.Draining) first = (new, first.0)
  admits (Err faults.TooMany) first =
      (new, accepts (first.1 faults.Draining (omega arith)), first.0)
  admits (Err faults.CallWindow) first = absurd first.0
  admits (Err faults.ConnectionWindow) first = absurd first.0
  admits (Err faults.Overgiven) first = absurd first.0
  admits (Err faults.Unknown) first = absurd first.0

pub on_ok : (P : Type 0) (r : Result (Unit {0}) BookFault) → OnOk r P → OnOk (admission_of r) P
on_ok P (Ok done) p = p
on_ok P (Err faults.OutOfMemory) p = p
on_ok P (Err faults.Draining) p = p
on_ok P (Err faults.TooMany) p = p
on_ok P (Err faults.CallWindow) p = p
on_ok P (Err faults.ConnectionWindow) p = p
on_ok P (Err faults.Overgiven) p = p
on_ok P (Err faults.Unknown) p = p

pub on_err : (P : Type 0) (r : Result (Unit {0}) BookFault) → OnErr r P → OnErr (admission_of r) P
on_err P (Ok done) p = p
on_err P (Err faults.OutOfMemory) p = p
on_err P (Err faults.Draining) p = p
on_err P (Err faults.TooMany) p = p
on_err P (Err faults.CallWindow) p = p
on_err P (Err faults.ConnectionWindow) p = p
on_err P (Err faults.Overgiven) p = p
on_err P (Err faults.Unknown) p = p
