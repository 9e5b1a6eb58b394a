-- What a connection begins with.
use Rattle.std.specs.Prelude.{◌≡◌, ◌<◌, ℕ, []}
use Rattle.lane.specs.Ring.{in_name, out_name, put_in, taken}
use Rattle.callparts.specs.declared.register.Naming.{Ghosts as Naming}
use Rattle.connection.specs.declared.drain.DrainHandle.{DrainHandle}
use Rattle.connection.specs.declared.serve.Rings.{Rings}

module _ {A B C : Type 0} where
  -- Each share has all parts of its ledger, which has this many, and has counted nothing yet.
  pub record IsUnused (a b c : ℕ) (handle : DrainHandle A B C) : Type 0 where
    -- bytes of DATA that came
    pub came : (handle.came.parts ≡ a) × (0 < a) × (handle.came.amount ≡ 0)
    -- calls that were admitted
    pub calls : (handle.calls.parts ≡ b) × (0 < b) × (handle.calls.amount ≡ 0)
    -- bytes of DATA for which credit was announced
    pub announced : (handle.announced.parts ≡ c) × (0 < c) × (handle.announced.amount ≡ 0)

module _ {J : Type 0} {book : Naming J} where
  -- Both ends of each ring are here, and nothing went through it yet.
  pub record AreNew (rings : Rings J book) : Type 0 where
    pub orders : in_name rings.orders.0 ≡ out_name rings.orders.1
    pub senders : in_name rings.senders.0 ≡ out_name rings.senders.1
    pub unput : (put_in rings.orders.0 ≡ []) × (taken rings.orders.1 ≡ [])
    pub unsent : (put_in rings.senders.0 ≡ []) × (taken rings.senders.1 ≡ [])
