-- What ledgers beside a credit book rest on.
use Rattle.std.specs.Prelude.{◌≡◌, ℕ, ◌≤◌, Bool, true, length}
use Rattle.creditbook.specs.Books.{Books, IsLawful}

-- A shared credit book while its lock is free: the law of the book; what came and was announced on
-- the connection is what the ledgers count, and no more calls are live than were admitted; once the
-- writer has stopped, none is.
pub record IsKept (b : Books) (stopped : Bool) (received admitted announced : ℕ) : Type 0 where
  pub law : IsLawful b
  pub came : b.connection.received ≡ received
  pub told : b.connection.announced ≡ announced
  pub few : length b.calls ≤ admitted
  pub over : stopped ≡ true → length b.calls ≡ 0

-- from the old book to the new nothing came, nothing was announced on the connection, and no call
-- was added
pub record IsQuiet (old new : Books) : Type 0 where
  pub received : new.connection.received ≡ old.connection.received
  pub announced : new.connection.announced ≡ old.connection.announced
  pub live : length new.calls ≤ length old.calls
