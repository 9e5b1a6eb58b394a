-- The calls that the writing side of a connection ends in the credit book.
use Rattle.std.specs.Prelude.{◌≡◌, All, Contains, ℕ, true, false, List}
use Rattle.std.specs.List.{fold}
use Rattle.device.specs.declared.conn.ConnWrite.{Ghosts as ConnGhosts}
use Rattle.outwriter.specs.Cores.{open_stream}
use Rattle.outwriter.specs.RunState.{is_held}
use Rattle.sendwindows.specs.Windows.{room}
use Rattle.creditbook.specs.Books.{Books, after_cut, after_end_local}
use Rattle.callparts.specs.declared.register.Naming.{Ghosts}
use Rattle.writerloop.specs.declared.standing.Standing.TheVariants.{Going}
use Rattle.writerloop.specs.declared.writing.Writing.{Writing}
use Rattle.writerloop.specs.Sent.{ids_of}

-- the local ends of these calls are marked, one after another
abbrev pub after_local_ends : Books → List ℕ → Books
after_local_ends b ids = fold after_end_local b ids

-- these calls are cut, one after another
abbrev pub after_cuts : Books → List ℕ → Books
after_cuts b ids = fold after_cut b ids

module _ {J W : Type 0} {naming : Ghosts J} {conn : ConnGhosts W} where
  -- A call that is sent waits for a window of the peer's which won't open, since the input has
  -- ended.
  pub record IsStuckCall (writer : Writing J W naming conn) (id : ℕ) : Type 0 where
    pub ended : writer.input_ended ≡ true
    pub sent : Contains (ids_of writer.sends.calls.items) id
    pub held : is_held (open_stream writer.frames.core id)
        (room writer.frames.core.sending.outbound.states.windows id) ≡ true

  -- the calls that are stuck are cut, and no others
  pub record CutsStuck (writer : Writing J W naming conn) (old new : Books) : Type 0 where
    pub ids : List ℕ
    pub stuck : All (IsStuckCall writer) ids
    pub each : (id : ℕ) → IsStuckCall writer id → Contains ids id
    pub cut : new ≡ after_cuts old ids

  -- The writer makes frames: it has lost no order, no write failed, and it hasn't ended the
  -- connection.
  pub record GoesOn (writer : Writing J W naming conn) : Type 0 where
    pub unblamed : writer.blames ≡ false
    pub kept : writer.inbox.has_lost ≡ false
    pub going : writer.frames.standing ≡ Going

  -- the writer has ended
  abbrev pub HasStopped : Writing J W naming conn → Type 0
  HasStopped writer = ¬ GoesOn writer
