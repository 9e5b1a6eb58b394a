-- The limit of the header table that the peer's SETTINGS set (RFC 9113, section 6.5.2; RFC 7541,
-- section 4.2).
use Rattle.std.specs.Prelude.{
  ◌≡◌,
  ℕ,
  min,
  List,
  [],
  ◌∷◌,
  Option,
  IfSome,
  Result,
  Ok,
  Err,
  if◌then◌else◌,
  Bool,
  true,
  false,
}
use Rattle.hpack_codec.specs.Codec.{Encoding, limited}
use Rattle.h2frame.specs.declared.kind.FrameKind.{FrameKind}
use Rattle.h2frame.specs.declared.kind.FrameKind.TheVariants.{Headers}
use Rattle.outwriter.specs.declared.control.WriterOrder.{WriterOrder}
use Rattle.outwriter.specs.declared.control.WriterOrder.TheVariants.{Settings}
use Rattle.outwriter.specs.declared.control.OutFault.{OutFault}
use Rattle.outwriter.specs.declared.control.OutFault.TheVariants.{OutOfMemory, PeerWindow}
use Rattle.outwriter.specs.Histories.{table_sizes}
use Rattle.outwriter.specs.Steps.{Step, Taken, Granted, Written, Returned}

-- the least of a number and of these limits
abbrev pub least_of : ℕ → List ℕ → ℕ
least_of n [] = n
least_of n (limit ∷ limits) = least_of (min n limit) limits

-- An encoder that got these limits: its table is as it was, and the next header block sets the
-- least of them.
abbrev pub limited_by : Option Encoding → List ℕ → Option Encoding
limited_by kept [] = kept
limited_by kept (limit ∷ limits) = limited_by (limited kept limit) limits

module _ {S : Type 0} where
  -- the limits that a control has
  abbrev pub limits_of : WriterOrder S → List ℕ
  limits_of (Settings settings) = table_sizes settings
  limits_of _ = []

  -- the encoder gets the limits of a control that is taken, and nothing else changes it
  abbrev pub TakesLimits : Result (Unit {0}) (OutFault S) → WriterOrder S → Option Encoding
      → Option Encoding → Type 0
  TakesLimits (Ok done) taken old new = new ≡ limited_by old (limits_of taken)
  TakesLimits (Err (PeerWindow id)) taken old new = new ≡ limited_by old (limits_of taken)
  TakesLimits (Err (OutOfMemory back)) taken old new = new ≡ old

-- ---- the least by a run

-- the least limit of the header table that SETTINGS have set by now; a connection begins with 4,096
abbrev pub least_table : List Step → ℕ
least_table [] = 4096
least_table (Taken order ∷ before) = least_of (least_table before) (limits_of order)
least_table (Granted id n ∷ before) = least_table before
least_table (Returned id items ∷ before) = least_table before
least_table (Written frame ∷ before) = least_table before

abbrev pub begins_block : FrameKind → Bool
begins_block Headers = true
begins_block _ = false

-- the least limit that SETTINGS had set when the latest header block was begun
abbrev pub least_begun : List Step → ℕ
least_begun [] = 4096
least_begun (Taken order ∷ before) = least_begun before
least_begun (Granted id n ∷ before) = least_begun before
least_begun (Returned id items ∷ before) = least_begun before
least_begun (Written frame ∷ before) =
    if begins_block frame.head.kind then least_table before else least_begun before

-- the limit that an encoder, as long as it lives, sets with its next header block is the least by
-- the run
abbrev pub HasLeast : List Step → Option Encoding → Type 0
HasLeast run kept = IfSome kept (λ encoding. encoding.least ≡ least_table run)
