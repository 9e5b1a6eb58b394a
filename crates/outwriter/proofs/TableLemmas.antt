-- Limits of the header table one behind another.
use Rattle.std.proofs.Common.{
  ◌≡◌,
  ℕ,
  ◌<◌,
  ◌+◌,
  refl,
  sym,
  ap,
  subst,
  ◌∙◌,
  List,
  [],
  ◌∷◌,
  ◌++◌,
  take,
  length,
  get_or,
  Option,
  Some,
  None,
}
use Rattle.std.specs.Prelude.{min, IfSome}
use Rattle.std.proofs.lemmas.Grind.{flat_map-append}
use Rattle.std.proofs.lemmas.List.{append-nil, take_more}
use Rattle.h2frame.specs.declared.settings.PeerSetting.{PeerSetting}
use Rattle.h2frame.specs.declared.settings.PeerSetting.TheVariants.{TableSize, WindowSize}
use Rattle.hpack_codec.specs.Codec.{Encoding, limited}
use Rattle.hpack_codec.specs.Table.{Table}
use Rattle.outwriter.specs.Histories.{table_size, table_sizes}
use Rattle.outwriter.specs.TableLimits.{least_of, limited_by, limits_of, HasLeast, least_table}
use Rattle.outwriter.specs.Steps.{Step, Order, Taken}
use Rattle.outwriter.specs.ToldByNow.{IsTableOf}

by-more : (kept : Option Encoding) (limits : List ℕ) (limit : ℕ)
    → limited_by kept (limits ++ limit ∷ []) ≡ limited (limited_by kept limits) limit
by-more kept [] limit = refl
by-more kept (first ∷ limits) limit = by-more (limited kept first) limits limit

sizes-more : (settings : List PeerSetting) (k : ℕ) (d setting : PeerSetting) → k < length settings
    → get_or settings k d ≡ setting
    → table_sizes (take (k + 1) settings) ≡ table_sizes (take k settings) ++ table_size setting
sizes-more settings k d setting within is =
    ap table_sizes
    (take_more settings k d within ∙ ap (λ (x : PeerSetting). take k settings ++ x ∷ []) is)
    ∙ flat_map-append table_size (take k settings) (setting ∷ [])
    ∙ ap (λ l. table_sizes (take k settings) ++ l) (append-nil (table_size setting))

-- one more limit is told
pub limited-more : (settings : List PeerSetting) (k : ℕ) (d : PeerSetting)
    (old kept new : Option Encoding) (limit : ℕ)
    → k < length settings → get_or settings k d ≡ TableSize limit
    → new ≡ limited kept limit → kept ≡ limited_by old (table_sizes (take k settings))
    → new ≡ limited_by old (table_sizes (take (k + 1) settings))
limited-more settings k d old kept new limit within is told so_far =
    told ∙ ap (λ (x : Option Encoding). limited x limit) so_far
    ∙ sym (ap (limited_by old) (sizes-more settings k d (TableSize limit) within is)
    ∙ by-more old (table_sizes (take k settings)) limit)

pub limited-same : (settings : List PeerSetting) (k : ℕ) (d : PeerSetting)
    (old kept : Option Encoding) (size : ℕ)
    → k < length settings → get_or settings k d ≡ WindowSize size
    → kept ≡ limited_by old (table_sizes (take k settings))
    → kept ≡ limited_by old (table_sizes (take (k + 1) settings))
limited-same settings k d old kept size within is so_far =
    so_far
    ∙ sym (ap (limited_by old) (sizes-more settings k d (WindowSize size) within is
    ∙ append-nil (table_sizes (take k settings))))

-- the table stays
abbrev pub KeepsTable : Option Encoding → Option Encoding → Type 0
KeepsTable old new = (table : Table) → IsTableOf old table → IsTableOf new table

limited-table : (kept : Option Encoding) (limits : List ℕ) (table : Table) → IsTableOf kept table
    → IsTableOf (limited_by kept limits) table
limited-table kept [] table of = of
limited-table None (limit ∷ limits) table of = limited-table None limits table tt
limited-table (Some encoding) (limit ∷ limits) table of =
    limited-table (limited (Some encoding) limit) limits table of

pub keeps-limits : (old new : Option Encoding) (limits : List ℕ) → new ≡ limited_by old limits
    → KeepsTable old new
keeps-limits old new limits is table of =
    subst (λ (kept : Option Encoding). IsTableOf kept table) (sym is)
    (limited-table old limits table of)

-- the least is that of the limits too
limited-least : (kept : Option Encoding) (limits : List ℕ) (n : ℕ)
    → IfSome kept (λ encoding. encoding.least ≡ n)
    → IfSome (limited_by kept limits) (λ encoding. encoding.least ≡ least_of n limits)
limited-least kept [] n is = is
limited-least None (limit ∷ limits) n is = limited-least None limits (min n limit) tt
limited-least (Some encoding) (limit ∷ limits) n is =
    limited-least (limited (Some encoding) limit) limits (min n limit) (ap (λ k. min k limit) is)

pub tells-least : (run : List Step) (order : Order) (old new : Option Encoding)
    → new ≡ limited_by old (limits_of order) → HasLeast run old → HasLeast (Taken order ∷ run) new
tells-least run order old new is least =
    subst (HasLeast (Taken order ∷ run)) (sym is)
    (limited-least old (limits_of order) (least_table run) least)
