-- On the tables: which entries stay where the oldest go, and the static entries.
use Rattle.std.proofs.Common.{
  ◌≡◌,
  ◌≢◌,
  ℕ,
  zero,
  suc,
  ◌+◌,
  ◌-◌,
  ◌<◌,
  ◌≤◌,
  List,
  [],
  ◌∷◌,
  ◌++◌,
  length,
  refl,
  sym,
  subst,
  ◌∙◌,
  ap,
  inl,
  inr,
  arith,
  Option,
  Some,
  None,
  slice_get,
}
use Rattle.std.proofs.lemmas.Bool.Decides.{leb_tells}
use Rattle.lists.specs.declared.field.Field.{Field}
use Rattle.hpack_codec.specs.StaticTable.{static_table, entry}
use Rattle.hpack_codec.specs.Table.{Table, size_of, sizes_of, fitting, insert_entry, entry_at}

pub sizes_of-nil : sizes_of [] ≡ 0
unfolding sizes_of
sizes_of-nil = refl

pub sizes_of-cons : (x : Field) (xs : List Field) → sizes_of (x ∷ xs) ≡ size_of x + sizes_of xs
unfolding sizes_of
sizes_of-cons x xs = refl

pub sizes_of-append : (xs ys : List Field) → sizes_of (xs ++ ys) ≡ sizes_of xs + sizes_of ys
sizes_of-append [] ys = omega (arith, sizes_of-nil)
sizes_of-append (x ∷ xs) ys =
    sizes_of-cons x (xs ++ ys) ∙ omega (arith, sizes_of-cons x xs, sizes_of-append xs ys)

pub sizes_of-push : (xs : List Field) (y : Field)
    → sizes_of (xs ++ y ∷ []) ≡ sizes_of xs + size_of y
sizes_of-push xs y = sizes_of-append xs (y ∷ []) ∙ omega (arith, sizes_of-cons y [], sizes_of-nil)

-- entries that all have room stay
pub fitting_whole : (room : ℕ) (xs : List Field) → sizes_of xs ≤ room → fitting room xs ≡ xs
unfolding fitting
fitting_whole room [] h = refl
fitting_whole room (x ∷ xs) h =
    elim (leb_tells (size_of x) room) [
      | inl fits ↦
          rw fits.0 (ap (λ tail. x ∷ tail)
          (fitting_whole (room - size_of x) xs (omega (arith, h, sizes_of-cons x xs))))
      | inr large ↦ absurd (omega (arith, h, large.1, sizes_of-cons x xs))
    ]

-- where there is no room for all of them, the last one is out
pub fitting_front : (room : ℕ) (xs : List Field) (y : Field) → room < sizes_of (xs ++ y ∷ [])
    → fitting room (xs ++ y ∷ []) ≡ fitting room xs
unfolding fitting
fitting_front room [] y h =
    elim (leb_tells (size_of y) room) [
      | inl fits ↦ absurd (omega (arith, h, fits.1, sizes_of-cons y [], sizes_of-nil))
      | inr large ↦ rw large.0 refl
    ]
fitting_front room (x ∷ xs) y h =
    elim (leb_tells (size_of x) room) [
      | inl fits ↦
          rw fits.0 (ap (λ tail. x ∷ tail) (fitting_front (room - size_of x) xs y
          (let all : room < size_of x + sizes_of (xs ++ y ∷ []) =
          subst (λ (n : ℕ). room < n) (sizes_of-cons x (xs ++ y ∷ [])) h in
          omega (arith, all, fits.1))))
      | inr large ↦ rw large.0 refl
    ]

-- a new entry that has room
pub inserted : (table : Table) (field : Field) → size_of field ≤ table.limit
    → fitting table.limit (field ∷ table.entries)
    ≡ field ∷ fitting (table.limit - size_of field) table.entries
unfolding fitting
inserted table field h =
    elim (leb_tells (size_of field) table.limit) [
      | inl fits ↦ rw fits.0 refl
      | inr large ↦ absurd (omega (arith, h, large.1))
    ]

pub not_inserted : (table : Table) (field : Field) → table.limit < size_of field
    → fitting table.limit (field ∷ table.entries) ≡ []
unfolding fitting
not_inserted table field h =
    elim (leb_tells (size_of field) table.limit) [
      | inl fits ↦ absurd (omega (arith, h, fits.1))
      | inr large ↦ rw large.0 refl
    ]

-- what is left and the last entry have the size of all
pub popped : (items rest : List Field) (oldest : Field) (size : ℕ) → items ≡ rest ++ oldest ∷ []
    → size ≡ sizes_of items → size ≡ sizes_of rest + size_of oldest
popped items rest oldest size e s = s ∙ ap sizes_of e ∙ sizes_of-push rest oldest

pub popped_kept : (items rest all : List Field) (oldest : Field) (size room : ℕ)
    → items ≡ rest ++ oldest ∷ [] → size ≡ sizes_of items → room < size
    → fitting room items ≡ fitting room all → fitting room rest ≡ fitting room all
popped_kept items rest all oldest size room e s large kept =
    sym (fitting_front room rest oldest (subst (λ (n : ℕ). room < n) (s ∙ ap sizes_of e) large))
    ∙ sym (ap (fitting room) e) ∙ kept

pub empty_size : (items : List Field) → length items ≡ 0 → sizes_of items ≡ 0
unfolding sizes_of
empty_size [] h = refl
empty_size (x ∷ xs) h = absurd (omega (arith, h))

abbrev pub table_of : List Field → ℕ → Table
table_of entries limit = record { entries = entries; limit = limit }

pub insert_large : (entries now : List Field) (limit : ℕ) (field : Field) → now ≡ []
    → limit < size_of field → table_of now limit ≡ insert_entry (table_of entries limit) field
insert_large entries now limit field empty large =
    ap (λ (fields : List Field). table_of fields limit)
    (empty ∙ sym (not_inserted (table_of entries limit) field large))

pub insert_small : (entries kept now : List Field) (limit size : ℕ) (field : Field)
    → size ≡ size_of field → size ≤ limit → kept ≡ fitting (limit - size) entries
    → now ≡ field ∷ kept → table_of now limit ≡ insert_entry (table_of entries limit) field
insert_small entries kept now limit size field size_is small kept_is now_is =
    ap (λ (fields : List Field). table_of fields limit)
    (now_is
    ∙ ap (λ (fields : List Field). field ∷ fields)
    (kept_is ∙ ap (λ n. fitting (limit - n) entries) size_is)
    ∙ sym (inserted (table_of entries limit) field (subst (λ (n : ℕ). n ≤ limit) size_is small)))

abbrev pub entries_of : Table → List Field
entries_of table = table.entries

get_left : (xs ys : List Field) (place : ℕ) → place < length xs
    → slice_get (xs ++ ys) place ≡ slice_get xs place
get_left [] ys place h = absurd (omega arith)
get_left (x ∷ xs) ys zero h = refl
get_left (x ∷ xs) ys (suc place) h = get_left xs ys place (omega (arith, h))

get_right : (xs ys : List Field) (place : ℕ)
    → slice_get (xs ++ ys) (length xs + place) ≡ slice_get ys place
get_right [] ys place = ap (slice_get ys) (omega arith)
get_right (x ∷ xs) ys place =
    ap (slice_get ((x ∷ xs) ++ ys)) (suc_out (length xs) place) ∙ get_right xs ys place
  where
    suc_out : (n m : ℕ) → suc n + m ≡ suc (n + m)
    suc_out n m = omega arith

static_length : length static_table ≡ 61
unfolding static_table
static_length = refl

pub entry_at-zero : (table : Table) (index : ℕ) → index ≡ 0 → entry_at table index ≡ None
unfolding entry_at
entry_at-zero table index h = rw h refl

pub entry_at-static : (table : Table) (index : ℕ) (found : Option Field) → index ≢ 0 → index ≤ 61
    → slice_get static_table (index - 1) ≡ found → entry_at table index ≡ found
unfolding entry_at
entry_at-static table zero found some low is = absurd (some refl)
entry_at-static table (suc place) found some low is =
    get_left static_table table.entries place (omega (arith, low, static_length))
    ∙ ap (slice_get static_table) (let e : place ≡ suc place - 1 = omega arith in e) ∙ is

pub entry_at-recent : (table : Table) (index : ℕ) → 61 < index
    → entry_at table index ≡ slice_get table.entries (index - 1 - 61)
unfolding entry_at
entry_at-recent table zero high = absurd (omega arith)
entry_at-recent table (suc place) high =
    ap (slice_get (static_table ++ table.entries))
    (let e : place ≡ length static_table + (suc place - 1 - 61) =
    omega (arith, static_length, high) in
    e)
    ∙ get_right static_table table.entries (suc place - 1 - 61)

pub some_entry : (field : Field) (name_now value_now : List ℕ) → name_now ≡ field.name
    → value_now ≡ field.value → Some field ≡ Some (entry name_now value_now)
some_entry field name_now value_now n v =
    ap (λ (octets : List ℕ). Some (entry octets field.value)) (sym n)
    ∙ ap (λ (octets : List ℕ). Some (entry name_now octets)) (sym v)
