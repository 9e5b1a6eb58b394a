-- On blocks: fields and changes of size one behind another.
use Rattle.std.proofs.Common.{
  ◌≡◌,
  ◌≢◌,
  ℕ,
  zero,
  suc,
  ◌+◌,
  ◌-◌,
  ◌<◌,
  ◌≤◌,
  Bool,
  true,
  false,
  IsTrue,
  ◌↔◌,
  List,
  [],
  ◌∷◌,
  ◌++◌,
  length,
  take,
  get_or,
  refl,
  sym,
  subst,
  ◌∙◌,
  ap,
  inl,
  inr,
  arith,
  append_assoc,
  Some,
}
use Rattle.std.proofs.lemmas.List.{append-nil, take_more, take_all}
use Rattle.std.proofs.lemmas.Bool.Decides.{leb_tells}
use Rattle.std.specs.List.{All, AllByRecursion}
use Rattle.std.proofs.lemmas.List.Elements.{All-from_recursion, recursion_from_All, All-cons}
use Rattle.lists.specs.declared.field.Field.{Field}
use Rattle.hpack_codec.specs.Integer.{IsInteger}
use Rattle.hpack_codec.specs.StringLiteral.{IsString}
use Rattle.hpack_codec.specs.StaticTable.{entry}
use Rattle.hpack_codec.specs.declared.table_match.TableMatch.{TableMatch}
use Rattle.hpack_codec.specs.declared.table_match.TableMatch.TheVariants.{Whole, Name, Nothing}
use Rattle.hpack_codec.specs.Table.{Table, size_of, fitting, insert_entry, resize, entry_at}
use Rattle.hpack_codec.specs.Block.{
  Indexed,
  Incremental,
  WithoutIndexing,
  IsLiteral,
  IsName,
  Represents,
  AreFields,
  AreUpdates,
  IsBlock,
}
use Rattle.hpack_codec.specs.Codec.{IsPrivate, NonePrivate}
use Rattle.hpack_codec.specs.Reading.{Appends, Changes, IsFound, IsStatic, IsNameAt}
use Rattle.hpack_codec.proofs.Tables.{entry_at-static}

-- one field more
pub AreFields-push : (table mid next : Table) (text last : List ℕ)
    (fields : List Field) (field : Field)
    → AreFields table text fields mid → Represents mid last field next
    → AreFields table (text ++ last) (fields ++ field ∷ []) next
unfolding AreFields
AreFields-push table mid next text last [] field a r = (
  last,
  [],
  next,
  ap (λ (front : List ℕ). front ++ last) a.0 ∙ sym (append-nil last),
  subst (λ (here : Table). Represents here last field next) a.1 r,
  (refl, refl),
)
AreFields-push table mid next text last (f ∷ fields) field a r = (
  a.0,
  a.1 ++ last,
  a.2,
  ap (λ (front : List ℕ). front ++ last) a.3 ∙ append_assoc a.0 a.1 last,
  a.4,
  AreFields-push a.2 mid next a.1 last fields field a.5 r,
)

pub fields_none : (table : Table) (old : List ℕ)
    → Appends old old (λ text. AreFields table text [] table)
unfolding AreFields
fields_none table old = ([], sym (append-nil old), (refl, refl))

pub fields_more : (table mid next : Table) (old half new : List ℕ) (fields : List Field)
    (i : ℕ) (field : Field)
    → i < length fields → field ≡ get_or fields i field
    → Appends old half (λ text. AreFields table text (take i fields) mid)
    → Appends half new (λ text. Represents mid text field next)
    → Appends old new (λ text. AreFields table text (take (i + 1) fields) next)
fields_more table mid next old half new fields i field l is a b =
    subst (λ (front : List Field). Appends old new (λ text. AreFields table text front next))
    (sym (take_more fields i field l ∙ ap (λ (f : Field). take i fields ++ f ∷ []) (sym is))) (
      a.0 ++ b.0,
      b.1 ∙ ap (λ (front : List ℕ). front ++ b.0) a.1 ∙ append_assoc old a.0 b.0,
      AreFields-push table mid next a.0 b.0 (take i fields) field a.2 b.2,
    )

pub fields_all : (table next : Table) (old new : List ℕ) (fields : List Field) (i : ℕ)
    → length fields ≤ i → Appends old new (λ text. AreFields table text (take i fields) next)
    → Appends old new (λ text. AreFields table text fields next)
fields_all table next old new fields i h a =
    subst (λ (front : List Field). Appends old new (λ text. AreFields table text front next))
    (take_all i fields h) a

pub update_none : (table : Table) (old : List ℕ)
    → Appends old old (λ text. Changes table text table)
unfolding AreUpdates
update_none table old = ([], sym (append-nil old), ([], (refl, refl)))

pub update_one : (table : Table) (least : ℕ) (old new : List ℕ) → least ≤ 4096
    → Appends old new (λ text. IsInteger 5 32 text least)
    → Appends old new (λ text. Changes table text (resize table least))
unfolding AreUpdates
update_one table least old new h a =
    (a.0, a.1, (least ∷ [], (a.0, [], sym (append-nil a.0), a.2, h, (refl, refl))))

-- changes of size, and then fields
pub writes : (table mid next : Table) (first second : List ℕ) (fields : List Field)
    → Appends [] first (λ text. Changes table text mid)
    → Appends first second (λ text. AreFields mid text fields next)
    → IsBlock table second fields next
writes table mid next first second fields u f = record {
  limits = u.2.0;
  updates = u.0;
  rest = f.0;
  mid = mid;
  spelling = f.1 ∙ ap (λ (front : List ℕ). front ++ f.0) u.1;
  are_updates = u.2.1;
  are_fields = f.2;
}

-- a search of the static table tells of both tables
pub static_is_found : (table : Table) (found : TableMatch) (name_bytes value_bytes : List ℕ)
    → IsStatic found name_bytes value_bytes → IsFound table found name_bytes value_bytes
static_is_found table (Whole index) name_bytes value_bytes f =
    entry_at-static table index (Some (entry name_bytes value_bytes))
    (λ (none : index ≡ 0). absurd (omega (arith, none, f.0))) f.1 f.2
static_is_found table (Name index) name_bytes value_bytes f = (
  f.0,
  entry_at-static table index (Some (entry name_bytes f.0))
      (λ (none : index ≡ 0). absurd (omega (arith, none, f.1))) f.2 f.3,
)
static_is_found table Nothing name_bytes value_bytes f = tt

pub entry_name_is : (table : Table) (index : ℕ) (name_now value_now octets : List ℕ)
    → entry_at table index ≡ Some (entry name_now value_now) → name_now ≡ octets
    → (other : List ℕ) × (entry_at table index ≡ Some (entry octets other))
entry_name_is table index name_now value_now octets is same =
    (value_now, is ∙ ap (λ (n : List ℕ). Some (entry n value_now)) same)

pub entry_is : (table : Table) (index : ℕ) (name_now value_now octets others : List ℕ)
    → entry_at table index ≡ Some (entry name_now value_now) → name_now ≡ octets
    → value_now ≡ others → entry_at table index ≡ Some (entry octets others)
entry_is table index name_now value_now octets others is same also =
    is ∙ ap (λ (n : List ℕ). Some (entry n value_now)) same
    ∙ ap (λ (v : List ℕ). Some (entry octets v)) also

-- an entry by its index
pub wrote_index : (table : Table) (index : ℕ) (old new name_now value_now : List ℕ) (field : Field)
    → name_now ≡ field.name → value_now ≡ field.value
    → IsFound table (Whole index) name_now value_now
    → Appends old new (λ text. IsInteger 7 128 text index)
    → Appends old new (λ text. Represents table text field table)
wrote_index table index old new name_now value_now field n v f a = (
  a.0,
  a.1,
  (
    Indexed,
    (
      (
        index,
        a.2,
        f ∙ ap (λ (octets : List ℕ). Some (entry octets value_now)) n
            ∙ ap (λ (octets : List ℕ). Some (entry field.name octets)) v,
      ),
      refl,
    ),
  ),
)

string_of : (old new octets value_now : List ℕ) → value_now ≡ octets
    → Appends old new (λ text. IsString text value_now)
    → Appends old new (λ text. IsString text octets)
string_of old new octets value_now v a = (a.0, a.1, subst (IsString a.0) v a.2)

-- the name of a literal that isn't spelled out
name_entry : (table : Table) (index : ℕ) (octets : List ℕ) → index ≢ 0 → IsNameAt table index octets
    → IsName table index [] octets
name_entry table index octets some (inl none) = absurd (some none)
name_entry table zero octets some (inr at_) = absurd (some refl)
name_entry table (suc place) octets some (inr at_) = (refl, (entry octets at_.0, at_.1, refl))

-- a literal whose name is an entry's
pub wrote_value : (prefix_bits flags index : ℕ) (old mid new value_now : List ℕ) (field : Field)
    → value_now ≡ field.value → index ≢ 0
    → Appends old mid (λ text. IsInteger prefix_bits flags text index)
    → Appends mid new (λ text. IsString text value_now)
    → (table : Table) → IsNameAt table index field.name
    → Appends old new (λ text. IsLiteral prefix_bits flags table text field)
wrote_value prefix_bits flags index old mid new value_now field v some a second table at_ =
    let b = string_of mid new field.value value_now v second in (
      a.0 ++ b.0,
      b.1 ∙ ap (λ (front : List ℕ). front ++ b.0) a.1 ∙ append_assoc old a.0 b.0,
      record {
        index = index;
        index_text = a.0;
        name_text = [];
        value_text = b.0;
        spelling = refl;
        is_index = a.2;
        is_name = name_entry table index field.name some at_;
        is_value = b.2;
      },
    )

-- a literal whose name is spelled out
pub wrote_both : (prefix_bits flags index : ℕ)
    (old mid third new name_now value_now : List ℕ) (field : Field)
    → name_now ≡ field.name → value_now ≡ field.value → index ≡ 0
    → Appends old mid (λ text. IsInteger prefix_bits flags text index)
    → Appends mid third (λ text. IsString text name_now)
    → Appends third new (λ text. IsString text value_now)
    → (table : Table) → Appends old new (λ text. IsLiteral prefix_bits flags table text field)
wrote_both prefix_bits flags index old mid third new name_now value_now field n v zero_is a
    second last table =
    let b = string_of mid third field.name name_now n second in
    let d = string_of third new field.value value_now v last in (
      a.0 ++ (b.0 ++ d.0),
      d.1 ∙ ap (λ (front : List ℕ). front ++ d.0) (b.1 ∙ ap (λ (front : List ℕ). front ++ b.0) a.1)
          ∙ append_assoc (old ++ a.0) b.0 d.0 ∙ append_assoc old a.0 (b.0 ++ d.0),
      record {
        index = 0;
        index_text = a.0;
        name_text = b.0;
        value_text = d.0;
        spelling = refl;
        is_index = subst (λ (k : ℕ). IsInteger prefix_bits flags a.0 k) zero_is a.2;
        is_name = b.2;
        is_value = d.2;
      },
    )

pub wrote_plain : (table : Table) (old new : List ℕ) (field : Field)
    → Appends old new (λ text. IsLiteral 4 0 table text field)
    → Appends old new (λ text. Represents table text field table)
wrote_plain table old new field a = (a.0, a.1, (WithoutIndexing, (a.2, refl)))

pub wrote_entry : (table next : Table) (old new : List ℕ) (field : Field)
    → next ≡ insert_entry table field → Appends old new (λ text. IsLiteral 6 64 table text field)
    → Appends old new (λ text. Represents table text field next)
wrote_entry table next old new field is a = (a.0, a.1, (Incremental, (a.2, is)))

-- the entries that stay are some of those before
fitting_each : (P : Field → Type 0) (room : ℕ) (xs : List Field) → AllByRecursion P xs
    → AllByRecursion P (fitting room xs)
unfolding fitting
fitting_each P room [] a = tt
fitting_each P room (x ∷ xs) a =
    elim (leb_tells (size_of x) room) [
      | inl fits ↦ rw fits.0 (a.0, fitting_each P (room - size_of x) xs a.1)
      | inr large ↦ rw large.0 tt
    ]

fitting_all : (P : Field → Type 0) (room : ℕ) (xs : List Field) → All P xs → All P (fitting room xs)
fitting_all P room xs a =
    All-from_recursion P (fitting room xs) (fitting_each P room xs (recursion_from_All P xs a))

pub resized_private : (table next : Table) (limit : ℕ) → next ≡ resize table limit
    → NonePrivate table → NonePrivate next
resized_private table next limit is none =
    subst NonePrivate (sym is)
    (fitting_all (λ field. IsPrivate field.name → ⊥) limit table.entries none)

pub inserted_private : (table next : Table) (field : Field) → next ≡ insert_entry table field
    → (IsPrivate field.name → ⊥) → NonePrivate table → NonePrivate next
inserted_private table next field is not none =
    subst NonePrivate (sym is)
    (fitting_all (λ field. IsPrivate field.name → ⊥) table.limit (field ∷ table.entries)
    (All-cons (λ field. IsPrivate field.name → ⊥) field table.entries not none))

pub not_private : (field : Field) (name_now : List ℕ) (told : Bool) → name_now ≡ field.name
    → IsTrue told ↔ IsPrivate name_now → told ≡ false → IsPrivate field.name → ⊥
not_private field name_now told same tells is_false private =
    let t : true ≡ false = sym (tells.1 (subst IsPrivate (sym same) private)) ∙ is_false in cc
