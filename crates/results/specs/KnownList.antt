-- The list of known failures, as it is read.
use Rattle.std.specs.Prelude.{
  ◌≡◌,
  ◌≢◌,
  ⊤,
  ℕ,
  ◌==◌,
  ◌+◌,
  Bool,
  true,
  false,
  List,
  [],
  ◌∷◌,
  ◌++◌,
  Option,
  Some,
  None,
  if◌then◌else◌,
  codes,
  length,
  not,
  slice_index,
  string_bytes,
  Contains,
}
use Rattle.std.specs.Borrow.{Bor}
use Rattle.std.specs.List.{after_first, before_first, filter_map, list_any}
use Rattle.std.specs.Str.{trim}
use Rattle.std.specs.Str.{bytes_eq}
use Rattle.results.specs.declared.known_failure.KnownFailure.{KnownFailure}
use Rattle.results.specs.declared.known_failure.KnownFault.{KnownFault}
use Rattle.results.specs.declared.known_failure.KnownFault.TheVariants as fault
use Rattle.results.specs.declared.known_failure.KnownReason.{KnownReason}
use Rattle.results.specs.declared.known_failure.KnownLine.{KnownLine}

-- a case that may fail: its name, why, and whether it may pass too
pub record Entry : Type 0 where
  pub name : List ℕ
  pub reason : List ℕ
  pub is_unsteady : Bool

abbrev pub entry : KnownFailure → Entry
entry known = record {
  name = string_bytes known.name;
  reason = string_bytes known.reason;
  is_unsteady = known.is_unsteady;
}

abbrev pub said : KnownLine → Entry
said words =
    record { name = words.name.now; reason = words.reason.now; is_unsteady = words.is_unsteady }

-- what stands before the first space, and what stands after it, without white space round it
abbrev pub first_word : List ℕ → List ℕ
first_word text = before_first (λ byte. byte == 32) text

abbrev pub after_word : List ℕ → List ℕ
after_word text = trim (after_first (λ byte. byte == 32) text)

-- a reason may begin with the word `sometimes`
abbrev pub entry_by : List ℕ → List ℕ → Entry
entry_by name reason =
    if bytes_eq (first_word reason) (codes "sometimes")
    then record { name = name; reason = after_word reason; is_unsteady = true }
    else record { name = name; reason = reason; is_unsteady = false }

-- a text without white space round it says nothing where it is empty, or begins with `#`
abbrev pub entry_in : List ℕ → Option Entry
entry_in text =
    if length text == 0 then None
    else if slice_index text 0 == 35 then None
    else Some (entry_by (first_word text) (after_word text))

abbrev pub entry_of : List ℕ → Option Entry
entry_of line = entry_in (trim line)

-- what the lines name
abbrev pub entries : List (List ℕ) → List Entry
entries all = filter_map entry_of all

abbrev pub names : List Entry → List (List ℕ)
names [] = []
names (first ∷ more) = first.name ∷ names more

-- each has a reason, and none the name of another or one of these
abbrev pub AreGoodAfter : List (List ℕ) → List Entry → Type 0
AreGoodAfter seen [] = ⊤
AreGoodAfter seen (first ∷ more) =
    (first.reason ≢ []) × (¬ Contains seen first.name) × AreGoodAfter (first.name ∷ seen) more

abbrev pub AreGood : List Entry → Type 0
AreGood all = AreGoodAfter [] all

-- why an entry after these is wrong
abbrev pub IsWrongAfter : List Entry → Entry → KnownReason → Type 0
IsWrongAfter before found KnownReason.NoReason = found.reason ≡ []
IsWrongAfter before found KnownReason.Twice =
    (found.reason ≢ []) × Contains (names before) found.name

abbrev pub IsRightAfter : List Entry → Entry → Type 0
IsRightAfter before found = (found.reason ≢ []) × ¬ Contains (names before) found.name

-- why the line with this number is wrong after these entries
abbrev pub IsFaultOf : List Entry → ℕ → List ℕ → KnownFault → Type 0
IsFaultOf before number line (fault.BadLine place name reason) =
    (found : Entry) × (entry_of line ≡ Some found) × (place ≡ number) × (found.name ≡ name.now)
    × IsWrongAfter before found reason
IsFaultOf before number line fault.OutOfMemory = ⊤

-- the first line that is wrong has this number, and begins with this name
abbrev pub IsFirstWrong : List (List ℕ) → ℕ → List ℕ → KnownReason → Type 0
IsFirstWrong all number name reason =
    (before after : List (List ℕ)) × (line : List ℕ) × (found : Entry)
    × (all ≡ before ++ line ∷ after) × (number ≡ length before + 1) × AreGood (entries before)
    × (entry_of line ≡ Some found) × (found.name ≡ name)
    × IsWrongAfter (entries before) found reason

-- why these lines are no list
abbrev pub Explains : List (List ℕ) → KnownFault → Type 0
Explains all (fault.BadLine number name reason) = IsFirstWrong all number name.now reason
Explains all fault.OutOfMemory = ⊤

-- the known failure with this name
abbrev pub has_name : List ℕ → KnownFailure → Bool
has_name name known = bytes_eq (string_bytes known.name) name

-- a known failure whose name isn't among these
abbrev pub is_stray : List (Bor (List ℕ)) → KnownFailure → Bool
is_stray all known = not (list_any (λ name. bytes_eq name.now (string_bytes known.name)) all)
