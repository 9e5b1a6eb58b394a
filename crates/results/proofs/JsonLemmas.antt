-- Outcomes as JSON have no number with a fraction.
use Rattle.std.proofs.Common.{
  ◌≡◌,
  ◌||◌,
  Bool,
  true,
  false,
  List,
  Option,
  Some,
  None,
  ℕ,
  [],
  ◌∷◌,
  refl,
  sym,
  subst,
  map,
  option_map,
  string_bytes,
  Ordering,
  Less,
  Equal,
  Greater,
  nat_cmp,
}
use Rattle.std.specs.Ordering.{match_ordering}
use Rattle.std.specs.Cmp.Lexicographic.{slice_cmp}
use Rattle.serde_json.specs.Data.{Data, Members, member, no_members, put, string}
use Rattle.serde_json.specs.View.{items_of}
use Rattle.serde_json.specs.Written.{compact_text, has_float, items_have_float, members_have_float}
use Rattle.results.specs.Json.{
  hex_data,
  json_text,
  number_data,
  ending_list,
  outcome_data,
  rule_list,
  standing_data,
  subject_list,
  text_data,
  traffic_list,
  with_all,
}
use Rattle.results.specs.declared.outcome.Outcome.{Outcome}
use Rattle.results.specs.declared.outcome.Rule.{Rule}
use Rattle.results.specs.declared.standing.Standing.{Standing}
use Rattle.results.specs.declared.standing.Standing.TheVariants.{AsFound, Known, Mended}

neither : (a b : Bool) → (a || b) ≡ false → (a ≡ false) × (b ≡ false)
neither true b none = cc
neither false b none = (refl, none)

both : (a b : Bool) → a ≡ false → b ≡ false → (a || b) ≡ false
both a b first second = rw first second

put_at : (o : Ordering) (k l : List ℕ) (d e : Data) (ms : Members) → has_float d ≡ false
    → (has_float e || members_have_float ms) ≡ false
    → (members_have_float ms ≡ false → members_have_float (put k d ms) ≡ false)
    → members_have_float
    (match_ordering o (member k d (member l e ms)) (member l d ms) (member l e (put k d ms)))
    ≡ false
put_at Less k l d e ms plain others later =
    both (has_float d) (has_float e || members_have_float ms) plain others
put_at Equal k l d e ms plain others later =
    both (has_float d) (members_have_float ms) plain
    (neither (has_float e) (members_have_float ms) others).1
put_at Greater k l d e ms plain others later =
    let parts = neither (has_float e) (members_have_float ms) others in
    both (has_float e) (members_have_float (put k d ms)) parts.0 (later parts.1)

pub put_plain : (k : List ℕ) (d : Data) (ms : Members) → has_float d ≡ false
    → members_have_float ms ≡ false → members_have_float (put k d ms) ≡ false
put_plain k d no_members plain others = both (has_float d) false plain refl
put_plain k d (member l e ms) plain others =
    put_at (slice_cmp nat_cmp k l) k l d e ms plain others (put_plain k d ms plain)

abbrev AllPlain : List (List ℕ × Data) → Type 0
AllPlain [] = Unit {0}
AllPlain (next ∷ more) = (has_float next.1 ≡ false) × AllPlain more

with_all_plain : (all : List (List ℕ × Data)) (ms : Members) → AllPlain all
    → members_have_float ms ≡ false → members_have_float (with_all all ms) ≡ false
with_all_plain [] ms plain others = others
with_all_plain (next ∷ more) ms plain others =
    with_all_plain more (put next.0 next.1 ms) plain.1 (put_plain next.0 next.1 ms plain.0 others)

text_plain : (text : Option (List ℕ)) → has_float (text_data text) ≡ false
text_plain None = refl
text_plain (Some text) = refl

number_plain : (count : Option ℕ) → has_float (number_data count) ≡ false
number_plain None = refl
number_plain (Some count) = refl

hex_plain : (bytes : Option (List ℕ)) → has_float (hex_data bytes) ≡ false
hex_plain None = refl
hex_plain (Some bytes) = refl

standing_plain : (standing : Standing) → has_float (standing_data standing) ≡ false
standing_plain AsFound = refl
standing_plain Known = refl
standing_plain Mended = refl

texts_plain : (texts : List (List ℕ)) → items_have_float (items_of (map string texts)) ≡ false
texts_plain [] = refl
texts_plain (text ∷ texts) = texts_plain texts

rule_plain : (rule : Option Rule) → AllPlain (rule_list rule)
rule_plain None = (refl, (refl, tt))
rule_plain (Some rule) = (refl, (text_plain (option_map string_bytes rule.sentence), tt))

subject_plain : (outcome : Outcome) → AllPlain (subject_list outcome)
subject_plain outcome = (
  refl,
  (refl, (text_plain _, (refl, (text_plain _, (refl, (standing_plain _, (text_plain _, tt))))))),
)

ending_plain : (outcome : Outcome) → AllPlain (ending_list outcome)
ending_plain outcome =
    (text_plain _, (text_plain _, (text_plain _, (number_plain _, (refl, (refl, (refl, tt)))))))

traffic_plain : (outcome : Outcome) → AllPlain (traffic_list outcome)
traffic_plain outcome = (
  hex_plain _,
  (
    hex_plain _,
    (number_plain _, (number_plain _, (texts_plain (map string_bytes outcome.frames.items), tt))),
  ),
)

pub outcome_plain : (outcome : Outcome) → has_float (outcome_data outcome) ≡ false
outcome_plain outcome =
    let subject = with_all (subject_list outcome) no_members in
    let rule = with_all (rule_list outcome.rule) subject in
    let ending = with_all (ending_list outcome) rule in
    with_all_plain (traffic_list outcome) ending (traffic_plain outcome)
    (with_all_plain (ending_list outcome) rule (ending_plain outcome)
    (with_all_plain (rule_list outcome.rule) subject (rule_plain outcome.rule)
    (with_all_plain (subject_list outcome) no_members (subject_plain outcome) refl)))

-- a line whose value is this one
pub line_plain : (line : List ℕ) (v d : Data) → v ≡ d → has_float d ≡ false
    → (has_float v ≡ false → line ≡ json_text v) → line ≡ json_text d
line_plain line v d same plain told =
    subst (λ (x : Data). line ≡ json_text x) same
    (told (subst (λ (x : Data). has_float x ≡ false) (sym same) plain))

-- a value's text, where the value is this one
pub compact_plain : (text : List ℕ) (v d : Data) → v ≡ d → has_float d ≡ false
    → (has_float v ≡ false → text ≡ compact_text v) → text ≡ compact_text d
compact_plain text v d same plain told =
    subst (λ (x : Data). text ≡ compact_text x) same
    (told (subst (λ (x : Data). has_float x ≡ false) (sym same) plain))
