-- Texts in XML 1.0, so that they read back as themselves.
use Rattle.std.specs.Prelude.{
  ℕ,
  ◌==◌,
  ◌&&◌,
  ◌||◌,
  nat_le,
  Bool,
  List,
  ◌++◌,
  if◌then◌else◌,
  codes,
  encode_utf8,
}
use Rattle.std.specs.List.{flat_map}
use Rattle.std.specs.Str.{chars}

-- the characters that a document may have (section 2.2): TAB, LF, CR, and these three ranges
abbrev pub is_allowed : ℕ → Bool
is_allowed c =
    (c == 9) || (c == 10) || (c == 13) || (nat_le 32 c && nat_le c 0xd7ff)
    || (nat_le 0xe000 c && nat_le c 0xfffd)
    || (nat_le 0x10000 c && nat_le c 0x10ffff)

-- A character as a reader gives it back, in content and in an attribute's value: markup by its
-- entities (section 4.6), white space that a reader would change by references (sections 2.11,
-- 3.3.3), and U+FFFD for one that isn't allowed.
abbrev pub char_text : ℕ → List ℕ
char_text c =
    if c == 38 then codes "&amp;"
    else if c == 60 then codes "&lt;"
    else if c == 62 then codes "&gt;"
    else if c == 34 then codes "&quot;"
    else if c == 9 then codes "&#9;"
    else if c == 10 then codes "&#10;"
    else if c == 13 then codes "&#13;"
    else if is_allowed c then encode_utf8 c
    else encode_utf8 0xfffd

abbrev pub xml_text : List ℕ → List ℕ
xml_text text = flat_map char_text (chars text)

-- what a document begins with (section 2.8)
unfoldable pub declaration : List ℕ
declaration = codes "<?xml version=\"1.0\" encoding=\"UTF-8\"?>\n"

-- how an element begins, up to its attributes: `<NAME` (section 3.1)
unfoldable pub open_tag : List ℕ → List ℕ
open_tag name = codes "<" ++ name

-- an attribute with its value as it is written: ` NAME="VALUE"` (section 3.1)
unfoldable pub attribute : List ℕ → List ℕ → List ℕ
attribute name value = codes " " ++ name ++ codes "=\"" ++ value ++ codes "\""

abbrev pub attributes : List (List ℕ × List ℕ) → List ℕ
attributes all = flat_map (λ (each : List ℕ × List ℕ). attribute each.0 each.1) all

-- how an element ends that has content: `</NAME>` (section 3.1)
unfoldable pub end_tag : List ℕ → List ℕ
end_tag name = codes "</" ++ name ++ codes ">"

-- an element with content, and one without (section 3.1)
abbrev pub element : List ℕ → List (List ℕ × List ℕ) → List ℕ → List ℕ
element name all content = open_tag name ++ attributes all ++ codes ">" ++ content ++ end_tag name

abbrev pub empty_element : List ℕ → List (List ℕ × List ℕ) → List ℕ
empty_element name all = open_tag name ++ attributes all ++ codes "/>"
