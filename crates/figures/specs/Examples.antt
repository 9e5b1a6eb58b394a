-- Worked examples of the definitions.
use Rattle.std.specs.Prelude.{◌≡◌, true, false, codes, refl}
use Rattle.callhead.specs.Fields.{field_of}
use Rattle.figures.specs.declared.fields.FieldRule.TheVariants.{UpperCase, NameByte, ValueBlank}
use Rattle.figures.specs.FieldRules.{breaks}

pub breaks-letter : breaks (field_of (codes "Te") (codes "trailers")) UpperCase ≡ true
breaks-letter = refl

-- a colon in the midst of a name, and as its first byte
pub breaks-colon : breaks (field_of (codes "a:b") (codes "c")) (NameByte 0x3A) ≡ true
breaks-colon = refl

pub breaks-pseudo_header : breaks (field_of (codes ":path") (codes "/")) (NameByte 0x3A) ≡ false
breaks-pseudo_header = refl

pub breaks-blank : breaks (field_of (codes "a") (codes "b ")) ValueBlank ≡ true
breaks-blank = refl
