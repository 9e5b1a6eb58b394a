-- The options of commands, and what is read of their values.
use Rattle.std.specs.Prelude.{
  ◌≡◌,
  ℕ,
  Bool,
  true,
  false,
  List,
  [],
  ◌∷◌,
  Option,
  Some,
  None,
  if◌then◌else◌,
  codes,
  option_map,
  option_and_then,
  unwrap_or,
}
use Rattle.std.specs.Option.{option_map_or}
use Rattle.std.specs.Str.{bytes_eq}
use Rattle.std.specs.Str.Parse.{digits_value, without_leading_plus}
use Rattle.clap.specs.Lexer.{usize_max}
use Rattle.clap.specs.Walk.{Row, Rule, Text, all_of, first_of, one_of, rule_of}
use Rattle.clap.specs.ValueTests.{is_unsigned_in}
use Rattle.clap.specs.Simple.{App, app_of, new_rule}
use Rattle.clap.specs.declared.builder.arg.Arg.{Arg}
use Rattle.clap.specs.declared.builder.command.Command.{Command}
use Rattle.clap.specs.declared.builder.command.Command.TheViews.{out-Command}
use Rattle.clap.specs.declared.builder.action.ArgAction.TheVariants.{SetTrue}
use Rattle.clap.specs.declared.builder.value_parser.ValueParser.TheVariants as value_parser

-- `--NAME N`, with N from 1 to `high`
abbrev pub number_option : Text → ℕ → Rule
number_option name high = record (new_rule name) {
  long = Some name;
  parser = Some (value_parser.Unsigned 1 high);
}

-- `--NAME TEXT`, where the text isn't empty
abbrev pub text_option : Text → Rule
text_option name = record (new_rule name) {
  long = Some name;
  parser = Some value_parser.NonEmptyString;
}

-- `--NAME`
abbrev pub flag : Text → Rule
flag name = record (new_rule name) { long = Some name; action = Some SetTrue }

-- what an option is where it is not given
abbrev pub by_default : Text → Rule → Rule
by_default text option = record option { defaults = text ∷ [] }

-- `--host H`, where H is 127.0.0.1 if it is not given
abbrev pub host_option : Rule
host_option = by_default (codes "127.0.0.1") (text_option (codes "host"))

-- an option that has to be given
abbrev pub needed : Rule → Rule
needed option = record option { required = true }

-- an option with another name
abbrev pub also_named : Text → Rule → Rule
also_named name option = record option { aliases = name ∷ [] }

-- `--NAME N`, with N from 0 to 4,000,000
abbrev pub amount_option : Text → Rule
amount_option name = record (new_rule name) {
  long = Some name;
  parser = Some (value_parser.Unsigned 0 4000000);
}

-- the number that a text writes in decimal digits, with or without a plus, if it is in this range
abbrev pub number_within : ℕ → ℕ → Text → Option ℕ
number_within low high text =
    if is_unsigned_in low high text then Some (digits_value 10 (without_leading_plus text))
    else None

abbrev pub number_up_to : ℕ → Text → Option ℕ
number_up_to high = number_within 1 high

-- the number of an option, if it has one from 1 to `high`
abbrev pub number_of : Text → ℕ → List Row → Option ℕ
number_of name high rows = option_and_then (number_up_to high) (one_of name rows)

-- the number of an option, if it has one from 0 to 4,000,000
abbrev pub amount_of : Text → List Row → Option ℕ
amount_of name rows = option_and_then (number_within 0 4000000) (one_of name rows)

-- the text of an option, or of the word at a place
abbrev pub text_of : Text → List Row → Option Text
text_of name rows = first_of name rows

-- words at a place: one at least
abbrev pub several : Text → Rule
several name =
    record (new_rule name)
    { range = Some (record { start_inclusive = 1; end_inclusive = usize_max }) }

-- the texts of an option that may be given several times, or of the words at a place
abbrev pub texts_of : Text → List Row → List Text
texts_of name rows = unwrap_or (all_of name rows) []

-- these texts, if there is one
abbrev pub some_texts : List Text → Option (List Text)
some_texts [] = None
some_texts (text ∷ texts) = Some (text ∷ texts)

abbrev pub some_texts_of : Text → List Row → Option (List Text)
some_texts_of name rows = some_texts (texts_of name rows)

-- whether a flag was given
abbrev pub has_flag : Text → List Row → Bool
has_flag name rows = option_map_or (λ text. bytes_eq text (codes "true")) (first_of name rows) false

-- the command is this to `clap`, and none of its options is one of its subcommands too
abbrev pub IsCommand : App → Command → Type 0
IsCommand app command = (app_of command ≡ app) × ((out-Command command).has_globals ≡ false)

-- the option is this to `clap`, and isn't one of the subcommands
abbrev pub IsOption : Rule → Arg → Type 0
IsOption rule arg = (rule_of arg ≡ rule) × (arg.global ≡ false)
