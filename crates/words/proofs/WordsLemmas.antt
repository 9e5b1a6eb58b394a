-- What `clap` says of the command line of this program.
use Rattle.std.proofs.Common.{
  ◌≡◌,
  ◌∙◌,
  true,
  List,
  Option,
  Some,
  None,
  refl,
  sym,
  ap,
  option_and_then,
  [],
  ◌∷◌,
  inl,
  inr,
  subst,
  ◌⊎◌,
}
use Rattle.clap.specs.Faults.{fault_of, is_simple_and_free}
use Rattle.clap.specs.Kinds.{IsAmong, Kinds}
use Rattle.clap.specs.Simple.{App, is_simple, matches_of, subcommand_of}
use Rattle.clap.specs.Walk.{Row, Text}
use Rattle.clap.specs.declared.error.ErrorKind.{ErrorKind}
use Rattle.clap.specs.declared.error.ErrorKind.TheVariants.{OutOfMemory}
use Rattle.clap.proofs.OnLiterals.{clap_on_literals}
use Rattle.words.specs.Words.{Meaning, command_line, command_meant, command_of, unless_refused}

pub command_line_simple : is_simple command_line ≡ true
unfolding clap_on_literals
command_line_simple = refl

pub command_line_free : is_simple_and_free command_line ≡ true
unfolding clap_on_literals
command_line_free = refl

-- words that are not refused mean the command that they name
meant_unless_refused : (words : List Text) (entered : Option (Text × List Row))
    → fault_of command_line words ≡ [] → entered ≡ subcommand_of command_line words
    → command_meant words ≡ option_and_then command_of entered
unfolding command_meant
meant_unless_refused words entered none e = rw (none, e)

pub meant_at_ok : (line : App) (words : List Text) (rows : List Row)
    (entered : Option (Text × List Row))
    → line ≡ command_line → (is_simple_and_free line ≡ true → fault_of line words ≡ [])
    → (is_simple line ≡ true
    → (rows ≡ matches_of line words) × (entered ≡ subcommand_of line words))
    → command_meant words ≡ option_and_then command_of entered
meant_at_ok line words rows entered is none named =
    let free = subst (λ (a : App). is_simple_and_free a ≡ true) (sym is) command_line_free in
    let simple = subst (λ (a : App). is_simple a ≡ true) (sym is) command_line_simple in
    meant_unless_refused words entered (sym (ap (λ (a : App). fault_of a words) is) ∙ none free)
    ((named simple).1 ∙ ap (λ (a : App). subcommand_of a words) is)

-- and refused words mean none
none_if_any : (kinds : Kinds) (kind : ErrorKind) (command : Option Meaning) → IsAmong kind kinds
    → unless_refused kinds command ≡ None
none_if_any [] kind command h = absurd h
none_if_any (k ∷ ks) kind command h = refl

meant_if_refused : (words : List Text) (kind : ErrorKind)
    → IsAmong kind (fault_of command_line words) → command_meant words ≡ None
unfolding command_meant
meant_if_refused words kind h =
    none_if_any (fault_of command_line words) kind
    (option_and_then command_of (subcommand_of command_line words)) h

pub meant_at_err : (line : App) (words : List Text) (kind : ErrorKind) → line ≡ command_line
    → (is_simple_and_free line ≡ true → (kind ≡ OutOfMemory) ⊎ IsAmong kind (fault_of line words))
    → (kind ≡ OutOfMemory → ⊥) → command_meant words ≡ None
meant_at_err line words kind is fails other =
    elim (fails (subst (λ (a : App). is_simple_and_free a ≡ true) (sym is) command_line_free)) [
      | inl memory ↦ absurd (other memory)
      | inr among ↦
          meant_if_refused words kind
          (subst (λ (a : App). IsAmong kind (fault_of a words)) is among)
    ]
