use Rattle.std.proofs.Common.{sym, ap, ◌∙◌, refl, rules}
use Rattle.std.proofs.lemmas.Int.{to_z-of_z}
use Rattle.std.specs.Int.{w32, cast_unsigned}
use Rattle.std.specs.Int.RustNames.{FitsSigned}
use Rattle.handlers.proofs.RepliesHeld.{zeros_at, sum_held, empty_at}
use Rattle.handlers.proofs.replies.number_of.Goals as goal

pub returns-in-Empty-clause-reply : goal.returns-in-Empty-clause-reply
returns-in-Empty-clause-reply c = empty_at _ refl ∙ sym c.in-Empty.is

pub returns-in-Zeros-clause-reply : goal.returns-in-Zeros-clause-reply
returns-in-Zeros-clause-reply c =
    zeros_at c.from.result (search rules) ∙ search (rules, c.from.ensures, c.in-Zeros.is)

pub returns-in-Sum-clause-reply : goal.returns-in-Sum-clause-reply
returns-in-Sum-clause-reply c =
    let fits : FitsSigned w32 c.in-Sum.value = search rules in
    let bits =
    c.from-in-Sum.ensures ∙ c.cast_unsigned.ensures
    ∙ ap (cast_unsigned w32) (to_z-of_z w32 c.in-Sum.value fits) in
    sum_held c.in-Sum.value _ c.from-in-Sum.result fits bits refl ∙ sym c.in-Sum.is
