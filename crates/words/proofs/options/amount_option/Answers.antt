use Rattle.std.proofs.Common.{◌≡◌, ◌∙◌, ap, rules, Some}
use Rattle.clap.specs.declared.builder.value_parser.ValueParser.{ValueParser}
use Rattle.clap.specs.declared.builder.value_parser.ValueParser.TheVariants as value_parser
use Rattle.words.proofs.options.amount_option.Goals as goal

pub returns-clause-rule : goal.returns-clause-rule
returns-clause-rule c =
    let made : c.range-numbers.result ≡ value_parser.Unsigned 0 4000000 =
    simp (c.value_parser.ensures, c.new.ensures.end, c.new.ensures.start) at
    c.range-numbers.ensures in
    let given = c.value_parser-2.ensures.given in
    let parser : c.value_parser-2.result.value_parser ≡ Some (value_parser.Unsigned 0 4000000) =
    given.1 ∙ ap (λ (p : ValueParser). Some p) (given.2 ∙ made) in
    search rules
