use Rattle.std.proofs.Common.{◌≡◌, ◌∙◌, ap, true}
use Rattle.clap.specs.Simple.{App, Shape, app_of_fields, on_top}
use Rattle.words.proofs.read.bare_line.Goals as goal

abbrev unnamed : App → App
unnamed = on_top (λ (top : Shape). record top { no_binary_name = true })

abbrev without_help_flag : App → App
without_help_flag = on_top (λ (top : Shape). record top { disable_help_flag = true })

abbrev without_help_command : App → App
without_help_command = on_top (λ (top : Shape). record top { disable_help_subcommand = true })

abbrev without_version : App → App
without_version = on_top (λ (top : Shape). record top { disable_version_flag = true })

abbrev with_command : App → App
with_command = on_top (λ (top : Shape). record top { subcommand_required = true })

pub returns : goal.returns
returns c =
    let first = ap app_of_fields c.no_binary_name.ensures ∙ ap unnamed c.new.ensures.app in
    let second = ap app_of_fields c.disable_help_flag.ensures ∙ ap without_help_flag first in
    let third =
    ap app_of_fields c.disable_help_subcommand.ensures ∙ ap without_help_command second in
    let fourth = ap app_of_fields c.disable_version_flag.ensures ∙ ap without_version third in
    ap app_of_fields c.subcommand_required.ensures ∙ ap with_command fourth
