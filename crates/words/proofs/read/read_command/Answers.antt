use Rattle.std.proofs.Common.{◌∙◌, sym}
use Rattle.std.proofs.lemmas.Result.{IfOk-weaker}
use Rattle.clap.specs.Simple.{app_of, subcommand_rows_of}
use Rattle.clap.specs.Walk.{rows_of}
use Rattle.clap.specs.Matches.{found_of}
use Rattle.words.proofs.WordsLemmas.{meant_at_err, meant_at_ok}
use Rattle.words.proofs.read.read_command.Goals as goal

pub returns-in-Ok-clause-value : goal.returns-in-Ok-clause-value
returns-in-Ok-clause-value c =
    IfOk-weaker c.command_in.result _ _ (λ told is. is
    ∙ sym (meant_at_ok (app_of c.in_ok-command_line.field-0) _ (rows_of (found_of c.in-Ok.matches))
    (subcommand_rows_of c.in-Ok.matches)
    c.in_ok-command_line.ensures c.in-Ok.ensures.kinds c.in-Ok.ensures.matches))
    c.command_in.ensures.value

pub returns : goal.returns
returns c = record {
  value = sym (meant_at_err (app_of c.in_ok-command_line.field-0) _ c.in-Err.error.kind
      c.in_ok-command_line.ensures c.in-Err.ensures.kinds
      (λ same. c.in_default.not-OutOfMemory (c.kind.ensures ∙ same)));
  in_range = tt;
}
