use Rattle.std.proofs.Common.{string_bytes}
use Rattle.std.proofs.lemmas.List.{append_assoc}
use Rattle.results.proofs.TextLemmas.{text_equal}
use Rattle.results.specs.Junit.{plain_message}
use Rattle.results.proofs.junit.plain_message.Goals as goal

pub returns : goal.returns
returns c =
    text_equal c.format.result string_bytes _ (plain_message c.args.outcome.now) c.format.ensures.ok
    (simp (c.name-verdict.ensures, c.in_ok-level.ensures, c.in_ok-cause.ensures, append_assoc))
