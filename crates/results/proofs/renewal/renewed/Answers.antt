use Rattle.std.proofs.Common.{◌∙◌, List, ap, string_bytes}
use Rattle.std.specs.List.{filter_map, flat_map}
use Rattle.results.specs.KnownList.{Entry}
use Rattle.results.specs.Renewals.{line_of, list_text, renewal, unrun_entry, with_entries}
use Rattle.results.proofs.RenewalLemmas.{always, lines_same, renewal_own}
use Rattle.results.proofs.TextLemmas.{text_equal}
use Rattle.results.proofs.renewal.renewed.Goals as goal

pub returns-clause-lines : goal.returns-clause-lines
unfolding renewal
returns-clause-lines c =
    text_equal c.lines_of.result string_bytes _
    (list_text (renewal c.args.known.now c.args.outcomes.now)) c.lines_of.ensures
    (rw c.as_slice.ensures.value (lines_same _
    ∙ ap (flat_map line_of) (c.in_ok-push_others.ensures
    ∙ ap (λ (list : List Entry).
    with_entries list (filter_map (unrun_entry c.args.outcomes.now) c.args.known.now))
    c.in_ok-all.ensures)))

pub returns-clause-once : goal.returns-clause-once
returns-clause-once c =
    always c.lines_of.result _ (renewal_own c.args.known.now c.args.outcomes.now)
