use Rattle.std.specs.Prelude.{string_bytes}
use Rattle.commands.proofs.LinesLemmas.{told-more, told-none}
use Rattle.commands.proofs.log.Log.text_of.Goals as goal

pub batches-init : goal.batches-init
batches-init c =
    told-none c.args.batches.now (string_bytes c.new-text.result) c.new-text.ensures.bytes

pub batches-preserved : goal.batches-preserved
batches-preserved c =
    let added = c.in-Ok.ensures.added in
    told-more c.args.batches.now c.in-Some.behind.now c.batches.rest.now c.in-Some.batch.now
    (string_bytes c.batches.text) added.0 (string_bytes c.add_text.new.text)
    c.in-Some.ensures.cases.0 added.1 added.2 c.batches.invariant
