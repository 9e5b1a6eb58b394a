use Rattle.std.proofs.Common.{[]}
use Rattle.callparts.specs.Blocks.{items_of}
use Rattle.connection.proofs.Heard.{consumes-none}
use Rattle.connection.proofs.Reports.{unbegun}
use Rattle.connection.proofs.serve.serve_ledgers.Goals as goal

pub returns-in_default : goal.returns-in_default
returns-in_default g c =
    let is = c.unserved.ensures in
    record {
      served = (
        [],
        consumes-none _,
        unbegun _ _ (λ calls. items_of calls.full calls.last) g.O.ConnWrite.contents
            g.O.ConnWrite.failed _ _ c.unserved.result.report.ending c.unserved.result.report.calls
            c.args.output c.unserved.result.output
            is.ending is.output is.calls,
      );
    }
