use Rattle.std.proofs.Common.{◌≡◌, ◌<◌}
use Rattle.writerloop.specs.Written.{LeadsTo}
use Rattle.connection.proofs.outlet.Outlet.grant_due.Given as goal

abbrev pub invariant-calls : goal.invariant-calls
invariant-calls g l = (0 < l.announced.parts) × (l.announced.parts ≡ g.C.Ledger.parts)
    × LeadsTo g.W.ConnWrite.contents g.W.ConnWrite.failed l.fn.self l.fn.writing
    l.announced.amount l.writing
