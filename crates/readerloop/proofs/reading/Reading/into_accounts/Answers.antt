use Rattle.std.proofs.Common.{subst, sym}
use Rattle.callparts.specs.Blocks.{items_of}
use Rattle.callparts.specs.declared.accounts.Accounts.{Accounts}
use Rattle.readerloop.specs.Calls.{carried_in}
use Rattle.readerloop.specs.Kept.{accounts_of, unsettled}
use Rattle.readerloop.specs.Reports.{AreAccounts}
use Rattle.readerloop.specs.Steps.{reported}
use Rattle.readerloop.proofs.KeptCalls.{all-accounted}
use Rattle.readerloop.proofs.reading.Reading.into_accounts.Goals as goal

pub returns : goal.returns
returns g c = record {
  accounts = λ sent told reads none.
      let calls = c.args.self.calls in
      subst (λ (accounts : Accounts).
      AreAccounts g.M.Answering.known g.M.Answering.names (carried_in sent) told (reported told)
      (items_of accounts.full accounts.last)) (sym c.into_accounts.ensures)
      (all-accounted told (unsettled calls) (accounts_of calls) calls.last none reads.calls);
}
