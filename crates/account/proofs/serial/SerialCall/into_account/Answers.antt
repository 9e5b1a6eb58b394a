use Rattle.std.proofs.Common.{◌≡◌, sym, subst, rules}
use Rattle.account.specs.declared.call.Account.{Account}
use Rattle.account.specs.Accounts.{IsLawful}
use Rattle.account.specs.SerialCalls.{account_of}
use Rattle.account.proofs.SerialLemmas.{consistent_lawful}
use Rattle.account.proofs.serial.SerialCall.into_account.Goals as goal

pub returns-clause-lawful : goal.returns-clause-lawful
returns-clause-lawful c =
    let made : Account = record {
      fed = c.from.result;
      shut = c.args.self.shut;
      taken = c.from-2.result;
      told = c.args.self.told;
      given = c.from-3.result;
      sent = c.from-4.result;
    } in
    let same : made ≡ account_of c.args.self = search rules in
    subst IsLawful (sym same) (consistent_lawful c.args.self c.requires)
