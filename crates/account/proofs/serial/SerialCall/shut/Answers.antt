use Rattle.std.proofs.Common.{◌≡◌, true, false, sym, rules}
use Rattle.std.specs.Prelude.{is_none}
use Rattle.account.specs.SerialCalls.{account_of}
use Rattle.account.proofs.SerialLemmas.{after-shut, after-shut_shut}
use Rattle.account.proofs.serial.SerialCall.shut.Goals as goal

pub returns-then-is_none-clause-account : goal.returns-then-is_none-clause-account
returns-then-is_none-clause-account c =
    let none : is_none c.args.self.now.shut ≡ true = search rules in
    sym (after-shut (account_of c.args.self.now) c.args.shut none)

pub returns-else-is_none-clause-account : goal.returns-else-is_none-clause-account
returns-else-is_none-clause-account c =
    let some : is_none c.args.self.now.shut ≡ false = search rules in
    sym (after-shut_shut (account_of c.args.self.now) c.args.shut some)
