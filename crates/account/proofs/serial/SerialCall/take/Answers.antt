use Rattle.std.proofs.Common.{◌≡◌, true, false, ◌++◌, List, ℕ, Option, None, sym, ap, ◌∙◌, rules}
use Rattle.std.specs.Prelude.{is_some}
use Rattle.lpm.specs.Messages.{frames, IsFaulty}
use Rattle.account.specs.declared.call.RequestEnd.{RequestEnd}
use Rattle.account.specs.Runs.{telling}
use Rattle.account.specs.SerialCalls.{account_of}
use Rattle.account.proofs.SerialLemmas.{
  told_none,
  after-told_some,
  after-take_message,
  after-take_more,
  after-take_fault,
  MayTell-fault,
  stands_there,
}
use Rattle.account.proofs.serial.SerialCall.take.Goals as goal

pub returns-then-is_some-clause-account : goal.returns-then-is_some-clause-account
returns-then-is_some-clause-account c =
    let some : is_some c.args.self.now.told ≡ true = search rules in
    sym (after-told_some (account_of c.args.self.now) some)

pub returns-in_ok-push-in-Message-clause-account : goal.returns-in_ok-push-in-Message-clause-account
returns-in_ok-push-in-Message-clause-account c =
    let old = c.args.self.now in
    let a = account_of old in
    let message = c.in-Message.message in
    let untold : is_some old.told ≡ false = search rules in
    let answer = c.in-Message.ensures.answer in
    ap (λ (ms : List (List ℕ)). record a { taken = ms }) c.in_ok-push-in-Message.ensures.items
    ∙ sym (after-take_message a old.splitter message c.next.new.self (told_none old.told untold)
    c.requires.each c.requires.whole answer.0 answer.1)

pub returns-in-More-clause-account : goal.returns-in-More-clause-account
returns-in-More-clause-account c =
    let old = c.args.self.now in
    let a = account_of old in
    let untold : is_some old.told ≡ false = search rules in
    let answer = c.in-More.ensures.answer in
    ap (λ (t : Option RequestEnd). record a { told = t })
    (c.told_behind-self.ensures ∙ ap (λ (w : List ℕ). telling None w old.shut) answer.1)
    ∙ sym (after-take_more a old.splitter (told_none old.told untold) c.requires.each
    c.requires.whole answer.0)

pub returns-in_default-clause-account : goal.returns-in_default-clause-account
returns-in_default-clause-account c =
    let old = c.args.self.now in
    let fault = c.in-Fault.fault in
    let untold : is_some old.told ≡ false = search rules in
    let there =
    stands_there fault (IsFaulty old.splitter fault) c.in_default.not-OutOfMemory
    c.in-Fault.ensures.answer.0 in
    sym (after-take_fault (account_of old) old.splitter fault (told_none old.told untold)
    c.requires.each c.requires.whole there)

pub returns-in_default-clause-consistent : goal.returns-in_default-clause-consistent
returns-in_default-clause-consistent c =
    let old = c.args.self.now in
    let fault = c.in-Fault.fault in
    let answer = c.in-Fault.ensures.answer in
    let there =
    stands_there fault (IsFaulty old.splitter fault) c.in_default.not-OutOfMemory answer.0 in
    record {
      whole = c.requires.whole ∙ ap (λ (b : List ℕ). frames old.taken.items ++ b) (sym answer.1);
      each = c.requires.each;
      told =
          MayTell-fault old.fed.items old.taken.items old.splitter old.shut fault c.requires.whole
          c.requires.each there;
      sent = c.requires.sent;
      given = c.requires.given;
    }
