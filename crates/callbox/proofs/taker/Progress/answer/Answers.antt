use Rattle.std.proofs.Common.{refl}
use Rattle.lpm.specs.Messages.{IsFaulty}
use Rattle.account.proofs.SerialLemmas.{stands_there}
use Rattle.callbox.proofs.TakerLemmas.{took_message, took_fault, tells_fault}
use Rattle.callbox.proofs.taker.Progress.answer.Goals as goal

pub returns-in-Message-clause-took : goal.returns-in-Message-clause-took
returns-in-Message-clause-took c = λ items messages t.
    let answer = c.in-Message.ensures.answer in
    took_message items c.args.self.now _ messages c.in-Message.message t answer.0 answer.1 refl refl
    c.requires c.saturating_add-self.ensures

pub returns-in_default-clause-took : goal.returns-in_default-clause-took
returns-in_default-clause-took c = λ items messages t.
    let fault = c.in-Fault.fault in
    let answer = c.in-Fault.ensures.answer in
    let there =
    stands_there fault (IsFaulty c.args.self.now.splitter fault)
    c.in_default.not-OutOfMemory answer.0 in
    took_fault items c.args.self.now _ messages fault t there answer.1 refl refl refl refl

pub returns-in_default-clause-tells : goal.returns-in_default-clause-tells
returns-in_default-clause-tells c =
    tells_fault c.in-Fault.fault c.args.self.now.told c.in_default.not-OutOfMemory
