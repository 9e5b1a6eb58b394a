use Rattle.std.proofs.Common.{[], ◌∷◌, ◌++◌, arith}
use Rattle.std.proofs.lemmas.List.{length-append}
use Rattle.account.proofs.SerialLemmas.{stands_there}
use Rattle.commands.proofs.TellingLemmas.{shorter_behind, text_more}
use Rattle.commands.proofs.body.MessagePrinter.tell.Goals as goal

pub messages-smaller : goal.messages-smaller
messages-smaller c = shorter_behind _ _ _ c.in-Message.ensures.answer.1

pub messages-smaller-in-Some : goal.messages-smaller-in-Some
messages-smaller-in-Some c = shorter_behind _ _ _ c.in-Message.ensures.answer.1

pub messages-preserved-in-Some : goal.messages-preserved-in-Some
messages-preserved-in-Some c bytes told =
    let before = c.messages.invariant bytes told in
    let message = c.in-Message.message in
    let goes = c.in-Message.ensures.however_cut bytes before.0 before.1.each before.1.whole in (
      before.0 ++ message ∷ [],
      record {
        each = goes.0;
        whole = goes.1;
        text =
            text_more before.0 message c.as_slice.result.now c.messages.self.text.items
            c.push_message.new.text.items c.messages.self.count before.1.text before.1.count
            c.as_slice.ensures c.in_ok-push_message-in-Message.ensures;
        count = omega
            (arith, c.in-Some.ensures.1, before.1.count, length-append before.0 (message ∷ []));
      },
    )

pub messages-preserved : goal.messages-preserved
messages-preserved c bytes told =
    let before = c.messages.invariant bytes told in
    let message = c.in-Message.message in
    let goes = c.in-Message.ensures.however_cut bytes before.0 before.1.each before.1.whole in (
      before.0 ++ message ∷ [],
      record {
        each = goes.0;
        whole = goes.1;
        text =
            text_more before.0 message c.as_slice.result.now c.messages.self.text.items
            c.push_message.new.text.items c.messages.self.count before.1.text before.1.count
            c.as_slice.ensures c.in_ok-push_message-in-Message.ensures;
        count = omega
            (arith, c.in-Some.ensures.1, before.1.count, length-append before.0 (message ∷ []));
      },
    )

pub returns-in-More : goal.returns-in-More
returns-in-More c bytes told =
    let before = c.messages.invariant bytes told in
    let spells = c.in-More.ensures.however_cut bytes before.0 before.1.each before.1.whole in (
      before.0,
      record {
        each = before.1.each;
        whole = spells.whole;
        text = before.1.text;
        count = before.1.count;
      },
      spells,
    )

pub returns-in_default-fault : goal.returns-in_default-fault
returns-in_default-fault c bytes told =
    let before = c.messages.invariant bytes told in
    let goes = c.in-Fault.ensures.however_cut bytes before.0 before.1.each before.1.whole in (
      before.0,
      record { each = before.1.each; whole = goes.1; text = before.1.text; count = before.1.count },
      stands_there c.in-Fault.fault _ c.in_default-fault.not-OutOfMemory goes.0,
    )
