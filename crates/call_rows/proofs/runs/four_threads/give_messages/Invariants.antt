use Rattle.std.proofs.Common.{◌≡◌, true, ◌++◌, take}
use Rattle.callbox.specs.OutSides.{has_head}
use Rattle.call_rows.specs.Runs.{message_items}
use Rattle.call_rows.proofs.runs.four_threads.give_messages.Given as goal

abbrev pub invariant-loop-message : goal.invariant-loop-message
invariant-loop-message g l =
    record {
      name : g.L.Lane.in_name l.giver.tx ≡ g.L.Lane.in_name l.fn.giver.tx;
      head : has_head (g.L.Lane.put_in l.giver.tx) ≡ true;
      given : g.L.Lane.put_in l.giver.tx
          ≡ g.L.Lane.put_in l.fn.giver.tx ++ message_items (take l.message-index l.messages);
    }
