use Rattle.std.proofs.Common.{◌≡◌, true, false, List, sym, ◌∙◌}
use Rattle.account.specs.Accounts.{IsResponse}
use Rattle.callbox.specs.OutSides.{has_end, has_head}
use Rattle.account.specs.declared.call.OutItem.{OutItem}
use Rattle.account.specs.declared.call.OutItem.TheVariants as out_item
use Rattle.callbox.proofs.OutLemmas.{has_end-push, has_head-push, put_or_kept, response_frame}
use Rattle.callbox.proofs.giver.Giver.put_frame.Goals as goal

pub invariant_of-self : goal.invariant_of-self
invariant_of-self g c =
    let old = c.args.self.now in
    let put = g.L.Lane.put_in old.tx in
    let new = g.L.Lane.put_in c.put.new.tx in
    let item = out_item.Message c.args.framed in
    let response =
    response_frame put c.args.framed old.response c.requires.head old.unshut c.requires.frame in
    let begun = old.begins ∙ c.requires.head in
    record {
      begins =
          begun
          ∙ sym (put_or_kept (λ (items : List OutItem). has_head items ≡ true) c.put.result put new
          item c.put.ensures.ok c.put.ensures.unchanged c.requires.head
          (has_head-push put item c.requires.head));
      response =
          put_or_kept IsResponse c.put.result put new item c.put.ensures.ok c.put.ensures.unchanged
          old.response response;
      unshut =
          put_or_kept (λ (items : List OutItem). has_end items ≡ false) c.put.result put new item
          c.put.ensures.ok c.put.ensures.unchanged old.unshut (has_end-push put item old.unshut);
    }
