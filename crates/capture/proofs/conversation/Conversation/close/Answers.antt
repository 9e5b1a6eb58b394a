use Rattle.std.proofs.Common.{[], ◌≡◌, ◌∙◌, ap, subst}
use Rattle.capture.specs.declared.conversation.Conversation.{Conversation}
use Rattle.capture.specs.declared.conversation.Side.TheVariants.{Client, Server}
use Rattle.capture.specs.Conversations.{ack, advanced, fin_ack, segment_of}
use Rattle.capture.specs.Format.{IsRecord}
use Rattle.capture.proofs.Steps.{three_records}
use Rattle.capture.proofs.conversation.Conversation.close.Goals as goal

pub returns : goal.returns
returns c =
    let talk = c.args.self in
    let time = c.args.time in
    let asked : c.advanced-asked.result ≡ advanced talk Client 1 = c.advanced-asked.ensures in
    let closed : c.advanced-closed.result ≡ advanced (advanced talk Client 1) Server 1 =
    c.advanced-closed.ensures ∙ ap (λ (t : Conversation). advanced t Server 1) asked in
    let second =
    subst (λ (t : Conversation).
    IsRecord c.in_ok-second.second.items (segment_of t time Server fin_ack [])) asked
    c.in_ok-second.ensures in
    let third =
    subst (λ (t : Conversation).
    IsRecord c.in_ok-third.third.items (segment_of t time Client ack [])) closed
    c.in_ok-third.ensures in
    rw c.in_ok-text.ensures (three_records _ _ _ _ _ _ c.in_ok-first.ensures second third)
