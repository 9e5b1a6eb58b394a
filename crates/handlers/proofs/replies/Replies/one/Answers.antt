use Rattle.std.proofs.Common.{arith, ap, List, ◌∙◌, ◌++◌, ◌∷◌, []}
use Rattle.handlers.specs.declared.reply.Reply.{Reply}
use Rattle.handlers.proofs.RepliesHeld.{nothing_held}
use Rattle.handlers.proofs.replies.Replies.one.Goals as goal

pub invariant_of-replies : goal.invariant_of-replies
invariant_of-replies c =
    (omega arith, (nothing_held c.in_ok-spelled.spelled.items c.in_ok-spelled.ensures.items).0)

pub returns : goal.returns
returns c =
    c.in_ok-push.ensures.ok
    ∙ ap (λ (held : List Reply). held ++ c.args.reply ∷ [])
    (nothing_held c.in_ok-spelled.spelled.items c.in_ok-spelled.ensures.items).1
