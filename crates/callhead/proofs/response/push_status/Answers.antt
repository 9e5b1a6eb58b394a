use Rattle.std.proofs.Common.{append_assoc}
use Rattle.std.proofs.lemmas.List.{append-nil}
use Rattle.callhead.proofs.response.push_status.Goals as goal

pub returns : goal.returns
returns c =
    rw (
      c.in_ok-push_message.ensures,
      c.in_ok-push.ensures.items,
      c.field.ensures,
      c.in_ok-number.ensures,
    ) (simp (append_assoc, append-nil))
