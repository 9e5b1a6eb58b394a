use Rattle.std.proofs.Common.{refl}
use Rattle.callhead.proofs.request.push_timeout.Goals as goal

pub returns-in_ok-push_copied : goal.returns-in_ok-push_copied
returns-in_ok-push_copied c =
    rw (c.in-Some.is, c.in_ok-push_copied.ensures, c.as_bytes.ensures.value) refl
