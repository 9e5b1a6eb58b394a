use Rattle.std.proofs.Common.{◌≡◌, OnOk, length, subst, rules}
use Rattle.outwriter.specs.CoreChanges.{KeptWith}
use Rattle.outwriter.proofs.Leads.{kept-with, kept-without}
use Rattle.outwriter.proofs.sending.Sending.prepare.Goals as goal

pub returns-clause-kept : goal.returns-clause-kept
returns-clause-kept g c =
    let long : c.len-place.result ≡ length c.args.self.now.senders.items = search rules in
    subst (λ n.
    OnOk c.take_open.result
    (KeptWith c.args.id n c.args.self.now.outbound c.take_open.new.self)) long
    (kept-with c.take_open.result c.args.id c.len-place.result c.args.self.now.outbound
    c.take_open.new.self c.take_open.ensures.taken c.take_open.ensures.takes
    c.take_open.ensures.becomes)

pub returns-clause-still : goal.returns-clause-still
returns-clause-still g c =
    kept-without c.take_open.result c.args.self.now.outbound c.take_open.new.self
    c.take_open.ensures.stays c.take_open.ensures.takes_none
