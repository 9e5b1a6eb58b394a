use Rattle.outwriter.proofs.Leads.{keeps-began, keeps-still}
use Rattle.outwriter.proofs.sending.Sending.begin.Goals as goal

pub returns-in-Ok-clause-kept : goal.returns-in-Ok-clause-kept
returns-in-Ok-clause-kept g c = λ none run k.
    keeps-began g.L.Lane.got c.args.self.now
    (record c.prepare.new.self { senders = c.push_reserved.new.self })
    c.prepare.new.self.senders.items c.args.id c.args.sender
    c.in-Ok.ensures.kept c.prepare.ensures.senders c.push_reserved.ensures.items none run k

pub returns-in-Err-clause-still : goal.returns-in-Err-clause-still
returns-in-Err-clause-still g c = λ run k.
    keeps-still g.L.Lane.got c.args.self.now c.prepare.new.self c.in-Err.ensures.still
    c.prepare.ensures.senders run k
