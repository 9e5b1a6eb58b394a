use Rattle.std.proofs.Common.{◌∙◌, ◌==◌, None, ap, if◌then◌else◌, subst, sym}
use Rattle.outwriter.specs.CoreChanges.{KeptOn}
use Rattle.outwriter.specs.OpenStreams.{Closes, OpenStreams}
use Rattle.outwriter.specs.States.{States, open_at}
use Rattle.outwriter.specs.Steps.{Taken}
use Rattle.outwriter.specs.declared.control.WriterOrder.TheVariants as order
use Rattle.outwriter.proofs.Leads.{kept-reset}
use Rattle.outwriter.proofs.outbound.Outbound.reset.Goals as goal

pub returns-in-Ok-clause-kept : goal.returns-in-Ok-clause-kept
returns-in-Ok-clause-kept g c =
    let reset = c.take_reset.new.self in
    let streams = open_at c.args.self.now.states in
    let closes : Closes c.args.id streams (open_at c.close.new.self) =
    λ k.
    c.close.ensures.closes k
    ∙ ap (λ (f : OpenStreams). if k == c.args.id then None else f k) c.in-Ok.ensures.open in
    subst (λ (x : States).
    KeptOn (Taken (order.Reset c.args.id c.args.code c.args.written)) c.args.self.now
    (record reset { states = x })) (sym c.close.ensures.stands)
    (kept-reset c.args.id c.args.code c.args.written c.args.self.now reset c.close.new.self.opened
    c.in-Ok.ensures.taken c.in-Ok.ensures.takes c.in-Ok.ensures.marks c.in-Ok.ensures.heard
    c.in-Ok.ensures.over
    (subst (λ (x : States). Closes c.args.id streams (open_at x)) c.close.ensures.stands closes))
