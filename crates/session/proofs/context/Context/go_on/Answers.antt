use Rattle.std.proofs.Common.{ap, ◌∙◌, ◌++◌}
use Rattle.session.specs.Frames.{fatal}
use Rattle.session.proofs.Positions.{if_then, if_ended, held, breaks, frame_breaks}
use Rattle.session.proofs.context.Context.go_on.Goals as goal

pub returns-in-Ok-clause-follows : goal.returns-in-Ok-clause-follows
returns-in-Ok-clause-follows c =
    if_then c.collect.result _ _ c.collect.ensures.follows (λ next collected entries before leads.
    collected _ before
    (held entries _ before _ _ _ _ _ _ leads c.in-Ok.ensures.ok c.in-Ok.ensures.head))

pub returns : goal.returns
returns c =
    record {
      sound = if_ended _ _ _ c.end.ensures.none c.end.ensures.events (λ e. tt);
      follows = if_ended _ _ _ c.end.ensures.none c.end.ensures.events
          (λ e entries before leads rest.
          breaks entries _ rest before _ _ _ _ _ _ _ leads
          (frame_breaks _ _ _ c.in-Err.ensures.err c.in_default.not-OutOfMemory)
          (e ∙ ap (λ why. c.args.events.now.items ++ fatal why) c.reason.ensures));
    }
