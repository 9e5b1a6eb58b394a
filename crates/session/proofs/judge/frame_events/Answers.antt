use Rattle.std.proofs.Common.{[], sym}
use Rattle.std.proofs.lemmas.List.{append-nil}
use Rattle.session.proofs.SilentFrames.{gives_nothing}
use Rattle.session.proofs.judge.frame_events.Goals as goal

pub returns-in-Priority : goal.returns-in-Priority
returns-in-Priority c = record {
  ok = λ history stands. (
    [],
    history,
    gives_nothing history c.args.frame c.in-Priority.is,
    sym (append-nil _),
    stands,
  );
}
