use Rattle.std.proofs.Common.{refl}
use Rattle.std.proofs.lemmas.Result.{IfOk-weaker}
use Rattle.session.proofs.Stages.{greeted, departed}
use Rattle.session.proofs.in_core.greet.Goals as goal

pub returns-in_default : goal.returns-in_default
returns-in_default c =
    record {
      feeds =
          departed c.args.preface c.args.piece.now _ _ c.args.reader.now _ _
          c.in_default.ensures.err c.in_ok-push.ensures.items;
    }

pub returns : goal.returns
returns c =
    record {
      feeds =
          IfOk-weaker c.read.result _ _ (λ next feeds.
          greeted c.args.preface _ _ _ _ _ next _ _ _ _ _ _ c.in-Ok.ensures.ok
          (c.if-not-is_whole.ensures.0 refl) feeds) c.read.ensures.feeds;
    }
