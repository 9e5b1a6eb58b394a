use Rattle.callworker.proofs.Turns.{answers_at, of_fewer}
use Rattle.callworker.proofs.worker.Worker.answer.Goals as goal

pub returns-clause-answers : goal.returns-clause-answers
returns-clause-answers g c =
    answers_at g.M.Answering.known c.args.job.number.seen.log c.args.job.number.value
    c.args.job.work _ _ _ _ c.args.job.stands
    (of_fewer _ _ c.args.job.work.request _ _ _ _ c.requires.known c.serve-taker.ensures.answers)
