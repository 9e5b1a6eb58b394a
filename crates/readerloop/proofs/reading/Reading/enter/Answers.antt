use Rattle.std.proofs.Common.{refl}
use Rattle.readerloop.proofs.Starting.{request-again, shown-unfed}
use Rattle.readerloop.proofs.reading.Reading.enter.Goals as goal

pub returns-clause-heard : goal.returns-clause-heard
returns-clause-heard g c = λ sent told going kept.
    let job = c.args.job in
    let number = c.again-number.result in
    c.add.ensures.heard sent job.work.request.head told
    (record {
      request = job.work.request;
      asked =
          request-again job.number.seen.log number.seen.log job.number.value number.value job.work
          job.work.request job.stands refl c.again-number.ensures.seen c.again-number.ensures.value;
      same_id = refl;
      same_method = refl;
      same_head = refl;
      named = c.requires.named;
      half = shown-unfed _ c.requires.unfed;
      answered = refl;
      returned = refl;
    })
    going kept
