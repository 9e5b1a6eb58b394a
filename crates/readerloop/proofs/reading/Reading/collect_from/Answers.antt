use Rattle.std.proofs.Common.{[], refl, sym}
use Rattle.std.proofs.lemmas.List.{append-nil}
use Rattle.readerloop.proofs.Collecting.{collected-none}
use Rattle.readerloop.proofs.reading.Reading.collect_from.Goals as goal

pub returns-in_default : goal.returns-in_default
returns-in_default g c = collected-none _ _ refl refl refl refl refl refl refl

pub returns : goal.returns
returns g c = record {
  more = [];
  took = sym (append-nil _);
  name = refl;
  keeps = λ sent all. c.finish.ensures.stays sent c.in-Some.ensures.answered;
  accounts = c.finish.ensures.accounts;
  above = c.finish.ensures.last;
  draining = refl;
  last = refl;
  begun = refl;
  goaway = refl;
}
