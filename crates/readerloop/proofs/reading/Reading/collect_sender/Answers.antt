use Rattle.std.proofs.Common.{[], ◌∷◌, refl}
use Rattle.readerloop.proofs.Collecting.{carried-one, collected-none}
use Rattle.readerloop.proofs.reading.Reading.collect_sender.Goals as goal

pub returns-in_default : goal.returns-in_default
returns-in_default g c =
    collected-none _ _ c.in_default.ensures.taken c.take.ensures.name refl refl refl refl refl

pub returns : goal.returns
returns g c = record {
  more = c.in-Some.returning ∷ [];
  took = c.in-Some.ensures.taken;
  name = c.take.ensures.name;
  keeps = λ sent all. c.take_back.ensures.stays sent (carried-one sent c.in-Some.returning all);
  accounts = c.take_back.ensures.accounts;
  above = c.take_back.ensures.last;
  draining = refl;
  last = refl;
  begun = refl;
  goaway = refl;
}
