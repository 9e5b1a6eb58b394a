use Rattle.std.proofs.Common.{◌∙◌, ap, sym}
use Rattle.lane.specs.Ring.{in_name, out_name, put_in}
use Rattle.connection.proofs.HeardActs.{carried-front, prefix-before, reads-home}
use Rattle.connection.proofs.reader.Reader.meet.Goals as goal

pub meet_home-requires : goal.meet_home-requires
meet_home-requires g c = record {
  way = ap in_name c.take_rest-home.ensures.way
      ∙ (sym c.requires.way
      ∙ sym (c.settle_rest.ensures.collects.grows.name
      ∙ (ap out_name c.take_rest-home.ensures.home ∙ ap out_name c.take_unput.ensures.home)));
}

pub returns-clause-back : goal.returns-clause-back
returns-clause-back g c = record {
  came =
      prefix-before c.args.self.reading c.take_rest-home.new.self.reading
      c.settle_rest.new.self.reading _ _ (c.take_rest-home.ensures.home ∙ c.take_unput.ensures.home)
      c.settle_rest.ensures.collects.grows (ap (λ ring. put_in ring) c.take_rest-home.ensures.way)
      c.meet_home.ensures.came;
  accounts = λ sent told carried rest unput reads.
      c.into_accounts.ensures.accounts sent told
      (reads-home sent told _ _ c.meet_home.ensures.rest
      (c.settle_rest.ensures.collects.keeps sent told (carried-front sent
      c.settle_rest.new.self.reading _ _ (ap (λ ring. put_in ring) c.take_rest-home.ensures.way)
      c.meet_home.ensures.came carried)
      (c.take_rest-home.ensures.stays sent told rest
      (c.take_unput.ensures.stays sent told unput reads))))
      (ap (λ reading. reading.calls.calls.items) c.meet_home.ensures.rest
      ∙ c.settle_rest.ensures.none);
}
