use Rattle.std.proofs.Common.{◌∙◌, ◌++◌, ◌∷◌, [], ap, subst, sym}
use Rattle.lane.specs.Ring.{HasRoom, in_name, put_in}
use Rattle.writerloop.specs.Sent.{HandsHome}
use Rattle.writerloop.proofs.sends.Sends.hand_back.Goals as goal

pub send_home-requires : goal.send_home-requires
send_home-requires g c = record {
  room = subst (λ home. HasRoom home) (sym c.take-returning.ensures.way) c.requires.room;
}

pub returns-clause-home : goal.returns-clause-home
returns-clause-home g c =
    subst (λ calls.
    HandsHome c.args.id c.args.sender c.args.self.now.calls.items calls.items
    (put_in c.args.self.now.home) (put_in c.send_home.new.self.home))
    (sym c.send_home.ensures.calls)
    (subst (λ put.
    HandsHome c.args.id c.args.sender c.args.self.now.calls.items
    c.take-returning.new.self.calls.items (put_in c.args.self.now.home) put)
    (sym (c.send_home.ensures.put
    ∙ ap (λ home. put_in home ++ c.take-returning.result ∷ []) c.take-returning.ensures.way))
    c.take-returning.ensures.home)

pub returns-clause-name : goal.returns-clause-name
returns-clause-name g c = c.send_home.ensures.name ∙ ap in_name c.take-returning.ensures.way
