use Rattle.std.proofs.Common.{◌∙◌, [], ◌∷◌, ◌++◌, ap, inl, refl, sym}
use Rattle.std.proofs.lemmas.List.{append_assoc}
use Rattle.lane.specs.Ring.{put_in}
use Rattle.connection.proofs.orders.Orders.defer.Goals as goal

pub returns-in-Ok : goal.returns-in-Ok
returns-in-Ok g c = record {
  puts = inl (
    ap (λ later. put_in c.args.self.now.outbox.tx ++ later) (c.push_back_reserved.ensures.items
        ∙ ap (λ back. back ++ c.args.order ∷ []) c.reserve.ensures.items)
        ∙ sym (append_assoc (put_in c.args.self.now.outbox.tx) c.args.self.now.backlog.items
        (c.args.order ∷ [])),
    c.requires.whole,
    c.requires.whole,
    refl,
  );
  stops = λ was. was;
}
