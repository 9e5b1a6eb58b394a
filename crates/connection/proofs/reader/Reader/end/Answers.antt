use Rattle.std.proofs.Common.{◌≡◌, ◌∙◌, [], ◌∷◌, ◌++◌, ap, refl}
use Rattle.outwriter.specs.declared.control.WriterOrder.TheVariants.{InputEnded}
use Rattle.readerloop.specs.Orders.{orders_by}
use Rattle.connection.proofs.Heard.{closed-behind, ordered-put, ordered-same, same-of}
use Rattle.connection.proofs.HeardActs.{collects-seats, collects-then, grows-home, grows-then}
use Rattle.connection.proofs.reader.Reader.end.Goals as goal

pub returns : goal.returns
returns g c =
    let rest = collects-then _ _ _ (collects-seats _ _ c.ring_noted.ensures.rest)
    (collects-then _ _ _ (collects-seats _ _ c.end.ensures.rest) (collects-then _ _ _
    (collects-seats _ _ c.join_all.ensures.reading) c.close.ensures.collects)) in
    let same : c.close.new.self.orders.has_stopped ≡ c.put.new.self.has_stopped =
    c.close.ensures.drops.stopped
    ∙ (ap (λ orders. orders.has_stopped) c.join_all.ensures.orders
    ∙ c.wake_writer.ensures.same.4) in
    record {
      finishes = record {
        grows =
            grows-then c.args.self.now.reading c.cut_all.new.self.reading _
            (grows-home c.args.self.now.reading c.cut_all.new.self.reading c.cut_all.ensures.cuts.0)
            rest.grows;
        none_left = c.close.ensures.none_left;
        ended = λ sent told carried reads.
            let cuts = c.cut_all.ensures.cuts.1 sent told reads in (
              cuts.0,
              record {
                silent = cuts.1.silent;
                calm = cuts.1.calm;
                undrained = cuts.1.undrained refl;
                reads = rest.keeps sent (cuts.0 ++ told) carried cuts.1.reads;
                ordered = λ ordered.
                    let all = orders_by (cuts.0 ++ told) ++ InputEnded ∷ [] in
                    closed-behind all c.join_all.new.self.orders c.close.new.self.orders
                    c.close.ensures.put c.close.ensures.drops.dropped c.close.ensures.drops.unput
                    (ordered-same all c.wake_writer.new.self c.join_all.new.self.orders
                    (same-of c.wake_writer.new.self c.join_all.new.self.orders
                    c.join_all.ensures.orders)
                    (ordered-same all c.put.new.self c.wake_writer.new.self
                    c.wake_writer.ensures.same
                    (ordered-put (orders_by (cuts.0 ++ told)) _ c.cut_all.new.self.orders
                    c.put.new.self c.put.ensures.puts tt (cuts.1.ordered ordered))));
                stops = λ was. same ∙ c.put.ensures.stops (cuts.1.stops was);
              },
            );
      };
    }
