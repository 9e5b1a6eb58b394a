use Rattle.std.proofs.Common.{ℕ, ◌+◌, ◌++◌, [], ◌∷◌, min, List, sym, ap, subst, ◌∙◌, append_assoc}
use Rattle.callbox.specs.InSides.{TakesMessages, length_of}
use Rattle.callbox.specs.declared.piece.InPiece.{InPiece}
use Rattle.callbox.proofs.TakerLemmas.{owed_more, needs_more, needed_more}
use Rattle.callbox.proofs.taker.Taker.look.Goals as goal

pub loop-preserved : goal.loop-preserved
loop-preserved g c =
    let before = g.L.Lane.got c.loop.self.rx in
    let polled = c.in-Some-poll.ensures.got in
    let item = polled.0 in
    let so_far = c.loop.invariant.owed in
    let more = c.in_default.ensures.more in
    record {
      told = c.accept.ensures.told;
      name = c.poll.ensures.name ∙ c.loop.invariant.name;
      took = λ messages t.
          subst (λ (items : List InPiece).
          TakesMessages items c.accept.new.self messages) (sym polled.1)
          (c.accept.ensures.took before item messages
          (c.in_default.ensures.took before messages (c.loop.invariant.took messages t)) polled.2);
      needed = λ messages t.
          let came = c.loop.invariant.needed messages t in
          let took =
          c.in_default.ensures.took before messages (c.loop.invariant.took messages t) in (
            came.0 ++ item ∷ [],
            polled.1 ∙ ap (λ (items : List InPiece). items ++ item ∷ []) came.1
                ∙ append_assoc _ came.0 (item ∷ []),
            needed_more _ came.0 before item messages came.2 came.1
                (needs_more before c.answer.new.self messages took more.0 more.2 more.3),
          );
      owed = (
        so_far.0 ++ item ∷ [],
        polled.1 ∙ ap (λ (items : List InPiece). items ++ item ∷ []) so_far.1
            ∙ append_assoc _ so_far.0 (item ∷ []),
        owed_more so_far.0 item _ c.loop.self.progress.owed c.accept.new.self.owed so_far.2
            (c.accept.ensures.owed item polled.2
            ∙ ap (λ (n : ℕ). min (n + length_of item) 4294967295) c.answer.ensures.owed),
      );
    }

pub returns-in-None-clause-needed : goal.returns-in-None-clause-needed
returns-in-None-clause-needed g c = λ messages t.
    let came = c.loop.invariant.needed messages t in
    (came.0, c.in-None.ensures.got.0 ∙ came.1, came.2)
