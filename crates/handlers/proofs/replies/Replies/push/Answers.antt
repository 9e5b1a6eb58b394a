use Rattle.std.proofs.Common.{◌≡◌, ap, drop, ◌∙◌, ◌++◌, ◌∷◌, [], List}
use Rattle.pbwire.specs.Spelling.{varint_spelling}
use Rattle.handlers.specs.declared.reply.Reply.{Reply}
use Rattle.handlers.specs.HeldReplies.{held_by}
use Rattle.handlers.proofs.RepliesHeld.{one_held, more_held, StillHeld}
use Rattle.handlers.proofs.replies.Replies.push.Goals as goal
use Rattle.handlers.proofs.replies.Replies.push.Goals.{in-Ok, in-Err}

still : (c : goal.Joined-write_varint)
    → c.write_varint.new.out.items
    ≡ c.self.inside.spelled.items ++ varint_spelling c.number_of.result
    → StillHeld c.self.inside.passed c.self.inside.spelled.items c.write_varint.new.out.items
    (varint_spelling c.number_of.result)
still c is =
    more_held _ _ _ _ is c.self.invariant (one_held c.number_of.result c.number_of.ensures.fits).0

pub invariant_of-self : goal.invariant_of-self
invariant_of-self c =
    elim c.match-write_varint.branch [
      | in-Ok w ↦ ((still c w.in-Ok.ensures.ok).within, (still c w.in-Ok.ensures.ok).held)
      | in-Err w ↦ rw w.in-Err.ensures.err c.self.invariant
    ]

pub returns-clause-ok : goal.returns-clause-ok
returns-clause-ok c =
    elim c.match-write_varint.branch [
      | in-Ok w ↦
          let one : held_by (varint_spelling c.number_of.result) ≡ c.args.reply ∷ [] =
          (one_held c.number_of.result c.number_of.ensures.fits).1
          ∙ ap (λ (r : Reply). r ∷ []) c.number_of.ensures.reply in
          rw (w.result-is, ← c.self.view_is) ((still c w.in-Ok.ensures.ok).replies
          ∙ ap (λ (l : List Reply).
          held_by (drop c.self.inside.passed c.self.inside.spelled.items) ++ l) one)
      | in-Err w ↦ rw w.result-is tt
    ]
