use Rattle.std.proofs.Common.{List, ℕ, [], subst, ap, refl, ◌∙◌, arith}
use Rattle.lpm.specs.Messages.{IsFaulty}
use Rattle.lpm.specs.Fronts.{Extends, extent_of}
use Rattle.lpm.proofs.Extents.{extent_of-nil, answers_fault, answers_taken}
use Rattle.lpm.proofs.splitter.start.Goals as goal

pub returns-in-Err-clause-answer : goal.returns-in-Err-clause-answer
returns-in-Err-clause-answer c = λ rest.
    let faulty =
    subst (λ (b : List ℕ). IsFaulty b c.in-Err.fault) c.as_slice.ensures c.in-Err.ensures.means in
    rw c.requires.begins (answers_fault c.args.piece.now rest c.in-Err.fault faulty)

pub take_piece-requires-clause-prefix : goal.take_piece-requires-clause-prefix
take_piece-requires-clause-prefix c = c.in-Ok.ensures.means.prefix

pub returns-then-len-clause-answer : goal.returns-then-len-clause-answer
returns-then-len-clause-answer c = λ rest.
    let extends =
    subst (λ (b : List ℕ). Extends b c.in-Ok.len) c.as_slice.ensures c.in-Ok.ensures.means in
    rw c.requires.begins (answers_taken c.args.piece.now rest c.in-Ok.len c.take_piece.result
    c.take_piece.new.piece extends (omega arith) c.take_piece.ensures)

pub join-requires-clause-extent : goal.join-requires-clause-extent
join-requires-clause-extent c =
    ap extent_of (c.reserve.ensures ∙ c.requires.begins) ∙ extent_of-nil [] refl
