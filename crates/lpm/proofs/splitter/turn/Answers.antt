use Rattle.std.proofs.Common.{◌≡◌, List, ℕ, ◌≤◌, ◌++◌, length, subst, sym, ap, ◌∙◌, arith, rules}
use Rattle.std.specs.List.{concat}
use Rattle.lpm.specs.Messages.{IsUnfinished, IsFaulty}
use Rattle.lpm.specs.Fronts.{Extends, extent_of, waiting}
use Rattle.lpm.proofs.Extents.{answers_fault, answers_taken, waiting-joined}
use Rattle.lpm.proofs.splitter.turn.Goals as goal

pub returns-in-Err-clause-answer : goal.returns-in-Err-clause-answer
returns-in-Err-clause-answer c =
    let faulty =
    subst (λ (b : List ℕ). IsFaulty b c.in-Err.fault) c.as_slice-known.ensures
    c.in-Err.ensures.means in
    answers_fault c.args.joined.now.bytes.items (c.args.piece.now ++ concat c.args.later.now.items)
    c.in-Err.fault faulty

pub take_joined-requires : goal.take_joined-requires
take_joined-requires c =
    omega (arith, c.in-Ok.ensures.means.prefix, ap length c.as_slice-known.ensures)

pub returns-then-len-known-clause-answer : goal.returns-then-len-known-clause-answer
returns-then-len-known-clause-answer c =
    let joined = c.args.joined.now.bytes.items in
    let upto : length joined ≤ c.in-Ok.len =
    c.args.joined.now.within c.in-Ok.len
    (ap extent_of (sym c.as_slice-known.ensures) ∙ sym c.in-Ok.ensures.extent) in
    let all : c.in-Ok.len ≡ length joined =
    omega (arith, upto, ap length c.as_slice-known.ensures) in
    let extends =
    subst (Extends joined) all (subst (λ (b : List ℕ). Extends b c.in-Ok.len)
    c.as_slice-known.ensures c.in-Ok.ensures.means) in
    answers_taken joined (c.args.piece.now ++ concat c.args.later.now.items) (length joined)
    c.take_joined.result c.take_joined.new.joined.bytes.items extends (omega arith)
    c.take_joined.ensures

pub join-requires-clause-extent : goal.join-requires-clause-extent
join-requires-clause-extent c =
    ap extent_of (sym c.as_slice-known.ensures) ∙ sym c.in-Ok.ensures.extent

pub join-requires-clause-unfinished : goal.join-requires-clause-unfinished
join-requires-clause-unfinished c = omega (arith, ap length c.as_slice-known.ensures)

pub returns-in_default-clause-answer : goal.returns-in_default-clause-answer
returns-in_default-clause-answer c =
    let extends =
    subst (λ (b : List ℕ). Extends b c.in-Ok.len) c.as_slice-known.ensures c.in-Ok.ensures.means in
    let no_piece : length c.args.piece.now ≡ 0 = search rules in
    let none_later : length c.args.later.now.items ≡ 0 = search rules in
    let same : c.pop_front.new.self.items ≡ c.args.later.now.items = search rules in
    let alone =
    waiting-joined c.args.joined.now.bytes.items c.args.piece.now c.args.later.now.items
    no_piece none_later in (
      subst IsUnfinished (sym alone)
          (extends.unfinished (omega (arith, ap length c.as_slice-known.ensures))),
      ap (λ (later : List (List ℕ)).
          waiting c.args.joined.now.bytes.items c.args.piece.now later) same,
    )
