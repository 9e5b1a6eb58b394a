use Rattle.std.proofs.Common.{◌∙◌, ◌+◌, arith, nat_eq, refl, sym}
use Rattle.std.proofs.lemmas.Map.Steps.{set_value_same}
use Rattle.creditbook.specs.declared.book.Call.{Call}
use Rattle.creditbook.proofs.BookLemmas.{give_back-lawful}
use Rattle.creditbook.proofs.book.Book.give_back.Goals as goal

pub invariant_of-self-2 : goal.invariant_of-self-2
invariant_of-self-2 c =
    let call = c.in-Some.call.now in
    let new : Call = record {
      counts = record {
        received = call.counts.received;
        returned = call.counts.returned + c.from-more.result;
        announced = call.counts.announced;
      };
      marks = call.marks;
    } in
    rw ((c.get_mut.follows.holds new).0, c.from-more.ensures)
    (give_back-lawful (record {
      connection = c.self.inside.connection;
      calls = c.self.inside.calls.entries;
      last = c.self.inside.last;
      closing = c.self.inside.closing;
    }) c.args.id c.args.n c.in-Some.call.now c.self.invariant
    (sym c.in-Some.ensures.value) (omega arith))

pub returns-clause-law : goal.returns-clause-law
returns-clause-law c = invariant_of-self-2 c

pub invariant_of-self-then-more-unreturned-2 : goal.invariant_of-self-then-more-unreturned-2
invariant_of-self-then-more-unreturned-2 c =
    let same =
    (c.get_mut.follows.holds c.in-Some.call.now).0
    ∙ set_value_same (nat_eq c.args.id) c.self.inside.calls.entries c.in-Some.call.now
    (sym c.in-Some.ensures.value) in
    rw same c.self.invariant

pub returns-then-more-unreturned-2-clause-unchanged :
    goal.returns-then-more-unreturned-2-clause-unchanged
returns-then-more-unreturned-2-clause-unchanged c =
    let same =
    (c.get_mut.follows.holds c.in-Some.call.now).0
    ∙ set_value_same (nat_eq c.args.id) c.self.inside.calls.entries c.in-Some.call.now
    (sym c.in-Some.ensures.value) in
    rw (same, ← c.self.view_is) refl

pub returns-then-more-unreturned-2-clause-law : goal.returns-then-more-unreturned-2-clause-law
returns-then-more-unreturned-2-clause-law c =
    let same =
    (c.get_mut.follows.holds c.in-Some.call.now).0
    ∙ set_value_same (nat_eq c.args.id) c.self.inside.calls.entries c.in-Some.call.now
    (sym c.in-Some.ensures.value) in
    rw same c.self.invariant
