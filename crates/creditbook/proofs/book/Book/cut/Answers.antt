use Rattle.std.proofs.Common.{arith, sym}
use Rattle.creditbook.proofs.BookLemmas.{after_cut-lawful, live_at, unreturned_at}
use Rattle.creditbook.proofs.book.Book.cut.Goals as goal

pub unreturned-requires : goal.unreturned-requires
unreturned-requires c =
    (live_at (record {
      connection = c.self.inside.connection;
      calls = c.self.inside.calls.entries;
      last = c.self.inside.last;
      closing = c.self.inside.closing;
    }) c.args.id c.in-Some.call c.self.invariant
    (sym c.in-Some.ensures.value)).counted.returned_within

pub overflow_add-self : goal.overflow_add-self
overflow_add-self c =
    let less =
    unreturned_at (record {
      connection = c.self.inside.connection;
      calls = c.self.inside.calls.entries;
      last = c.self.inside.last;
      closing = c.self.inside.closing;
    }) c.args.id c.in-Some.call c.self.invariant (sym c.in-Some.ensures.value) in
    omega (
      arith,
      c.unreturned.ensures,
      less,
      c.self.invariant.bounded,
      c.self.invariant.counted.returned_within,
    )

pub invariant_of-self-2 : goal.invariant_of-self-2
invariant_of-self-2 c =
    rw (c.in-Some.ensures.entries, c.unreturned.ensures)
    (after_cut-lawful (record {
      connection = c.self.inside.connection;
      calls = c.self.inside.calls.entries;
      last = c.self.inside.last;
      closing = c.self.inside.closing;
    }) c.args.id c.in-Some.call c.self.invariant (sym c.in-Some.ensures.value))

pub returns-clause-law : goal.returns-clause-law
returns-clause-law c = invariant_of-self-2 c
