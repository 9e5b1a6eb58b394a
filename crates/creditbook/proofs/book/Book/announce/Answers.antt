use Rattle.std.proofs.Common.{◌≡◌, ◌∙◌, arith, false, nat_eq, sym}
use Rattle.std.proofs.lemmas.Bool.{ne_eqb}
use Rattle.std.proofs.lemmas.Map.Steps.{set_value_same}
use Rattle.creditbook.specs.declared.book.Call.{Call}
use Rattle.creditbook.proofs.BookLemmas.{announce-lawful, announce-half_closed}
use Rattle.creditbook.proofs.book.Book.announce.Goals as goal

pub invariant_of-self-2 : goal.invariant_of-self-2
invariant_of-self-2 c =
    let call = c.in-Some.call.now in
    let new : Call = record {
      counts = record {
        received = call.counts.received;
        returned = call.counts.returned;
        announced = call.counts.returned;
      };
      marks = call.marks;
    } in
    rw (c.get_mut.follows.holds new).0
    (announce-lawful (record {
      connection = c.self.inside.connection;
      calls = c.self.inside.calls.entries;
      last = c.self.inside.last;
      closing = c.self.inside.closing;
    }) c.args.id c.in-Some.call.now c.self.invariant (sym c.in-Some.ensures.value))

pub returns-clause-law : goal.returns-clause-law
returns-clause-law c = invariant_of-self-2 c

pub invariant_of-self-then-is_half_closed : goal.invariant_of-self-then-is_half_closed
invariant_of-self-then-is_half_closed c =
    let same =
    (c.get_mut.follows.holds c.in-Some.call.now).0
    ∙ set_value_same (nat_eq c.args.id) c.self.inside.calls.entries c.in-Some.call.now
    (sym c.in-Some.ensures.value) in
    rw same c.self.invariant

pub returns-then-is_half_closed-clause-law : goal.returns-then-is_half_closed-clause-law
returns-then-is_half_closed-clause-law c =
    let same =
    (c.get_mut.follows.holds c.in-Some.call.now).0
    ∙ set_value_same (nat_eq c.args.id) c.self.inside.calls.entries c.in-Some.call.now
    (sym c.in-Some.ensures.value) in
    rw same c.self.invariant

pub returns-then-is_half_closed-clause-announced : goal.returns-then-is_half_closed-clause-announced
returns-then-is_half_closed-clause-announced c =
    let same =
    (c.get_mut.follows.holds c.in-Some.call.now).0
    ∙ set_value_same (nat_eq c.args.id) c.self.inside.calls.entries c.in-Some.call.now
    (sym c.in-Some.ensures.value) in
    let other : nat_eq c.args.id 0 ≡ false =
    ne_eqb c.args.id 0 (λ e. omega (arith, e, c.if-id-eq0.false)) in
    rw (same, ← c.self.view_is)
    (sym (announce-half_closed (record {
      connection = c.self.inside.connection;
      calls = c.self.inside.calls.entries;
      last = c.self.inside.last;
      closing = c.self.inside.closing;
    }) c.args.id c.in-Some.call.now other (sym c.in-Some.ensures.value)
    (sym c.is_half_closed.ensures ∙ c.if-is_half_closed.true)))
