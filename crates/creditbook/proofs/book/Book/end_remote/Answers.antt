use Rattle.std.proofs.Common.{◌≡◌, ℕ, List, ◌∙◌, OnOk, nat_eq, subst, sym, true}
use Rattle.std.proofs.lemmas.Map.Steps.{set_value_same}
use Rattle.creditbook.specs.Books.{Books, after_cut}
use Rattle.creditbook.specs.declared.book.Call.{Call}
use Rattle.creditbook.proofs.BookLemmas.{end_remote-lawful, cut-is-end_remote}
use Rattle.creditbook.proofs.book.Book.end_remote.Goals as goal

pub invariant_of-self-2 : goal.invariant_of-self-2
invariant_of-self-2 c =
    let call = c.in-Some.call.now in
    let new : Call =
    record { counts = call.counts; marks = record { remote = true; local = call.marks.local } } in
    rw (c.get_mut.follows.holds new).0
    (end_remote-lawful (record {
      connection = c.self.inside.connection;
      calls = c.self.inside.calls.entries;
      last = c.self.inside.last;
      closing = c.self.inside.closing;
    }) c.args.id c.in-Some.call.now c.self.invariant (sym c.in-Some.ensures.value) c.if-call.false)

pub returns-clause-law : goal.returns-clause-law
returns-clause-law c = invariant_of-self-2 c

pub invariant_of-self-then-call : goal.invariant_of-self-then-call
invariant_of-self-then-call c =
    let same =
    (c.get_mut.follows.holds c.in-Some.call.now).0
    ∙ set_value_same (nat_eq c.args.id) c.self.inside.calls.entries c.in-Some.call.now
    (sym c.in-Some.ensures.value) in
    rw same c.self.invariant

pub returns-then-call-clause-ok : goal.returns-then-call-clause-ok
returns-then-call-clause-ok c =
    let same =
    (c.get_mut.follows.holds c.in-Some.call.now).0
    ∙ set_value_same (nat_eq c.args.id) c.self.inside.calls.entries c.in-Some.call.now
    (sym c.in-Some.ensures.value) in
    let ok =
    subst (λ (calls : List (ℕ × Call)).
    OnOk c.cut.result (c.cut.new.self
    ≡ after_cut (record {
      connection = c.self.inside.connection;
      calls = calls;
      last = c.self.inside.last;
      closing = c.self.inside.closing;
    }) c.args.id)) same c.cut.ensures.ok in
    rw (← c.self.view_is)
    (subst (λ (b : Books). OnOk c.cut.result (c.cut.new.self ≡ b)) (cut-is-end_remote (record {
      connection = c.self.inside.connection;
      calls = c.self.inside.calls.entries;
      last = c.self.inside.last;
      closing = c.self.inside.closing;
    }) c.args.id c.in-Some.call.now (sym c.in-Some.ensures.value) c.if-call.true) ok)
