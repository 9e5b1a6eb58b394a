use Rattle.std.proofs.Common.{◌≡◌, ◌++◌, ◌∷◌, [], ◌∙◌, None, refl, arith, nat_eq}
use Rattle.std.specs.Map.{lookup}
use Rattle.indexmap.proofs.CallerLemmas.{insert_entry-new}
use Rattle.creditbook.specs.Books.{new_call}
use Rattle.creditbook.proofs.BookLemmas.{absent, admit-lawful, admit-moves}
use Rattle.creditbook.proofs.book.Book.admit.Goals as goal

pub invariant_of-self-2 : goal.invariant_of-self-2
invariant_of-self-2 c =
    let none : lookup (nat_eq c.args.id) c.self.inside.calls.entries ≡ None =
    absent c.self.inside.calls.entries c.args.id c.self.inside.last c.self.invariant.at_most_last
    (rw (← c.self.view_is) at c.requires.above) in
    let new : c.insert.new.self.entries ≡ c.self.inside.calls.entries
    ++ (c.args.id, new_call) ∷ [] =
    c.in_ok-insert.ensures.entries
    ∙ insert_entry-new nat_eq c.self.inside.calls c.args.id new_call none in
    rw new (admit-lawful (record {
      connection = c.self.inside.connection;
      calls = c.self.inside.calls.entries;
      last = c.self.inside.last;
      closing = c.self.inside.closing;
    }) c.args.id c.self.invariant (omega arith) c.requires.odd
    (rw (← c.self.view_is) at c.requires.above))

pub returns-clause-ok : goal.returns-clause-ok
returns-clause-ok c =
    let none : lookup (nat_eq c.args.id) c.self.inside.calls.entries ≡ None =
    absent c.self.inside.calls.entries c.args.id c.self.inside.last c.self.invariant.at_most_last
    (rw (← c.self.view_is) at c.requires.above) in
    let new : c.insert.new.self.entries ≡ c.self.inside.calls.entries
    ++ (c.args.id, new_call) ∷ [] =
    c.in_ok-insert.ensures.entries
    ∙ insert_entry-new nat_eq c.self.inside.calls c.args.id new_call none in
    rw (new, ← c.self.view_is) refl

pub returns-clause-law : goal.returns-clause-law
returns-clause-law c = invariant_of-self-2 c

pub returns-clause-moves : goal.returns-clause-moves
returns-clause-moves c =
    let none : lookup (nat_eq c.args.id) c.self.inside.calls.entries ≡ None =
    absent c.self.inside.calls.entries c.args.id c.self.inside.last c.self.invariant.at_most_last
    (rw (← c.self.view_is) at c.requires.above) in
    let new : c.insert.new.self.entries ≡ c.self.inside.calls.entries
    ++ (c.args.id, new_call) ∷ [] =
    c.in_ok-insert.ensures.entries
    ∙ insert_entry-new nat_eq c.self.inside.calls c.args.id new_call none in
    rw (new, ← c.self.view_is) (admit-moves (record {
      connection = c.self.inside.connection;
      calls = c.self.inside.calls.entries;
      last = c.self.inside.last;
      closing = c.self.inside.closing;
    }) c.args.id)
