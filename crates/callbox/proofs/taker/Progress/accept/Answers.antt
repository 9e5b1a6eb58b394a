use Rattle.std.proofs.Common.{◌≡◌, [], ◌++◌, Some, ap, refl, ◌∙◌, rules}
use Rattle.std.proofs.lemmas.List.{append-nil}
use Rattle.callbox.specs.declared.piece.InPiece.{InPiece}
use Rattle.lane.proofs.KnownItems.{last_of_push}
use Rattle.callbox.proofs.TakerLemmas.{took_piece, took_shut}
use Rattle.callbox.proofs.taker.Progress.accept.Goals as goal

pub returns-then-is_err-clause-took : goal.returns-then-is_err-clause-took
returns-then-is_err-clause-took c = λ items item messages t is.
    let bytes = c.in-Bytes.bytes in
    took_piece items item bytes bytes c.args.self.now _ messages t (search rules) c.requires.read
    c.requires.unshut c.requires.untold (search rules)
    (last_of_push items item ∙ ap (λ (x : InPiece). Some x) (search rules)) (search rules)
    (search rules) (search rules)

pub returns-else-is_err-clause-took : goal.returns-else-is_err-clause-took
returns-else-is_err-clause-took c = λ items item messages t is.
    let bytes = c.in-Bytes.bytes in
    let pushed : c.push_shared.new.self ≡ c.args.self.now.splitter ++ bytes = search rules in
    took_piece items item bytes [] c.args.self.now _ messages t (search rules) c.requires.read
    c.requires.unshut c.requires.untold (append-nil c.push_shared.new.self ∙ pushed) (search rules)
    (search rules) (search rules) (search rules)

pub returns-in-Unshared-clause-took : goal.returns-in-Unshared-clause-took
returns-in-Unshared-clause-took c = λ items item messages t is.
    let unshared = rw c.in-Unshared.is at is in
    took_piece items item unshared.0 unshared.0 c.args.self.now _ messages t unshared.1
    c.requires.read c.requires.unshut c.requires.untold (search rules)
    (last_of_push items item ∙ ap (λ (x : InPiece). Some x) unshared.1) (search rules)
    (search rules) (search rules)

pub returns-in-Shut-clause-took : goal.returns-in-Shut-clause-took
returns-in-Shut-clause-took c = λ items item messages t is.
    took_shut items item c.in-Shut.shut c.args.self.now _ messages t (search rules)
    c.requires.read c.requires.unshut c.requires.untold (search rules) (search rules) refl
    (search rules) (search rules)
