use Rattle.std.proofs.Common.{◌∙◌, ◌++◌, ◌∷◌, [], ap, refl}
use Rattle.readerloop.specs.Kept.{accounts_of, unsettled}
use Rattle.readerloop.proofs.KeptCalls.{kept-as, kept-pass}
use Rattle.readerloop.proofs.calls.Calls.pass_over.Goals as goal

pub returns-clause-heard : goal.returns-clause-heard
returns-clause-heard g c = λ sent head why told named going k.
    let calls = c.args.self.now in
    kept-as _ _ _ _ _ _ _ refl
    (c.push_reserved-place.ensures.items
    ∙ ap (λ account. accounts_of calls ++ account ∷ []) c.unserved.ensures) refl
    (kept-pass told (unsettled calls) (accounts_of calls) calls.last c.args.id c.args.method head
    why c.requires.above going named k)
