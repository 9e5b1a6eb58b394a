use Rattle.std.proofs.Common.{◌∙◌, ◌++◌, ◌∷◌, [], ap, refl}
use Rattle.readerloop.specs.Kept.{accounts_of, unsettled}
use Rattle.readerloop.proofs.KeptCalls.{kept-add, kept-as}
use Rattle.readerloop.proofs.calls.Calls.add.Goals as goal

pub returns-clause-heard : goal.returns-clause-heard
returns-clause-heard g c = λ sent head told fresh going k.
    let calls = c.args.self.now in
    kept-as _ _ _ _ _ _ _ c.push_reserved.ensures.items
    (c.push_reserved-place.ensures.items
    ∙ ap (λ account. accounts_of calls ++ account ∷ []) c.unserved.ensures) refl
    (kept-add told (unsettled calls) (accounts_of calls) calls.last c.args.call head
    c.requires.above c.requires.place going fresh k)
