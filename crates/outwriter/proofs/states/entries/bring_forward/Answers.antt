use Rattle.std.proofs.Common.{refl}
use Rattle.std.proofs.lemmas.List.Sorted.{All-permutation}
use Rattle.outwriter.specs.States.{Fits}
use Rattle.outwriter.proofs.StateLemmas.{settled-swap}
use Rattle.outwriter.proofs.states.entries.bring_forward.Goals as goal

pub returns-clause-settled : goal.returns-clause-settled
returns-clause-settled c =
    settled-swap c.args.streams.now.entries c.args.place c.args.owing c.if-place-owing.false
    c.requires.place c.requires.settled _ refl
    c.swap_indices.new.self.entries c.swap_indices.ensures.entries
    c.swap_indices.ensures.reordered.1

pub returns-clause-fit : goal.returns-clause-fit
returns-clause-fit c = λ fit.
    All-permutation (λ x. Fits x.1) c.args.streams.now.entries c.swap_indices.new.self.entries
    c.swap_indices.ensures.reordered.0 fit
