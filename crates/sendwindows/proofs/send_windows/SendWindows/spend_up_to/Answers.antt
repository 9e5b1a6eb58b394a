use Rattle.std.proofs.Common.{◌≡◌, ◌-◌, ◌∙◌, ap, sym, refl, arith}
use Rattle.std.proofs.lemmas.Int.{ints}
use Rattle.limits.proofs.Entries.{set-same}
use Rattle.sendwindows.proofs.Balances.{spend_keeps}
use Rattle.sendwindows.specs.Windows.{SharedWindow}
use Rattle.sendwindows.proofs.send_windows.SendWindows.spend_up_to.Goals as goal

pub invariant_of-self-2 : goal.invariant_of-self-2
invariant_of-self-2 c =
    spend_keeps c.self.inside.balances.entries _ c.args.id c.spend_up_to.result c.self.inside.shared
    c.spend_up_to.new.self c.in-Some.balance.now c.spend_up_to.new.balance c.self.invariant
    (sym c.in-Some.ensures.value) (c.get_mut.follows.holds c.spend_up_to.new.balance).0
    c.spend_up_to.ensures.connection c.spend_up_to.ensures.balance
    (omega (arith, c.spend_up_to.ensures.value))

pub returns-clause-unchanged : goal.returns-clause-unchanged
returns-clause-unchanged c = λ none.
    let left : c.self.inside.shared.connection - c.spend_up_to.result
    ≡ c.self.inside.shared.connection = omega (arith, none) in
    let shared : c.spend_up_to.new.self ≡ c.self.inside.shared =
    c.spend_up_to.ensures.connection
    ∙ ap (λ n.
    let s : SharedWindow = record {
      connection = n;
      initial = c.self.inside.shared.initial;
    } in s) left in
    let balance : c.spend_up_to.new.balance ≡ c.in-Some.balance.now =
    c.spend_up_to.ensures.balance ∙ omega (arith, ints, none) in
    let same =
    set-same c.args.id c.in-Some.balance.now c.spend_up_to.new.balance
    c.self.inside.balances.entries _ (sym c.in-Some.ensures.value)
    (c.get_mut.follows.holds c.spend_up_to.new.balance).0 balance in
    rw (shared, same, ← c.self.view_is) refl

pub returns-clause-law : goal.returns-clause-law
returns-clause-law c = invariant_of-self-2 c
