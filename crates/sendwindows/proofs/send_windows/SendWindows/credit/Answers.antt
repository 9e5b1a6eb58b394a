use Rattle.std.proofs.Common.{sym, refl}
use Rattle.limits.proofs.Entries.{set-same}
use Rattle.sendwindows.proofs.Balances.{credit_keeps, on-err}
use Rattle.sendwindows.proofs.send_windows.SendWindows.credit.Goals as goal

pub invariant_of-self-2 : goal.invariant_of-self-2
invariant_of-self-2 c =
    credit_keeps c.self.inside.balances.entries _ c.args.id c.self.inside.shared.connection
    c.self.inside.shared.initial c.args.increment c.in-Some.balance.now
    c.credit_stream.new.balance c.self.invariant
    (sym c.in-Some.ensures.value) (c.get_mut.follows.holds c.credit_stream.new.balance).0
    c.in_ok-credit_stream.ensures.ok c.in_ok-credit_stream.ensures.fits

pub returns-clause-law : goal.returns-clause-law
returns-clause-law c = invariant_of-self-2 c

pub invariant_of-self-in_err-credit_stream : goal.invariant_of-self-in_err-credit_stream
invariant_of-self-in_err-credit_stream c =
    let same =
    set-same c.args.id c.in-Some.balance.now c.credit_stream.new.balance
    c.self.inside.balances.entries _ (sym c.in-Some.ensures.value)
    (c.get_mut.follows.holds c.credit_stream.new.balance).0
    c.in_err-credit_stream.ensures.unchanged in rw same c.self.invariant

pub returns-in_err-credit_stream-clause-unchanged :
    goal.returns-in_err-credit_stream-clause-unchanged
returns-in_err-credit_stream-clause-unchanged c =
    let same =
    set-same c.args.id c.in-Some.balance.now c.credit_stream.new.balance
    c.self.inside.balances.entries _ (sym c.in-Some.ensures.value)
    (c.get_mut.follows.holds c.credit_stream.new.balance).0
    c.in_err-credit_stream.ensures.unchanged in
    on-err c.from_residual-in_err-credit_stream.result _ (rw (same, ← c.self.view_is) refl)

pub returns-in_err-credit_stream-clause-law : goal.returns-in_err-credit_stream-clause-law
returns-in_err-credit_stream-clause-law c = invariant_of-self-in_err-credit_stream c
