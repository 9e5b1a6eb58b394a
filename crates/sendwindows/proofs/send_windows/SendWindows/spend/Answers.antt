use Rattle.std.proofs.Common.{sym, refl, arith}
use Rattle.limits.proofs.Entries.{set-same}
use Rattle.sendwindows.proofs.Balances.{spend_keeps}
use Rattle.sendwindows.proofs.send_windows.SendWindows.spend.Goals as goal

pub invariant_of-self-2 : goal.invariant_of-self-2
invariant_of-self-2 c =
    spend_keeps c.self.inside.balances.entries _ c.args.id c.args.len c.self.inside.shared
    c.take_out.new.self c.in-Some.balance.now c.take_out.new.balance c.self.invariant
    (sym c.in-Some.ensures.value) (c.get_mut.follows.holds c.take_out.new.balance).0
    c.take_out.ensures.connection c.take_out.ensures.balance
    (omega (arith, c.room.ensures, c.if-len-room.false))

pub returns-clause-law : goal.returns-clause-law
returns-clause-law c = invariant_of-self-2 c

pub invariant_of-self-then-len-room : goal.invariant_of-self-then-len-room
invariant_of-self-then-len-room c =
    let same =
    set-same c.args.id c.in-Some.balance.now c.in-Some.balance.now c.self.inside.balances.entries _
    (sym c.in-Some.ensures.value) (c.get_mut.follows.holds c.in-Some.balance.now).0 refl in
    rw same c.self.invariant

pub returns-then-len-room-clause-unchanged : goal.returns-then-len-room-clause-unchanged
returns-then-len-room-clause-unchanged c =
    let same =
    set-same c.args.id c.in-Some.balance.now c.in-Some.balance.now c.self.inside.balances.entries _
    (sym c.in-Some.ensures.value) (c.get_mut.follows.holds c.in-Some.balance.now).0 refl in
    rw (same, ← c.self.view_is) refl

pub returns-then-len-room-clause-law : goal.returns-then-len-room-clause-law
returns-then-len-room-clause-law c = invariant_of-self-then-len-room c
