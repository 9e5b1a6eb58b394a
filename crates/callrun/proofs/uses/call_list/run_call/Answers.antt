use Rattle.std.proofs.Common.{◌≡◌, ◌⊎◌, ◌∙◌, ℕ, Bool, true, false, ap, subst, sym, rules, slice_get}
use Rattle.handlers.specs.Listed.{listed}
use Rattle.callrun.specs.Listings.{IsUntouched}
use Rattle.callrun.specs.Sides.{is_shut}
use Rattle.callrun.proofs.Turns.{over_so}
use Rattle.callrun.proofs.Listing.{late_so, run_whole}
use Rattle.callrun.proofs.uses.call_list.run_call.Goals as goal

pub returns-clause-run : goal.returns-clause-run
returns-clause-run g c =
    let at = λ (i : ℕ). slice_get (listed c.args.methods.now) i in
    let same_got : g.I.Lane.got c.leave.new.self.taker.rx ≡ g.I.Lane.got
    c.take_turns-turns.new.run.taker.rx = search rules in
    let same_progress : c.leave.new.self.taker.progress
    ≡ c.take_turns-turns.new.run.taker.progress = search rules in
    let untouched : IsUntouched (g.I.Lane.got c.new-run.result.taker.rx)
    c.new-run.result.taker.progress (g.O.Lane.put_in c.args.call.giver.tx) =
    rw c.new-run.ensures.taker c.requires.untouched in
    rw c.into_ends-taker.ensures.taker
    (run_whole _ _ _ _ _ _ _ _ _ _ _ _ _ _ _ _ _ _ _ _ _ _ _ _ _ _ _ _ _ _
    (ap at c.new-run.ensures.index_is)
    (ap at (c.take_turns-turns.ensures.same.0 ∙ c.new-run.ensures.index_is)) same_got same_progress
    untouched c.requires.untouched.1 c.new-run.ensures.hand c.leave.ensures.over
    (c.leave.ensures.same.2.0 ∙ c.take_turns-turns.ensures.same.1 ∙ c.new-run.ensures.head)
    (late_so _ _ _ _ _ _ c.new-run.ensures.early c.new-run.ensures.deadline c.leave.ensures.same.2.2
    c.take_turns-turns.ensures.overdue)
    c.into_ends-taker.ensures.outcome c.new-run.ensures.run c.take_turns-turns.ensures.run
    c.leave.ensures.run)

pub returns-clause-had : goal.returns-clause-had
returns-clause-had g c = record {
  why = c.take_turns-turns.ensures.why;
  over = λ is.
      subst (λ (shut : Bool). (shut ≡ true) ⊎ (c.ran_out-ran_out.result ≡ true) ⊎ g.O.Lane.MayMiss)
      (sym (c.into_ends-taker.ensures.shut ∙ c.leave.ensures.shut))
      (subst (λ (lacks : Bool).
      (is_shut c.take_turns-turns.new.run.response ≡ true) ⊎ (lacks ≡ true) ⊎ g.O.Lane.MayMiss)
      (sym c.ran_out-ran_out.ensures)
      (over_so _ c.take_turns-turns.new.run.response _ _ c.new-run.ensures.open
      c.take_turns-turns.new.run.there (c.take_turns-turns.ensures.over is)
      c.take_turns-turns.ensures.left));
}
