use Rattle.std.proofs.Common.{refl, Result, Ok, Err, OnOk}
use Rattle.std.specs.Prelude.{◌&&◌, not}
use Rattle.outwriter.specs.Histories.{is_stream}
use Rattle.outwriter.specs.States.{knows}
use Rattle.outwriter.proofs.RunStateSteps.{open-led}
use Rattle.outwriter.proofs.WindowRuns.{open-taken}
use Rattle.outwriter.proofs.outbound.Outbound.take_open.Goals as goal

all : {X E A B C D F G H : Type 0} (r : Result X E) → (A → B → C → D → F → G → H) → OnOk r A
    → OnOk r B → OnOk r C → OnOk r D → OnOk r F → OnOk r G → OnOk r H
all (Ok x) g a b c d f h = g a b c d f h
all (Err e) g a b c d f h = tt

pub returns-clause-taken : goal.returns-clause-taken
returns-clause-taken c = all c.open_state.result
    (λ owed pays known resets ends windows run m.
    open-led c.args.id run _ _ _ _ _ _
    (is_stream c.args.id && not (knows c.args.self.now.states c.args.id)) c.args.self.now.states
    c.open_state.new.states refl
    owed pays known resets ends (open-taken run c.args.id c.args.self.now.states
    c.open_state.new.states m.stand.over m.stand.resets windows m.windows_follow) m)
    c.open_state.ensures.owed c.open_state.ensures.pays c.open_state.ensures.known
    c.open_state.ensures.resets c.open_state.ensures.over c.open_state.ensures.windows
