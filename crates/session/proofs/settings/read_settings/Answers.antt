use Rattle.session.proofs.SettingSteps.{read_telling, read_silent}
use Rattle.session.proofs.settings.read_settings.Goals as goal

pub loop-rest-preserved-in_ok-push : goal.loop-rest-preserved-in_ok-push
loop-rest-preserved-in_ok-push c =
    rw c.in_ok-push.ensures.items (read_telling _ _ _ _ _ _ _ c.loop-rest.invariant
    c.split_at.ensures.front c.split_at.ensures.back c.loop-rest-test.true (cc)
    c.read-parameter.ensures.is (cc) (cc))

pub loop-rest-preserved : goal.loop-rest-preserved
loop-rest-preserved c =
    read_silent _ _ _ _ _ _ c.loop-rest.invariant c.split_at.ensures.front c.split_at.ensures.back
    c.loop-rest-test.true c.read-parameter.ensures.text c.read-parameter.ensures.is (cc) (cc)
