use Rattle.session.proofs.OpeningBlocks.{block_opens, block_trails}
use Rattle.session.proofs.block.block_events.Goals as goal

pub returns-in-Open : goal.returns-in-Open
returns-in-Open c =
    record {
      ok =
          block_opens _ _ _ _ _ _ _ _ _ _ _ _ c.in-Open.is c.in-Ok.ensures.ok
          c.as_slice.ensures.value c.head_events.ensures;
    }

pub returns-in-Accept : goal.returns-in-Accept
returns-in-Accept c =
    record {
      ok =
          block_trails _ _ _ _ _ _ _ _ _ _ _ _ c.in-Accept.is c.in-Ok.ensures.ok
          c.as_slice-in-Accept.ensures.value c.trailer_events.ensures.events
          c.trailer_events.ensures.follows;
    }
