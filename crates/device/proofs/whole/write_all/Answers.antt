use Rattle.std.proofs.Common.{◌++◌, take, rules}
use Rattle.device.proofs.BytesLemmas.{Appends-twice, prefix_longer}
use Rattle.device.proofs.whole.write_all.Goals as goal

pub writes-preserved : goal.writes-preserved
writes-preserved g c =
    let told = c.writes.invariant.told in
    record {
      told = (
        told.0 ++ take c.in_ok-count.count c.writes.rest.now,
        prefix_longer c.args.bytes.now told.0 c.writes.rest.now c.in_ok-count.count told.1,
        Appends-twice _ _ _ _ _ told.2 c.in_ok-count.ensures.bytes,
      );
      unmarked = search rules;
    }
