use Rattle.std.proofs.Common.{None, sym}
use Rattle.callbox.specs.InSides.{shut_of}
use Rattle.callbox.proofs.InLemmas.{counts_in, ends_at_shut-open, fits_open}
use Rattle.callbox.proofs.in_side.settle_open.Goals as goal

pub returns : goal.returns
returns g c =
    let put = g.L.Lane.put_in c.args.feeder.tx in
    let begins = c.settle.ensures.lawful.begins in
    record {
      account = λ messages t.
          counts_in (g.L.Lane.got c.args.taker.rx) put begins.0 c.args.taker.progress None
          c.args.feeder.fed messages (sym begins.1) (ends_at_shut-open put c.args.feeder.unshut)
          (fits_open (shut_of put) c.args.feeder.unshut) c.args.feeder.counted t;
    }
