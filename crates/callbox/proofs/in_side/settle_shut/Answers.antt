use Rattle.std.proofs.Common.{Some, sym}
use Rattle.callbox.specs.InSides.{shut_of}
use Rattle.callbox.proofs.InLemmas.{counts_in, fits_kind}
use Rattle.callbox.proofs.in_side.settle_shut.Goals as goal

pub returns : goal.returns
returns g c =
    let put = g.L.Lane.put_shut c.args.shut.shut in
    let begins = c.settle.ensures.lawful.begins in
    record {
      account = λ messages t.
          counts_in (g.L.Lane.got c.args.taker.rx) put begins.0 c.args.taker.progress
          (Some c.args.shut.kind) c.args.shut.fed messages (sym begins.1) c.args.shut.last
          (fits_kind (shut_of put) (g.L.Lane.was_placed c.args.shut.shut) c.args.shut.kind
          c.args.shut.put) c.args.shut.counted t;
    }
