use Rattle.std.proofs.Common.{false, sym}
use Rattle.callbox.proofs.OutLemmas.{counts_out, no_trailers, sent_open}
use Rattle.callbox.proofs.out_side.settle_open.Goals as goal

pub returns : goal.returns
returns g c =
    let put = g.L.Lane.put_in c.args.giver.tx in
    let got = g.L.Lane.got c.args.sender.rx in
    let begins = c.settle-settled.ensures.lawful.begins in
    record {
      account =
          counts_out put got c.settle-settled.result.put c.settle-settled.result.got false false
          c.args.giver.response begins c.settle-settled.ensures.put c.settle-settled.ensures.got
          (sym (no_trailers put c.args.giver.unshut))
          (sent_open put got begins (no_trailers put c.args.giver.unshut));
    }
