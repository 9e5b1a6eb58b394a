use Rattle.std.proofs.Common.{sym, ◌∙◌}
use Rattle.callbox.proofs.OutLemmas.{counts_out, sent_open, sent_last}
use Rattle.callbox.proofs.out_side.settle_shut.Goals as goal

pub returns-then-trailers_given : goal.returns-then-trailers_given
returns-then-trailers_given g c =
    let put = g.L.Lane.put_shut c.args.shut.shut in
    let got = g.L.Lane.got c.args.sender.rx in
    let settled = c.settle-settled.ensures in
    let closed = sym c.has_trailers-trailers_given.ensures in
    record {
      account =
          counts_out put got c.settle-settled.result.put c.settle-settled.result.got
          c.has_trailers-trailers_given.result _ c.args.shut.response settled.lawful.begins
          settled.put settled.got (sym closed) (sent_last put got c.settle-settled.result.left
          c.args.shut.response settled.lawful.begins settled.left
          (closed ∙ c.if-trailers_given.true));
    }

pub returns-else-trailers_given : goal.returns-else-trailers_given
returns-else-trailers_given g c =
    let put = g.L.Lane.put_shut c.args.shut.shut in
    let got = g.L.Lane.got c.args.sender.rx in
    let settled = c.settle-settled.ensures in
    let closed = sym c.has_trailers-trailers_given.ensures in
    record {
      account =
          counts_out put got c.settle-settled.result.put c.settle-settled.result.got
          c.has_trailers-trailers_given.result c.has_trailers-trailers_given.result
          c.args.shut.response settled.lawful.begins settled.put settled.got (sym closed)
          (c.if-trailers_given.false
          ∙ sent_open put got settled.lawful.begins (closed ∙ c.if-trailers_given.false));
    }
