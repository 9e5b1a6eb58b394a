use Rattle.std.proofs.Common.{◌++◌, take}
use Rattle.std.proofs.lemmas.Result.{err_from_is_err_and}
use Rattle.device.proofs.BytesLemmas.{Consumes-twice}
use Rattle.device.proofs.whole.read_all.Goals as goal

pub returns-in_err-extend_from_slice-clause-prefix :
    goal.returns-in_err-extend_from_slice-clause-prefix
returns-in_err-extend_from_slice-clause-prefix g c =
    let p =
    err_from_is_err_and c.from_residual-in_err-extend_from_slice.result
    c.from_residual-in_err-extend_from_slice.ensures.1 in
    rw p.1 (
      c.reads.all.items ++ take c.in_ok-count.count c.read.new.buf,
      Consumes-twice _ _ _ _ _ c.reads.invariant.told c.in_ok-count.ensures.bytes.0,
    )
