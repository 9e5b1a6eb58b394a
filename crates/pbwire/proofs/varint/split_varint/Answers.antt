use Rattle.std.proofs.Common.{◌≡◌, ℕ, ◌-◌, List, length, take, drop, Ok, sym, ap, ◌∙◌, arith}
use Rattle.std.proofs.lemmas.List.{take_all, length-drop}
use Rattle.std.proofs.lemmas.Result.{err_from_is_err_and}
use Rattle.pbwire.proofs.Varints.{reads_varint, reads_fault, taken}
use Rattle.pbwire.proofs.varint.split_varint.Goals as goal

pub returns-in_err-number : goal.returns-in_err-number
returns-in_err-number c =
    let p = err_from_is_err_and c.from_residual.result c.from_residual.ensures.1 in
    rw (p.1, p.2) (reads_fault c.args.bytes.now _ c.in_err-number.ensures.err)

pub returns : goal.returns
returns c =
    let bytes = c.args.bytes.now in
    let len = c.in_ok-number.len in
    let all : take (length bytes - len) (drop len bytes) ≡ drop len bytes =
    take_all _ (drop len bytes) (omega (arith, length-drop len bytes)) in
    reads_varint bytes c.in_ok-number.number (drop len bytes)
    (taken bytes c.in_ok-number.number len c.in_ok-number.ensures.ok)
    ∙ ap (λ (t : List ℕ). Ok (c.in_ok-number.number, t)) (sym all)
