use Rattle.std.proofs.Common.{◌≡◌, ℕ, ◌+◌, false, eqb, ◌++◌, length, replicate, ap, ◌∙◌, arith}
use Rattle.std.proofs.lemmas.List.{length-append, length-replicate}
use Rattle.lpm.proofs.OneMessage.{frame_by_length, no_frame, tested}
use Rattle.lpm.proofs.Padded.{extent_of-padded, AreBytes-padded}
use Rattle.lpm.proofs.front.is_frame_with.Goals as goal

pub returns-in-Ok-clause-computed : goal.returns-in-Ok-clause-computed
returns-in-Ok-clause-computed c =
    let front = c.args.front.now in
    let zeros = c.args.zeros in
    let bytes = front ++ replicate {A = ℕ} zeros 0 in
    let fits = AreBytes-padded front zeros (λ i. omega (arith, c.type_inv.front i)) in
    let says =
    c.in-Ok.ensures.extent
    ∙ extent_of-padded front c.padded-prefix.result zeros c.min.result
    c.padded-prefix.ensures (omega arith) in
    let len : length front + zeros ≡ length bytes = omega
    (arith, length-append front (replicate {A = ℕ} zeros 0), length-replicate {A = ℕ} zeros 0) in
    ap (eqb c.in-Ok.total) len ∙ frame_by_length bytes c.in-Ok.total fits says

pub returns-in-Ok-clause-frame : goal.returns-in-Ok-clause-frame
returns-in-Ok-clause-frame c =
    let front = c.args.front.now in
    let zeros = c.args.zeros in
    let bytes = front ++ replicate {A = ℕ} zeros 0 in
    let fits = AreBytes-padded front zeros (λ i. omega (arith, c.type_inv.front i)) in
    let says =
    c.in-Ok.ensures.extent
    ∙ extent_of-padded front c.padded-prefix.result zeros c.min.result
    c.padded-prefix.ensures (omega arith) in
    let len : length front + zeros ≡ length bytes = omega
    (arith, length-append front (replicate {A = ℕ} zeros 0), length-replicate {A = ℕ} zeros 0) in
    tested bytes (eqb c.in-Ok.total (length front + zeros)) fits
    (ap (eqb c.in-Ok.total) len ∙ frame_by_length bytes c.in-Ok.total fits says)

pub returns-in-Err-clause-computed : goal.returns-in-Err-clause-computed
returns-in-Err-clause-computed c =
    let front = c.args.front.now in
    let zeros = c.args.zeros in
    let fits = AreBytes-padded front zeros (λ i. omega (arith, c.type_inv.front i)) in
    let says =
    c.in-Err.ensures.extent
    ∙ extent_of-padded front c.padded-prefix.result zeros c.min.result
    c.padded-prefix.ensures (omega arith) in
    no_frame (front ++ replicate {A = ℕ} zeros 0) c.in-Err._fault fits says

pub returns-in-Err-clause-frame : goal.returns-in-Err-clause-frame
returns-in-Err-clause-frame c =
    let front = c.args.front.now in
    let zeros = c.args.zeros in
    let bytes = front ++ replicate {A = ℕ} zeros 0 in
    let fits = AreBytes-padded front zeros (λ i. omega (arith, c.type_inv.front i)) in
    let says =
    c.in-Err.ensures.extent
    ∙ extent_of-padded front c.padded-prefix.result zeros c.min.result
    c.padded-prefix.ensures (omega arith) in
    tested bytes false fits (no_frame bytes c.in-Err._fault fits says)
