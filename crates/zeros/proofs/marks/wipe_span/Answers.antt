use Rattle.std.proofs.Common.{ℕ, ◌≡◌, ◌-◌, ◌∙◌, length, take, drop, replicate, refl, ap, arith}
use Rattle.std.proofs.lemmas.List.{length-take-le, length-drop}
use Rattle.zeros.proofs.Wiped.{wiped_more}
use Rattle.zeros.proofs.marks.wipe_span.Goals as goal

pub returns-clause-wiped : goal.returns-clause-wiped
returns-clause-wiped c =
    let from = c.args.span.from in
    let to = c.args.span.to in
    let bytes = c.args.bytes.now in
    let long : length (take (to - from) (drop from bytes)) ≡ to - from =
    length-take-le (to - from) (drop from bytes)
    (omega (arith, length-drop from bytes, c.requires.1)) in
    let filled : c.fill.new.self ≡ replicate (to - from) 0 =
    c.fill.ensures.after (λ y h. cc) ∙ ap (λ (n : ℕ). replicate n 0) long in
    λ marked.
    wiped_more marked c.args.span bytes c.fill.new.self (drop (to - from) (drop from bytes))
    c.requires.0 c.requires.1 filled refl
