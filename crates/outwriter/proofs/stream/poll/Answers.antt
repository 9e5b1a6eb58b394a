use Rattle.std.proofs.Common.{rules, ◌≡◌, [], ◌∷◌, ◌++◌, inr, refl, ap, ◌∙◌}
use Rattle.account.specs.declared.call.OutItem.{OutItem}
use Rattle.account.specs.declared.call.OutItem.TheVariants.{Left}
use Rattle.outwriter.proofs.ServeStepsTake.{left-nothing}
use Rattle.outwriter.proofs.stream.poll.Goals as goal

pub returns-in-Some-Left-clause-ok : goal.returns-in-Some-Left-clause-ok
returns-in-Some-Left-clause-ok g c =
    let before = g.L.Lane.got c.args.sender.now.rx in
    let after = g.L.Lane.got c.next.follows.lender-at-none.rx in
    let one = c.in-Some-Left.field-0.now in
    let got : after ≡ before ++ one ∷ [] = search rules in
    let is : one ≡ Left = search rules in (
      inr (got ∙ ap (λ (item : OutItem). before ++ item ∷ []) is),
      left-nothing before after (g.L.Lane.ahead c.next.follows.lender-at-none.rx) one is got,
      refl,
    )
