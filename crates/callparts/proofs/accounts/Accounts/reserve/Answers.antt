use Rattle.std.proofs.Common.{◌≡◌, ◌∙◌, ◌++◌, ◌∷◌, [], ap, arith, length, sym, List}
use Rattle.std.specs.Global.{Vec}
use Rattle.callparts.specs.Blocks.{are_full}
use Rattle.callparts.specs.declared.call_account.CallAccount.{CallAccount}
use Rattle.callparts.proofs.InBlocks.{full-push, joined, joined-push}
use Rattle.callparts.proofs.accounts.Accounts.reserve.Goals as goal

pub invariant_of-self-2-clause-filled : goal.invariant_of-self-2-clause-filled
invariant_of-self-2-clause-filled c =
    let s = c.args.self.now in
    let long : length s.last.items ≡ 64 =
    omega (arith, c.if-len-lt-BLOCK.false, c.len.ensures, s.last.ok.0, s.bounded) in
    ap are_full (c.push_reserved.ensures.items
    ∙ ap (λ (blocks : List (Vec CallAccount)). blocks ++ c.replace-full.result ∷ [])
    c.reserve-2.ensures.items)
    ∙ full-push s.full.items c.replace-full.result s.filled
    (ap (λ (block : Vec CallAccount). length block.items) c.replace-full.ensures.value ∙ long)

pub invariant_of-self-2-clause-counted : goal.invariant_of-self-2-clause-counted
invariant_of-self-2-clause-counted c =
    let s = c.args.self.now in
    let last = c.replace-full.new.dest in
    let none : last.items ≡ [] =
    ap (λ (block : Vec CallAccount). block.items) c.replace-full.ensures.after
    ∙ c.in_ok-block.ensures.items in
    s.counted
    ∙ sym (ap length (ap (λ (blocks : List (Vec CallAccount)). joined blocks ++ last.items)
    (c.push_reserved.ensures.items
    ∙ ap (λ (blocks : List (Vec CallAccount)). blocks ++ c.replace-full.result ∷ [])
    c.reserve-2.ensures.items)
    ∙ (joined-push s.full.items c.replace-full.result last.items none
    ∙ ap (λ (block : Vec CallAccount). joined s.full.items ++ block.items)
    c.replace-full.ensures.value)))
