use Rattle.std.proofs.Common.{◌≡◌, ◌<◌, ◌≤◌, ◌-◌, ◌%◌, ◌∙◌, ap, arith, length, slice_get, ℕ, List}
use Rattle.callparts.specs.declared.call_account.CallAccount.{CallAccount}
use Rattle.callparts.proofs.InBlocks.{block-get, block-within, item-copied, last-get}
use Rattle.callparts.proofs.accounts.Accounts.get.Goals as goal

pub index-requires : goal.index-requires
index-requires c =
    let s = c.args.self.now in
    let early : c.args.place < s.count - length s.last.items =
    omega (arith, c.if-place-before.true, c.len.ensures, s.last.ok.0) in
    omega (
      arith,
      block-within s.full.items s.last.items s.count c.args.place s.filled s.counted early,
      s.full.ok.0,
    )

pub returns-then-place-before : goal.returns-then-place-before
returns-then-place-before c =
    let s = c.args.self.now in
    let early : c.args.place < s.count - length s.last.items =
    omega (arith, c.if-place-before.true, c.len.ensures, s.last.ok.0) in
    item-copied _ _ _ c.get.ensures.lookup
    ∙ (ap (λ (xs : List CallAccount). slice_get xs (c.args.place % 64)) c.deref.ensures.value
    ∙ block-get s.full.items s.last.items s.count c.args.place s.filled s.counted c.index.result.now
    c.index.ensures early)

pub returns-else-place-before : goal.returns-else-place-before
returns-else-place-before c =
    let s = c.args.self.now in
    let len : c.len.result ≡ length s.last.items = c.len.ensures ∙ s.last.ok.0 in
    let late : s.count - length s.last.items ≤ c.args.place =
    omega (arith, c.if-place-before.false, len) in
    item-copied _ _ _ c.get-else-place-before.ensures.lookup
    ∙ (ap (λ (xs : List CallAccount). slice_get xs (c.args.place - (s.count - c.len.result)))
    c.deref-else-place-before.ensures.value
    ∙ (ap (λ (n : ℕ). slice_get s.last.items (c.args.place - (s.count - n))) len
    ∙ last-get s.full.items s.last.items s.count c.args.place s.filled s.counted late))
