use Rattle.std.proofs.Common.{
  ◌≡◌,
  ◌<◌,
  ◌≤◌,
  ◌-◌,
  ◌/◌,
  ◌%◌,
  ◌++◌,
  ◌∙◌,
  ap,
  arith,
  refl,
  sym,
  length,
  ℕ,
}
use Rattle.std.specs.Prelude.{◌&&◌, nat_lt, set, vec_capacity}
use Rattle.std.proofs.lemmas.List.{length-set}
use Rattle.callparts.proofs.InBlocks.{
  block-long,
  block-set,
  block-stays,
  block-within,
  joined,
  last-set,
  place-small,
}
use Rattle.callparts.proofs.accounts.Accounts.set.Goals as goal

pub index_mut-requires : goal.index_mut-requires
index_mut-requires c =
    let s = c.args.self.now in
    let early : c.args.place < s.count - length s.last.items =
    omega (arith, c.if-place-before.true, c.len.ensures, s.last.ok.0) in
    omega (
      arith,
      block-within s.full.items s.last.items s.count c.args.place s.filled s.counted early,
      s.full.ok.0,
    )

pub index_mut-requires-then-place-before : goal.index_mut-requires-then-place-before
index_mut-requires-then-place-before c =
    let s = c.args.self.now in
    let early : c.args.place < s.count - length s.last.items =
    omega (arith, c.if-place-before.true, c.len.ensures, s.last.ok.0) in
    omega (
      arith,
      block-long s.full.items s.last.items s.count c.args.place s.filled s.counted
          c.index_mut.result.now c.index_mut.ensures.value early,
      place-small s.full.items s.last.items s.count c.args.place s.filled s.counted,
      c.index_mut.result.now.ok.0,
    )

pub invariant_of-self-clause-filled : goal.invariant_of-self-clause-filled
invariant_of-self-clause-filled c =
    let s = c.args.self.now in
    let early : c.args.place < s.count - length s.last.items =
    omega (arith, c.if-place-before.true, c.len.ensures, s.last.ok.0) in
    block-stays s.full.items s.last.items s.count c.args.place s.filled s.counted
    c.index_mut.result.now _ c.args.account c.index_mut.ensures.value early refl

pub invariant_of-self-clause-counted : goal.invariant_of-self-clause-counted
invariant_of-self-clause-counted c =
    let s = c.args.self.now in
    let early : c.args.place < s.count - length s.last.items =
    omega (arith, c.if-place-before.true, c.len.ensures, s.last.ok.0) in
    s.counted
    ∙ sym (ap length (block-set s.full.items s.last.items s.count c.args.place s.filled s.counted
    c.index_mut.result.now _ c.args.account c.index_mut.ensures.value early refl)
    ∙ length-set (joined s.full.items ++ s.last.items) c.args.place c.args.account)

pub returns-then-place-before : goal.returns-then-place-before
returns-then-place-before c =
    let s = c.args.self.now in
    let early : c.args.place < s.count - length s.last.items =
    omega (arith, c.if-place-before.true, c.len.ensures, s.last.ok.0) in
    record {
      items =
          block-set s.full.items s.last.items s.count c.args.place s.filled s.counted
          c.index_mut.result.now _ c.args.account c.index_mut.ensures.value early refl;
      room = refl;
    }

pub returns-else-place-before : goal.returns-else-place-before
returns-else-place-before c =
    let s = c.args.self.now in
    let len : c.len.result ≡ length s.last.items = c.len.ensures ∙ s.last.ok.0 in
    let late : s.count - length s.last.items ≤ c.args.place =
    omega (arith, c.if-place-before.false, len) in
    record {
      items =
          ap (λ (n : ℕ).
          joined s.full.items ++ set s.last.items (c.args.place - (s.count - n)) c.args.account) len
          ∙ last-set s.full.items s.last.items s.count c.args.place s.filled s.counted
          c.args.account late;
      room =
          ap (λ (n : ℕ).
          nat_lt n 64 && nat_lt n (vec_capacity s.last) && nat_lt s.count 18446744073709551615)
          (length-set s.last.items (c.args.place - (s.count - c.len.result)) c.args.account);
    }
