-- Bytes that are joined never go past the message that begins there.
use Rattle.std.proofs.Common.{
  ◌≡◌,
  ℕ,
  ◌+◌,
  ◌≤◌,
  Bool,
  true,
  false,
  cond,
  List,
  ◌++◌,
  length,
  Result,
  Ok,
  sym,
  ap,
  ◌∙◌,
  arith,
  inl,
  inr,
}
use Rattle.std.proofs.lemmas.Bool.{cases_lt}
use Rattle.std.proofs.lemmas.List.{length-append, take-append-le}
use Rattle.lpm.specs.declared.fault.LpmFault.{LpmFault}
use Rattle.lpm.specs.Fronts.{extent_of}
use Rattle.lpm.proofs.Tails.{extent_of-le, extent_of-five, extent_of-take}

abbrev mine : ℕ → Result ℕ LpmFault
mine n = Ok n

ok_is : {m n : ℕ} → mine m ≡ mine n → m ≡ n
ok_is e = cc

-- behind a whole prefix nothing changes what it announces
extent_of-more : (bytes more : List ℕ) → 5 ≤ length bytes
    → extent_of (bytes ++ more) ≡ extent_of bytes
extent_of-more bytes more long =
    sym (extent_of-take (bytes ++ more)) ∙ ap extent_of (take-append-le 5 bytes more long)
    ∙ extent_of-take bytes

pub within_more : (bytes more : List ℕ) (len : ℕ) → extent_of bytes ≡ Ok len
    → length bytes + length more ≤ len
    → (total : ℕ) → extent_of (bytes ++ more) ≡ Ok total → length (bytes ++ more) ≤ total
within_more bytes more len e fits total says = elim (cases_lt (length bytes) 5) [
  | inl short ↦ omega (
    arith,
    length-append bytes more,
    extent_of-five bytes len short e,
    extent_of-le (bytes ++ more) total says,
    fits,
  )
  | inr long ↦
      let same : total ≡ len = ok_is (sym says ∙ extent_of-more bytes more long ∙ e) in
      omega (arith, length-append bytes more, same, fits)
]

-- whether or not there was memory for more
pub within_appended : (bytes more new : List ℕ) (ok : Bool) (len : ℕ) → extent_of bytes ≡ Ok len
    → length bytes + length more ≤ len → new ≡ cond ok (bytes ++ more) bytes
    → (total : ℕ) → extent_of new ≡ Ok total → length new ≤ total
within_appended bytes more new true len e fits is total says =
    omega
    (arith, ap length is, within_more bytes more len e fits total (ap extent_of (sym is) ∙ says))
within_appended bytes more new false len e fits is total says =
    let same : total ≡ len = ok_is (sym says ∙ ap extent_of is ∙ e) in
    omega (arith, ap length is, same, fits)
