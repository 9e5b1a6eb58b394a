-- What is read into the rest of a block.
use Rattle.std.proofs.Common.{
  ◌≡◌,
  ◌≤◌,
  ◌+◌,
  ◌-◌,
  ℕ,
  List,
  ◌++◌,
  length,
  take,
  drop,
  sym,
  ap,
  subst,
  ◌∙◌,
  append_assoc,
  arith,
}
use Rattle.std.proofs.lemmas.List.{take-append-drop, take_at, length-append, length-take-le}
use Rattle.std.proofs.Math.Seq.{take-append-add}

-- the front of a front
front_of : (p q : List ℕ) (n total : ℕ) → length p ≡ n → n ≤ total
    → take n (take total (p ++ q)) ≡ p
front_of p q n total len within =
    let parts : length p + (total - length p) ≡ total = omega (arith, len, within) in
    ap (λ (k : ℕ). take n (take k (p ++ q))) (sym parts)
    ∙ ap (λ (l : List ℕ). take n l) (take-append-add p q (total - length p))
    ∙ take_at p (take (total - length p) q) n len

regrouped : (before some more post rest : List ℕ)
    → (before ++ ((some ++ more) ++ post)) ++ rest ≡ (before ++ some) ++ (more ++ (post ++ rest))
regrouped before some more post rest =
    append_assoc before ((some ++ more) ++ post) rest
    ∙ ap (λ (l : List ℕ). before ++ l) (append_assoc (some ++ more) post rest)
    ∙ ap (λ (l : List ℕ). before ++ l) (append_assoc some more (post ++ rest))
    ∙ sym (append_assoc before some (more ++ (post ++ rest)))

-- of what stands after `before` the first n bytes are kept
pub read_part : (before buf post rest : List ℕ) (len n total : ℕ) → length before ≡ len
    → n ≤ length buf → len + n ≤ total
    → take (len + n) (take total ((before ++ (buf ++ post)) ++ rest)) ≡ before ++ take n buf
read_part before buf post rest len n total is fits within =
    let cut : take n buf ++ drop n buf ≡ buf = take-append-drop n buf in
    let kept : length (before ++ take n buf) ≡ len + n =
    omega (arith, is, length-append before (take n buf), length-take-le n buf fits) in
    ap (λ (b : List ℕ). take (len + n) (take total ((before ++ (b ++ post)) ++ rest))) (sym cut)
    ∙ ap (λ (l : List ℕ). take (len + n) (take total l))
    (regrouped before (take n buf) (drop n buf) post rest)
    ∙ front_of (before ++ take n buf) (drop n buf ++ (post ++ rest)) (len + n) total kept within
