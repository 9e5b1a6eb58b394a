-- The first bytes of some bytes and the zeros after them.
use Rattle.std.proofs.Common.{
  ◌≡◌,
  ℕ,
  zero,
  suc,
  ◌+◌,
  ◌-◌,
  ◌≤◌,
  min,
  List,
  [],
  ◌∷◌,
  ◌++◌,
  length,
  take,
  drop,
  replicate,
  refl,
  sym,
  ap,
  ◌∙◌,
  arith,
  inl,
  inr,
}
use Rattle.std.proofs.lemmas.Bool.{cases_lt}
use Rattle.std.proofs.lemmas.List.{
  take-replicate,
  take_all,
  take-take,
  length-replicate,
  get_or_append_left,
  get_or-append_right,
  get_or-replicate,
  get_or_past,
}
use Rattle.lpm.specs.Messages.{AreBytes}
use Rattle.lpm.specs.Fronts.{extent_of}
use Rattle.lpm.proofs.Tails.{extent_of-take}

zeros_upto : (zeros k m n : ℕ) → k ≤ m → n ≡ min zeros k
    → take {A = ℕ} n (replicate m 0) ≡ take {A = ℕ} k (replicate {A = ℕ} zeros 0)
zeros_upto zeros k m n room is = elim (cases_lt k zeros) [
  | inl few ↦
      let all : n ≡ k = omega (arith, is, few) in
      rw all (take-replicate {X = ℕ} k m 0 room
      ∙ sym (take-replicate {X = ℕ} k zeros 0 (omega (arith, few))))
  | inr all ↦
      let every : n ≡ zeros = omega (arith, is, all) in
      rw every (take-replicate {X = ℕ} zeros m 0 (omega (arith, all, room))
      ∙ sym (take_all k (replicate {A = ℕ} zeros 0)
      (omega (arith, length-replicate {A = ℕ} zeros 0, all))))
]

-- as many zeros as are needed, or more
padded_upto : (front : List ℕ) (zeros k m n : ℕ) → k ≤ length front + m
    → n ≡ min (length front + zeros) k
    → take n (front ++ replicate m 0) ≡ take k (front ++ replicate zeros 0)
padded_upto [] zeros k m n room is =
    zeros_upto zeros k m n (omega (arith, room)) (omega (arith, is))
padded_upto (byte ∷ front) added zero m n room is =
    let none : n ≡ 0 = omega (arith, is) in
    rw none refl
padded_upto (byte ∷ front) added (suc k) m zero room is = absurd (omega (arith, is))
padded_upto (byte ∷ front) added (suc k) m (suc n) room is =
    ap (λ (bytes : List ℕ). byte ∷ bytes)
    (padded_upto front added k m n (omega (arith, room)) (omega (arith, is)))

-- some bytes, and zeros in the place of those that are missing
pub padded_from : (front : List ℕ) (k m n : ℕ) → k ≤ length front + m → n ≡ min (length front) k
    → take n front ++ drop {A = ℕ} n (replicate k 0) ≡ take k (front ++ replicate m 0)
padded_from [] k m n room is =
    let none : n ≡ 0 = omega (arith, is) in
    rw none (sym (take-replicate {X = ℕ} k m 0 (omega (arith, room))))
padded_from (byte ∷ front) zero m n room is = let none : n ≡ 0 = omega (arith, is) in rw none refl
padded_from (byte ∷ front) (suc k) m zero room is = absurd (omega (arith, is))
padded_from (byte ∷ front) (suc k) m (suc n) room is =
    ap (λ (bytes : List ℕ). byte ∷ bytes)
    (padded_from front k m n (omega (arith, room)) (omega (arith, is)))

pub AreBytes-padded : (front : List ℕ) (zeros : ℕ) → AreBytes front
    → AreBytes (front ++ replicate zeros 0)
AreBytes-padded front zeros fits i = elim (cases_lt i (length front)) [
  | inl lt ↦ rw (get_or_append_left front (replicate {A = ℕ} zeros 0) 0 i lt) (fits i)
  | inr le ↦
      rw (get_or-append_right front (replicate {A = ℕ} zeros 0) (length front) i 0 refl le)
      (elim (cases_lt (i - length front) zeros) [
        | inl within ↦
            rw (get_or-replicate {A = ℕ} zeros (i - length front) 0 0 within) (omega arith)
        | inr past ↦
            rw (get_or_past (replicate {A = ℕ} zeros 0) (i - length front) 0
            (omega (arith, length-replicate {A = ℕ} zeros 0, past))) (omega arith)
      ])
]

pub extent_of-padded : (front prefix : List ℕ) (zeros n : ℕ)
    → prefix ≡ take 5 (front ++ replicate 5 0) → n ≡ min (length front + zeros) 5
    → extent_of (take n prefix) ≡ extent_of (front ++ replicate zeros 0)
extent_of-padded front prefix zeros n known is =
    ap (λ (bytes : List ℕ). extent_of (take n bytes)) known
    ∙ ap extent_of (take-take n 5 (front ++ replicate 5 0) (omega (arith, is)))
    ∙ ap extent_of (padded_upto front zeros 5 5 n (omega arith) is)
    ∙ extent_of-take (front ++ replicate zeros 0)
