-- Worked examples of the definitions.
use Rattle.std.proofs.Common.{◌≡◌, ℕ, [], ◌∷◌, true, false, refl, arith}
use Rattle.lane.specs.Lawful.{IsLawful, count_of}

-- room for two and a last one: all three may wait
all_wait : IsLawful {T = ℕ} 2 true (7 ∷ 8 ∷ 9 ∷ []) []
all_wait = record { begins = (7 ∷ 8 ∷ 9 ∷ [], refl); within = omega arith }

-- without a last one the third is put once the first was got
one_got : IsLawful {T = ℕ} 2 false (7 ∷ 8 ∷ 9 ∷ []) (7 ∷ [])
one_got = record { begins = (8 ∷ 9 ∷ [], refl); within = omega arith }

-- three can't wait in room for two
too_many : IsLawful {T = ℕ} 2 false (7 ∷ 8 ∷ 9 ∷ []) [] → ⊥
too_many lawful = let h = lawful.within in omega arith

-- nothing is got before its turn
not_first : IsLawful {T = ℕ} 2 false (7 ∷ 8 ∷ []) (8 ∷ []) → ⊥
not_first lawful = let h = lawful.begins.1 in cc

counted : count_of {T = ℕ} (7 ∷ 8 ∷ []) ≡ 2
counted = refl
