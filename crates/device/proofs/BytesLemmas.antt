-- Reads and writes in a row.
use Rattle.std.proofs.Common.{
  ◌≡◌,
  ◌∙◌,
  ◌-◌,
  ℕ,
  List,
  ◌++◌,
  Option,
  Some,
  None,
  ap,
  append_assoc,
  sym,
  take,
  drop,
  length,
}
use Rattle.std.proofs.lemmas.List.{take-append-drop, take_rest}
use Rattle.std.specs.Io.KnownBytes.{Appends, Consumes}

-- what two reads took is what they took together
pub Consumes-twice : (old mid new : Option (List ℕ)) (xs ys : List ℕ) → Consumes old mid xs
    → Consumes mid new ys → Consumes old new (xs ++ ys)
Consumes-twice None mid new xs ys first second = tt
Consumes-twice (Some bs) None new xs ys first second = absurd first
Consumes-twice (Some bs) (Some cs) None xs ys first second = absurd second
Consumes-twice (Some bs) (Some cs) (Some ds) xs ys first second =
    first ∙ (ap (λ (t : List ℕ). xs ++ t) second ∙ sym (append_assoc xs ys ds))

-- what two writes wrote is what they wrote together
pub Appends-twice : (old mid new : Option (List ℕ)) (xs ys : List ℕ) → Appends old mid xs
    → Appends mid new ys → Appends old new (xs ++ ys)
Appends-twice None mid new xs ys first second = tt
Appends-twice (Some bs) None new xs ys first second = absurd first
Appends-twice (Some bs) (Some cs) None xs ys first second = absurd second
Appends-twice (Some bs) (Some cs) (Some ds) xs ys first second =
    second ∙ (ap (λ (t : List ℕ). t ++ ys) first ∙ append_assoc bs xs ys)

-- the prefix of some bytes, longer by n more of them
pub prefix_longer : (bytes prefix rest : List ℕ) (n : ℕ) → bytes ≡ prefix ++ rest
    → bytes ≡ (prefix ++ take n rest) ++ take (length rest - n) (drop n rest)
prefix_longer bytes prefix rest n whole =
    let parted : take n rest ++ take (length rest - n) (drop n rest) ≡ rest =
    ap (λ (t : List ℕ). take n rest ++ t) (take_rest rest n) ∙ take-append-drop n rest in
    whole
    ∙ (ap (λ (t : List ℕ). prefix ++ t) (sym parted)
    ∙ sym (append_assoc prefix (take n rest) (take (length rest - n) (drop n rest))))
