-- Where an account stands among blocks.
use Rattle.std.proofs.Common.{
  ◌≡◌,
  ◌∙◌,
  ap,
  refl,
  sym,
  arith,
  ℕ,
  ◌+◌,
  ◌-◌,
  ◌*◌,
  ◌/◌,
  ◌%◌,
  ◌<◌,
  ◌≤◌,
  zero,
  suc,
  Bool,
  true,
  false,
  List,
  [],
  ◌∷◌,
  ◌++◌,
  Option,
  None,
  Some,
  Bor,
  length,
  length-append,
  append-nil,
  append_assoc,
  get_or,
  nat_eq,
  slice_get,
}
use Rattle.std.specs.Prelude.{◌&&◌, option_copied, set}
use Rattle.std.specs.Slice.{IsItemAt}
use Rattle.std.specs.List.{flat_map}
use Rattle.std.specs.Global.{Vec}
use Rattle.std.proofs.Math.Nat.{div-add-mod, mod-lt}
use Rattle.std.proofs.lemmas.List.{length-set, set-append_left, set-append_right}
use Rattle.std.proofs.lemmas.Bool.{eq-eqb, eqb-true}
use Rattle.std.proofs.lemmas.Option.{slice_get-get_or, slice_get_past}
use Rattle.callparts.specs.declared.call_account.CallAccount.{CallAccount}
use Rattle.callparts.specs.Blocks.{are_full}

-- the accounts of blocks
abbrev pub joined : List (Vec CallAccount) → List CallAccount
joined blocks = flat_map (λ block. block.items) blocks

-- ---- lists one behind the other

pub get-left : {A : Type 0} (xs ys : List A) (n : ℕ) → n < length xs
    → slice_get (xs ++ ys) n ≡ slice_get xs n
get-left [] ys n within = absurd (omega (arith, within))
get-left (x ∷ xs) ys zero within = refl
get-left (x ∷ xs) ys (suc n) within = get-left xs ys n (omega (arith, within))

pub get-right : {A : Type 0} (xs ys : List A) (n k : ℕ) → n ≡ length xs + k
    → slice_get (xs ++ ys) n ≡ slice_get ys k
get-right [] ys n k is = ap (λ (m : ℕ). slice_get ys m) (omega (arith, is))
get-right (x ∷ xs) ys zero k is = absurd (omega (arith, is))
get-right (x ∷ xs) ys (suc n) k is = get-right xs ys n k (omega (arith, is))

-- ---- full blocks

full-first : (a b : Bool) → (a && b) ≡ true → a ≡ true
full-first true b is = refl
full-first false b is = is

full-rest : (a b : Bool) → (a && b) ≡ true → b ≡ true
full-rest true b is = is
full-rest false b is = absurd (cc)

full-both : (a b : Bool) → a ≡ true → b ≡ true → (a && b) ≡ true
full-both true b here rest = rest
full-both false b here rest = here

length-first : (block : Vec CallAccount) (blocks : List (Vec CallAccount))
    → are_full (block ∷ blocks) ≡ true → length block.items ≡ 64
length-first block blocks full =
    eqb-true (length block.items) 64
    (full-first (nat_eq (length block.items) 64) (are_full blocks) full)

full-behind : (block : Vec CallAccount) (blocks : List (Vec CallAccount))
    → are_full (block ∷ blocks) ≡ true → are_full blocks ≡ true
full-behind block blocks full = full-rest (nat_eq (length block.items) 64) (are_full blocks) full

-- how many accounts there are in full blocks
pub joined-length : (blocks : List (Vec CallAccount)) → are_full blocks ≡ true
    → length (joined blocks) ≡ 64 * length blocks
joined-length [] full = refl
joined-length (block ∷ blocks) full =
    omega (
      arith,
      length-first block blocks full,
      joined-length blocks (full-behind block blocks full),
      length-append block.items (joined blocks),
    )

-- with one block more
pub joined-push : (blocks : List (Vec CallAccount)) (block : Vec CallAccount)
    (rest : List CallAccount)
    → rest ≡ [] → joined (blocks ++ block ∷ []) ++ rest ≡ joined blocks ++ block.items
joined-push [] block rest none =
    ap (λ (items : List CallAccount). (block.items ++ []) ++ items) none
    ∙ (append-nil (block.items ++ []) ∙ append-nil block.items)
joined-push (first ∷ blocks) block rest none =
    append_assoc first.items (joined (blocks ++ block ∷ [])) rest
    ∙ (ap (λ (items : List CallAccount). first.items ++ items) (joined-push blocks block rest none)
    ∙ sym (append_assoc first.items (joined blocks) block.items))

-- the account at a place of a block
joined-get : (blocks : List (Vec CallAccount)) (k j : ℕ) (e : Vec CallAccount)
    → are_full blocks ≡ true → k < length blocks → j < 64
    → slice_get (joined blocks) (64 * k + j) ≡ slice_get (get_or blocks k e).items j
joined-get [] k j e full within small = absurd (omega (arith, within))
joined-get (block ∷ blocks) zero j e full within small =
    let at : 64 * zero + j ≡ j = omega arith in
    ap (λ (n : ℕ). slice_get (joined (block ∷ blocks)) n) at
    ∙ get-left block.items (joined blocks) j (omega (arith, length-first block blocks full, small))
joined-get (block ∷ blocks) (suc k) j e full within small =
    get-right block.items (joined blocks) (64 * suc k + j) (64 * k + j)
    (omega (arith, length-first block blocks full))
    ∙ joined-get blocks k j e (full-behind block blocks full) (omega (arith, within)) small

-- another account at a place of a block
joined-set : (blocks : List (Vec CallAccount)) (k j : ℕ) (e new : Vec CallAccount)
    (account : CallAccount)
    → are_full blocks ≡ true → k < length blocks → j < 64
    → new.items ≡ set (get_or blocks k e).items j account
    → joined (set blocks k new) ≡ set (joined blocks) (64 * k + j) account
joined-set [] k j e new account full within small is = absurd (omega (arith, within))
joined-set (block ∷ blocks) zero j e new account full within small is =
    let at : 64 * zero + j ≡ j = omega arith in
    ap (λ (items : List CallAccount). items ++ joined blocks) is
    ∙ (sym (set-append_left block.items (joined blocks) j account
    (omega (arith, length-first block blocks full, small)))
    ∙ ap (λ (n : ℕ). set (joined (block ∷ blocks)) n account) (sym at))
joined-set (block ∷ blocks) (suc k) j e new account full within small is =
    let there : (64 * suc k + j) - 64 ≡ 64 * k + j = omega arith in
    ap (λ (items : List CallAccount). block.items ++ items)
    (joined-set blocks k j e new account (full-behind block blocks full)
    (omega (arith, within)) small is
    ∙ ap (λ (n : ℕ). set (joined blocks) n account) (sym there))
    ∙ sym (set-append_right block.items (joined blocks) 64 (64 * suc k + j) account
    (length-first block blocks full) (omega arith))

-- full blocks stay full where one more that is full comes, and where an account of one is another
pub full-push : (blocks : List (Vec CallAccount)) (block : Vec CallAccount) → are_full blocks ≡ true
    → length block.items ≡ 64 → are_full (blocks ++ block ∷ []) ≡ true
full-push [] block full here =
    full-both (nat_eq (length block.items) 64) true (eq-eqb (length block.items) 64 here) refl
full-push (first ∷ blocks) block full here =
    full-both (nat_eq (length first.items) 64) (are_full (blocks ++ block ∷ []))
    (eq-eqb (length first.items) 64 (length-first first blocks full))
    (full-push blocks block (full-behind first blocks full) here)

full-set : (blocks : List (Vec CallAccount)) (k : ℕ) (e new : Vec CallAccount)
    → are_full blocks ≡ true → length new.items ≡ length (get_or blocks k e).items
    → k < length blocks → are_full (set blocks k new) ≡ true
full-set [] k e new full same within = absurd (omega (arith, within))
full-set (first ∷ blocks) zero e new full same within =
    full-both (nat_eq (length new.items) 64) (are_full blocks)
    (eq-eqb (length new.items) 64 (same ∙ length-first first blocks full))
    (full-behind first blocks full)
full-set (first ∷ blocks) (suc k) e new full same within =
    full-both (nat_eq (length first.items) 64) (are_full (set blocks k new))
    (eq-eqb (length first.items) 64 (length-first first blocks full))
    (full-set blocks k e new (full-behind first blocks full) same (omega (arith, within)))

length-at : (blocks : List (Vec CallAccount)) (k : ℕ) (e : Vec CallAccount) → are_full blocks ≡ true
    → k < length blocks → length (get_or blocks k e).items ≡ 64
length-at [] k e full within = absurd (omega (arith, within))
length-at (block ∷ blocks) zero e full within = length-first block blocks full
length-at (block ∷ blocks) (suc k) e full within =
    length-at blocks k e (full-behind block blocks full) (omega (arith, within))

-- ---- a place of the whole

module _ (blocks : List (Vec CallAccount)) (last : List CallAccount) (count place : ℕ)
    (full : are_full blocks ≡ true) (counted : count ≡ length (joined blocks ++ last)) where
  before : count - length last ≡ 64 * length blocks
  before = omega (arith, counted, length-append (joined blocks) last, joined-length blocks full)

  -- one of a full block
  pub block-within : place < count - length last → place / 64 < length blocks
  block-within early = omega (arith, early, before, div-add-mod place 64)

  pub place-small : place % 64 < 64
  place-small = mod-lt place (omega arith)

  pub block-long : (block : Vec CallAccount) → block ≡ get_or blocks (place / 64) block
      → place < count - length last → length block.items ≡ 64
  block-long block is early =
      ap (λ (b : Vec CallAccount). length b.items) is
      ∙ length-at blocks (place / 64) block full (block-within early)

  pub block-get : (block : Vec CallAccount) → block ≡ get_or blocks (place / 64) block
      → place < count - length last
      → slice_get block.items (place % 64) ≡ slice_get (joined blocks ++ last) place
  block-get block is early =
      let at : 64 * (place / 64) + place % 64 ≡ place = div-add-mod place 64 in
      ap (λ (b : Vec CallAccount). slice_get b.items (place % 64)) is
      ∙ sym
      (get-left (joined blocks) last place (omega (arith, early, before, joined-length blocks full))
      ∙ ap (λ (n : ℕ). slice_get (joined blocks) n) (sym at)
      ∙ joined-get blocks (place / 64) (place % 64) block full (block-within early) place-small)

  pub block-set : (block new : Vec CallAccount) (account : CallAccount)
      → block ≡ get_or blocks (place / 64) block → place < count - length last
      → new.items ≡ set block.items (place % 64) account
      → joined (set blocks (place / 64) new) ++ last ≡ set (joined blocks ++ last) place account
  block-set block new account is early put =
      let at : 64 * (place / 64) + place % 64 ≡ place = div-add-mod place 64 in
      ap (λ (items : List CallAccount). items ++ last)
      (joined-set blocks (place / 64) (place % 64) block new account full (block-within early)
      place-small (put ∙ ap (λ (b : Vec CallAccount). set b.items (place % 64) account) is)
      ∙ ap (λ (n : ℕ). set (joined blocks) n account) at)
      ∙ sym (set-append_left (joined blocks) last place account
      (omega (arith, early, before, joined-length blocks full)))

  pub block-stays : (block new : Vec CallAccount) (account : CallAccount)
      → block ≡ get_or blocks (place / 64) block → place < count - length last
      → new.items ≡ set block.items (place % 64) account
      → are_full (set blocks (place / 64) new) ≡ true
  block-stays block new account is early put =
      full-set blocks (place / 64) block new full
      (ap length put ∙ length-set block.items (place % 64) account
      ∙ ap (λ (b : Vec CallAccount). length b.items) is) (block-within early)

  -- one of the last block
  pub last-get : count - length last ≤ place
      → slice_get last (place - (count - length last)) ≡ slice_get (joined blocks ++ last) place
  last-get late =
      sym (get-right (joined blocks) last place (place - (count - length last))
      (omega (arith, late, before, joined-length blocks full)))

  pub last-set : (account : CallAccount) → count - length last ≤ place
      → joined blocks ++ set last (place - (count - length last)) account
      ≡ set (joined blocks ++ last) place account
  last-set account late =
      sym (set-append_right (joined blocks) last (count - length last) place account
      (joined-length blocks full ∙ sym before) late)

-- ---- what a slice lends

pub item-copied : {X : Type 0} (xs : List X) (i : ℕ) (r : Option (Bor X)) → IsItemAt xs i r
    → option_copied r ≡ slice_get xs i
item-copied xs i None at = sym (slice_get_past xs i at.3)
item-copied {X} xs i (Some x) at =
    ap (λ (v : X). Some v) at.1 ∙ sym (slice_get-get_or xs i x.now at.3.0)
