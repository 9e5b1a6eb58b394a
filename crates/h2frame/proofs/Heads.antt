-- Nine bytes are a head, and a head is nine bytes.
use Rattle.std.proofs.Common.{
  ◌≡◌,
  ℕ,
  zero,
  suc,
  ◌+◌,
  ◌*◌,
  ◌/◌,
  ◌%◌,
  ◌^◌,
  ◌<◌,
  ◌≤◌,
  List,
  [],
  ◌∷◌,
  ◌++◌,
  length,
  get_or,
  drop,
  refl,
  sym,
  ap,
  ◌∙◌,
  arith,
}
use Rattle.std.specs.Int.{w32, from_be_bytes, bytes_high_first}
use Rattle.std.proofs.lemmas.Bool.{ne_eqb}
use Rattle.std.proofs.lemmas.Nat.{shr_split, be_bytes_4, from_be_bytes-to_be_bytes_4, mod_low}
use Rattle.h2frame.specs.declared.frame.FrameHead.{FrameHead}
use Rattle.h2frame.specs.Kind.{kind_of, code_of}
use Rattle.h2frame.specs.Spelling.{IsHead, head_text}
use Rattle.h2frame.specs.FrameList.{BeginsWith}
use Rattle.h2frame.specs.Reading.{head_at}

-- what a list of the program's bytes has
abbrev pub AreBytes : List ℕ → Type 0
AreBytes bytes = (i : ℕ) → get_or bytes i 0 < 256

code_above : (code : ℕ) → 10 ≤ code → code_of (kind_of code) ≡ code
code_above code le =
    rw (
      ne_eqb code 0 (λ e. omega (arith, le, e)),
      ne_eqb code 1 (λ e. omega (arith, le, e)),
      ne_eqb code 2 (λ e. omega (arith, le, e)),
      ne_eqb code 3 (λ e. omega (arith, le, e)),
      ne_eqb code 4 (λ e. omega (arith, le, e)),
      ne_eqb code 5 (λ e. omega (arith, le, e)),
      ne_eqb code 6 (λ e. omega (arith, le, e)),
      ne_eqb code 7 (λ e. omega (arith, le, e)),
      ne_eqb code 8 (λ e. omega (arith, le, e)),
      ne_eqb code 9 (λ e. omega (arith, le, e)),
    ) refl

-- no code is lost
pub code_of-kind_of : (code : ℕ) → code_of (kind_of code) ≡ code
code_of-kind_of zero = refl
code_of-kind_of (suc zero) = refl
code_of-kind_of (suc (suc zero)) = refl
code_of-kind_of (suc (suc (suc zero))) = refl
code_of-kind_of (suc (suc (suc (suc zero)))) = refl
code_of-kind_of (suc (suc (suc (suc (suc zero))))) = refl
code_of-kind_of (suc (suc (suc (suc (suc (suc zero)))))) = refl
code_of-kind_of (suc (suc (suc (suc (suc (suc (suc zero))))))) = refl
code_of-kind_of (suc (suc (suc (suc (suc (suc (suc (suc zero)))))))) = refl
code_of-kind_of (suc (suc (suc (suc (suc (suc (suc (suc (suc zero))))))))) = refl
code_of-kind_of (suc (suc (suc (suc (suc (suc (suc (suc (suc (suc n)))))))))) =
    code_above (suc (suc (suc (suc (suc (suc (suc (suc (suc (suc n)))))))))) (omega arith)

-- ---- a head that was written is read

length_again : (n : ℕ) → n < 2 ^ 24 → from_be_bytes w32 (0 ∷ bytes_high_first 3 n) ≡ n
length_again n lt = omega (arith, lt)

stream_again : (reserved stream : ℕ) → reserved < 2 → stream < 2 ^ 31
    → from_be_bytes w32 (bytes_high_first 4 (reserved * 2 ^ 31 + stream)) % 2 ^ 31 ≡ stream
stream_again reserved stream one small =
    ap (λ (n : ℕ). n % 2 ^ 31)
    (from_be_bytes-to_be_bytes_4 (reserved * 2 ^ 31 + stream) (omega (arith, one, small)))
    ∙ mod_low reserved 31 stream small

pub head_again : (reserved : ℕ) (head : FrameHead) (after : List ℕ) → reserved < 2 → IsHead head
    → head_at (head_text reserved head ++ after) ≡ head
unfolding head_at
head_again reserved head after one is =
    let s = stream_again reserved head.stream one is.stream in
    let l = length_again head.length is.length in
    let k = is.kind in
    rw (s, l, k) refl

-- ---- nine bytes are read as the head that spells them

three_cells : (a b c x y z : ℕ) → a ≡ x → b ≡ y → c ≡ z → a ∷ b ∷ c ∷ [] ≡ x ∷ y ∷ z ∷ []
three_cells a b c x y z p q r = cc

length_back : (a b c : ℕ) → a < 256 → b < 256 → c < 256
    → bytes_high_first 3 (from_be_bytes w32 (0 ∷ a ∷ b ∷ c ∷ [])) ≡ a ∷ b ∷ c ∷ []
length_back a b c p q r = three_cells _ _ _ a b c (omega arith) (omega arith) (omega arith)

stream_back : (bytes : List ℕ) → length bytes ≡ 4 → AreBytes bytes
    → bytes_high_first 4
    (from_be_bytes w32 bytes / 2 ^ 31 * 2 ^ 31 + from_be_bytes w32 bytes % 2 ^ 31)
    ≡ bytes
stream_back bytes four fits =
    rw (shr_split (from_be_bytes w32 bytes) 31)
    (be_bytes_4 bytes (from_be_bytes w32 bytes) four fits refl)

four_fit : (s t u v : ℕ) (i : ℕ) → s < 256 → t < 256 → u < 256 → v < 256
    → get_or (s ∷ t ∷ u ∷ v ∷ []) i 0 < 256
four_fit s t u v zero p q r w = p
four_fit s t u v (suc zero) p q r w = q
four_fit s t u v (suc (suc zero)) p q r w = r
four_fit s t u v (suc (suc (suc zero))) p q r w = w
four_fit s t u v (suc (suc (suc (suc i)))) p q r w = omega arith

-- a head as its four fields lie in the bytes
abbrev joined : List ℕ → ℕ → ℕ → List ℕ → List ℕ → List ℕ
joined length kind flags stream after = (length ++ kind ∷ flags ∷ stream) ++ after

nine_read : (a b c k f s t u v : ℕ) (after : List ℕ) → let bytes =
    a ∷ b ∷ c ∷ k ∷ f ∷ s ∷ t ∷ u ∷ v ∷ after in
    AreBytes bytes → BeginsWith bytes (head_at bytes) after
unfolding head_at
nine_read a b c k f s t u v after fits =
    let word = from_be_bytes w32 (s ∷ t ∷ u ∷ v ∷ []) in
    let four : AreBytes (s ∷ t ∷ u ∷ v ∷ []) = λ i.
    four_fit s t u v i (fits 5) (fits 6) (fits 7) (fits 8) in
    let size = length_back a b c (fits 0) (fits 1) (fits 2) in
    let stream = stream_back (s ∷ t ∷ u ∷ v ∷ []) refl four in
    let kind = code_of-kind_of k in
    let small : word < 2 ^ 32 = omega (arith, fits 5, fits 6, fits 7, fits 8) in (
      word / 2 ^ 31,
      omega (arith, small),
      record {
        kind = ap kind_of kind;
        stream = omega arith;
        length = omega (arith, fits 0, fits 1, fits 2);
      },
      sym (ap (λ (x : List ℕ).
          joined x (code_of (kind_of k)) f
          (bytes_high_first 4 (word / 2 ^ 31 * 2 ^ 31 + word % 2 ^ 31)) after) size
          ∙ ap (λ (x : ℕ).
          joined (a ∷ b ∷ c ∷ []) x f
          (bytes_high_first 4 (word / 2 ^ 31 * 2 ^ 31 + word % 2 ^ 31)) after) kind
          ∙ ap (λ (x : List ℕ). joined (a ∷ b ∷ c ∷ []) k f x after) stream),
    )

-- nine bytes and more begin with the head that is read
pub begins : (bytes : List ℕ) → 9 ≤ length bytes → AreBytes bytes
    → BeginsWith bytes (head_at bytes) (drop 9 bytes)
begins [] le fits = absurd (omega arith)
begins (a ∷ []) le fits = absurd (omega arith)
begins (a ∷ b ∷ []) le fits = absurd (omega arith)
begins (a ∷ b ∷ c ∷ []) le fits = absurd (omega arith)
begins (a ∷ b ∷ c ∷ k ∷ []) le fits = absurd (omega arith)
begins (a ∷ b ∷ c ∷ k ∷ f ∷ []) le fits = absurd (omega arith)
begins (a ∷ b ∷ c ∷ k ∷ f ∷ s ∷ []) le fits = absurd (omega arith)
begins (a ∷ b ∷ c ∷ k ∷ f ∷ s ∷ t ∷ []) le fits = absurd (omega arith)
begins (a ∷ b ∷ c ∷ k ∷ f ∷ s ∷ t ∷ u ∷ []) le fits = absurd (omega arith)
begins (a ∷ b ∷ c ∷ k ∷ f ∷ s ∷ t ∷ u ∷ v ∷ after) le fits = nine_read a b c k f s t u v after fits
