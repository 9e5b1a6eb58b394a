-- The parts of a reply, and how many bytes they have.
use Rattle.std.proofs.Common.{
  ◌≡◌,
  ◌≢◌,
  ℕ,
  zero,
  suc,
  ◌+◌,
  ◌≤◌,
  ◌<◌,
  ◌^◌,
  ℤ,
  pos,
  negsuc,
  List,
  [],
  ◌∷◌,
  ◌++◌,
  length,
  refl,
  sym,
  ap,
  ◌∙◌,
  arith,
  append_assoc,
  append-nil,
}
use Rattle.std.specs.Prelude.{replicate}
use Rattle.std.specs.Int.{w64, cast_unsigned}
use Rattle.std.proofs.lemmas.List.{length-append, length-replicate}
use Rattle.pbwire.specs.Spelling.{varint_spelling, spelling_of_all}
use Rattle.pbwire.proofs.VarintsWritten.{one_long}
use Rattle.testproto.specs.Canonical.{payload_fields}
use Rattle.handlers.specs.declared.reply.Reply.{Reply}
use Rattle.handlers.specs.declared.reply.Reply.TheVariants.{Empty, Zeros, Sum}
use Rattle.handlers.specs.Replies.{reply_bytes, front_bytes, body_head, zero_count, zero_payload}

abbrev pub body_of : ℕ → List ℕ
body_of size = spelling_of_all (payload_fields (zero_payload size))

abbrev pub zero_bytes : ℕ → List ℕ
zero_bytes size = replicate size 0

-- ---- the front and the zeros

-- a body is its tag and its length, and its zeros
pub body_is : (size : ℕ) → body_of size ≡ body_head size ++ zero_bytes size
body_is zero = refl
body_is (suc n) =
    append-nil
    (varint_spelling 18 ++ (varint_spelling (length (zero_bytes (suc n))) ++ zero_bytes (suc n)))
    ∙ ap (λ (len : ℕ). varint_spelling 18 ++ (varint_spelling len ++ zero_bytes (suc n)))
    (length-replicate (suc n) 0)
    ∙ sym (append_assoc (varint_spelling 18) (varint_spelling (suc n)) (zero_bytes (suc n)))

last_of_four : (tag len head zeros : List ℕ)
    → (tag ++ (len ++ head)) ++ zeros ≡ tag ++ (len ++ (head ++ zeros))
last_of_four tag len head zeros =
    append_assoc tag (len ++ head) zeros
    ∙ ap (λ (t : List ℕ). tag ++ t) (append_assoc len head zeros)

pub reply_is : (reply : Reply)
    → reply_bytes reply ≡ front_bytes reply ++ zero_bytes (zero_count reply)
reply_is Empty = refl
reply_is (Zeros size) =
    append-nil (varint_spelling 10 ++ (varint_spelling (length (body_of size)) ++ body_of size))
    ∙ ap (λ (body : List ℕ).
    varint_spelling 10 ++ (varint_spelling (length (body_of size)) ++ body)) (body_is size)
    ∙ sym (last_of_four (varint_spelling 10) (varint_spelling (length (body_of size)))
    (body_head size) (zero_bytes size))
reply_is (Sum value) = sym (append-nil (reply_bytes (Sum value)))

-- ---- lengths

pub reply_len : (reply : Reply)
    → length (reply_bytes reply) ≡ length (front_bytes reply) + zero_count reply
reply_len reply =
    ap (λ (bytes : List ℕ). length bytes) (reply_is reply)
    ∙ length-append (front_bytes reply) (zero_bytes (zero_count reply))
    ∙ ap (λ (n : ℕ). length (front_bytes reply) + n) (length-replicate (zero_count reply) 0)

pub body_len : (size : ℕ) → length (body_of size) ≡ length (body_head size) + size
body_len size =
    ap (λ (bytes : List ℕ). length bytes) (body_is size)
    ∙ length-append (body_head size) (zero_bytes size)
    ∙ ap (λ (n : ℕ). length (body_head size) + n) (length-replicate size 0)

tag_is : (tag : ℕ) → tag < 128 → length (varint_spelling tag) ≡ 1
tag_is tag small = one_long tag small

pub body_head_len : (size : ℕ) → size ≢ 0
    → length (body_head size) ≡ 1 + length (varint_spelling size)
body_head_len zero some = absurd (some refl)
body_head_len (suc n) some = omega
    (arith, tag_is 18 (omega arith), length-append (varint_spelling 18) (varint_spelling (suc n)))

pub front_len : (size : ℕ)
    → length (front_bytes (Zeros size))
    ≡ 1 + length (varint_spelling (length (body_of size))) + length (body_head size)
front_len size =
    omega (
      arith,
      tag_is 10 (omega arith),
      length-append (varint_spelling 10)
          (varint_spelling (length (body_of size)) ++ body_head size),
      length-append (varint_spelling (length (body_of size))) (body_head size),
    )

sum_field : (number : ℕ)
    → length ((varint_spelling 8 ++ varint_spelling number) ++ [])
    ≡ 1 + length (varint_spelling number)
sum_field number =
    let tag : length (varint_spelling 8) ≡ 1 = tag_is 8 (omega arith) in
    omega (
      arith,
      tag,
      length-append (varint_spelling 8 ++ varint_spelling number) [],
      length-append (varint_spelling 8) (varint_spelling number),
    )

pub sum_len : (value : ℤ) → value ≢ pos 0
    → length (reply_bytes (Sum value)) ≡ 1 + length (varint_spelling (cast_unsigned w64 value))
sum_len (pos zero) some = absurd (some refl)
sum_len (pos (suc n)) some = sum_field (suc n)
sum_len (negsuc n) some = sum_field (cast_unsigned w64 (negsuc n))
