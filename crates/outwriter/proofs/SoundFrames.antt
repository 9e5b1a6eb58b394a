-- Each frame that a writer makes is sound.
use Rattle.std.proofs.Common.{
  ◌≡◌,
  ℕ,
  ◌+◌,
  ◌++◌,
  length-append,
  ◌<◌,
  ◌≤◌,
  ◌^◌,
  ◌==◌,
  Bool,
  true,
  false,
  List,
  Option,
  Some,
  None,
  length,
  take,
  ap,
  sym,
  subst,
  refl,
  arith,
  ◌∙◌,
}
use Rattle.std.specs.Prelude.{if◌then◌else◌, bit_and}
use Rattle.std.specs.Int.{bytes_high_first}
use Rattle.std.specs.Option.{option_or}
use Rattle.std.proofs.lemmas.Bool.{le-leb, le-ltb, lt-ltb, ne_eqb}
use Rattle.std.proofs.lemmas.List.{length-take}
use Rattle.h2frame.specs.declared.error_code.ErrorCode.{ErrorCode}
use Rattle.h2frame.specs.declared.fault.FrameFault.{FrameFault}
use Rattle.h2frame.specs.declared.fault.FrameFault.TheVariants.{
  TooLong,
  BadLength,
  WrongStream,
  ZeroIncrement,
}
use Rattle.h2frame.specs.declared.frame.Frame.{Frame}
use Rattle.h2frame.specs.declared.kind.FrameKind.TheVariants.{Headers, Continuation}
use Rattle.h2frame.specs.ErrorCode.{error_number}
use Rattle.h2frame.specs.Faults.{frame_fault, lacks_increment, may_be_on, may_have_length}
use Rattle.h2frame.specs.Flags.{has_priority, is_padded}
use Rattle.reasons.specs.declared.Reason.{Reason}
use Rattle.reasons.specs.Codes.{code_of}
use Rattle.reasons.specs.Texts.{max_text, text_of}
use Rattle.reasons.proofs.TextLemmas.{short-text}
use Rattle.outwriter.specs.declared.blocks.HeaderBlock.{HeaderBlock}
use Rattle.outwriter.specs.Blocks.{frame_of, is_short}
use Rattle.outwriter.specs.Frames.{
  IsSound,
  flags_of,
  first_settings,
  settings_ack,
  ping_ack,
  ping_frame,
  reset_frame,
  goaway_frame,
  update_frame,
  data_frame,
  headers_frame,
  continuation_frame,
}
use Rattle.outwriter.proofs.EndSteps.{told-amount}

-- the first fault, by what is tested
abbrev fault-by : ℕ → Bool → Bool → Bool → Bool → Option FrameFault
fault-by stream long there fits lacks =
    option_or (if long then Some TooLong
    else (if there then (if fits then None else Some BadLength) else Some WrongStream))
    (if lacks then Some (ZeroIncrement stream) else None)

no-fault : (frame : Frame) → frame.head.length ≤ 16384
    → may_be_on frame.head.kind frame.head.stream ≡ true
    → may_have_length frame.head.kind frame.head ≡ true
    → lacks_increment frame.head.kind frame.content ≡ false → frame_fault frame ≡ None
no-fault frame short there fits told =
    let by = fault-by frame.head.stream in
    ap (λ b.
    by b (may_be_on frame.head.kind frame.head.stream) (may_have_length frame.head.kind frame.head)
    (lacks_increment frame.head.kind frame.content))
    (le-ltb 16384 frame.head.length short)
    ∙ ap (λ b.
    by false b (may_have_length frame.head.kind frame.head)
    (lacks_increment frame.head.kind frame.content)) there
    ∙ ap (λ b. by false true b (lacks_increment frame.head.kind frame.content)) fits
    ∙ ap (λ b. by false true true b) told

pub sound-settings : IsSound first_settings
sound-settings = record {
  writable = record {
    kind = refl;
    stream = omega arith;
    whole = refl;
    not_padded = refl;
    no_priority = refl;
  };
  faultless = refl;
  flags = refl;
}

pub sound-settings-ack : IsSound settings_ack
sound-settings-ack = record {
  writable = record {
    kind = refl;
    stream = omega arith;
    whole = refl;
    not_padded = refl;
    no_priority = refl;
  };
  faultless = refl;
  flags = refl;
}

pub sound-ping-ack : (bytes : List ℕ) → length bytes ≡ 8 → IsSound (ping_ack bytes)
sound-ping-ack bytes eight = record {
  writable = record {
    kind = refl;
    stream = omega arith;
    whole = refl;
    not_padded = refl;
    no_priority = refl;
  };
  faultless = no-fault (ping_ack bytes) (omega (arith, eight)) refl (ap (λ n. n == 8) eight) refl;
  flags = refl;
}

pub sound-ping : (bytes : List ℕ) → length bytes ≡ 8 → IsSound (ping_frame bytes)
sound-ping bytes eight = record {
  writable = record {
    kind = refl;
    stream = omega arith;
    whole = refl;
    not_padded = refl;
    no_priority = refl;
  };
  faultless = no-fault (ping_frame bytes) (omega (arith, eight)) refl (ap (λ n. n == 8) eight) refl;
  flags = refl;
}

pub sound-reset : (id : ℕ) (code : ErrorCode) → 0 < id → id < 2 ^ 31 → IsSound (reset_frame id code)
sound-reset id code some small = record {
  writable =
      record { kind = refl; stream = small; whole = refl; not_padded = refl; no_priority = refl };
  faultless =
      no-fault (reset_frame id code) (let four : 4 ≤ 16384 = omega arith in four)
      (lt-ltb 0 id some) refl refl;
  flags = refl;
}

-- a text of 128 bytes at most, behind eight
goaway-length : (last : ℕ) (reason : Reason)
    → (goaway_frame last reason).head.length ≡ 8 + length (text_of reason)
goaway-length last reason =
    length-append (bytes_high_first 4 last
    ++ bytes_high_first 4 (error_number (code_of reason))) (text_of reason)

pub short-goaway : (last : ℕ) (reason : Reason)
    → (goaway_frame last reason).head.length ≤ 8 + max_text
short-goaway last reason =
    let short : length (text_of reason) ≤ 128 = short-text reason in
    omega (arith, short, goaway-length last reason)

pub sound-goaway : (last : ℕ) (reason : Reason) → IsSound (goaway_frame last reason)
sound-goaway last reason =
    let short : (goaway_frame last reason).head.length ≤ 136 = short-goaway last reason in record {
      writable = record {
        kind = refl;
        stream = omega arith;
        whole = refl;
        not_padded = refl;
        no_priority = refl;
      };
      faultless = no-fault (goaway_frame last reason) (omega (arith, short)) refl
          (le-leb 8 (goaway_frame last reason).head.length
          (omega (arith, goaway-length last reason))) refl;
      flags = refl;
    }

pub sound-update : (id n : ℕ) → id < 2 ^ 31 → 0 < n → n < 2 ^ 31 → IsSound (update_frame id n)
sound-update id n small some fits = record {
  writable =
      record { kind = refl; stream = small; whole = refl; not_padded = refl; no_priority = refl };
  faultless = no-fault (update_frame id n) (let four : 4 ≤ 16384 = omega arith in four) refl refl
      (ap (λ k. k == 0) (told-amount n fits) ∙ ne_eqb n 0 (λ none. omega (arith, none, some)));
  flags = refl;
}

pub sound-data : (id : ℕ) (bytes : List ℕ) → 0 < id → id < 2 ^ 31 → length bytes ≤ 16384
    → IsSound (data_frame id bytes)
sound-data id bytes some small short = record {
  writable =
      record { kind = refl; stream = small; whole = refl; not_padded = refl; no_priority = refl };
  faultless =
      no-fault (data_frame id bytes) short (lt-ltb 0 id some)
      (le-leb 0 (length bytes) (omega arith)) refl;
  flags = refl;
}

-- ---- header blocks

-- the flags of HEADERS say of no padding and of no priority
plain-headers : (id : ℕ) (ends whole : Bool) (fragment : List ℕ) → let head =
    (headers_frame id ends whole fragment).head in
    (is_padded head ≡ false) × (has_priority head ≡ false) × (may_have_length Headers head ≡ true)
    × (bit_and head.flags.bits (flags_of Headers) ≡ head.flags.bits)
plain-headers id false false fragment = (refl, refl, le-leb 0 (length fragment) (omega arith), refl)
plain-headers id false true fragment = (refl, refl, le-leb 0 (length fragment) (omega arith), refl)
plain-headers id true false fragment = (refl, refl, le-leb 0 (length fragment) (omega arith), refl)
plain-headers id true true fragment = (refl, refl, le-leb 0 (length fragment) (omega arith), refl)

pub sound-headers : (id : ℕ) (ends whole : Bool) (fragment : List ℕ) → 0 < id → id < 2 ^ 31
    → length fragment ≤ 16384 → IsSound (headers_frame id ends whole fragment)
sound-headers id ends whole fragment some small short =
    let plain = plain-headers id ends whole fragment in
    record {
      writable = record {
        kind = refl;
        stream = small;
        whole = refl;
        not_padded = plain.0;
        no_priority = plain.1;
      };
      faultless =
          no-fault (headers_frame id ends whole fragment) short (lt-ltb 0 id some) plain.2 refl;
      flags = plain.3;
    }

plain-continuation : (id : ℕ) (whole : Bool) (fragment : List ℕ) → let bits =
    (continuation_frame id whole fragment).head.flags.bits in
    bit_and bits (flags_of Continuation) ≡ bits
plain-continuation id false fragment = refl
plain-continuation id true fragment = refl

pub sound-continuation : (id : ℕ) (whole : Bool) (fragment : List ℕ) → 0 < id → id < 2 ^ 31
    → length fragment ≤ 16384 → IsSound (continuation_frame id whole fragment)
sound-continuation id whole fragment some small short = record {
  writable =
      record { kind = refl; stream = small; whole = refl; not_padded = refl; no_priority = refl };
  faultless = no-fault (continuation_frame id whole fragment) short (lt-ltb 0 id some) refl refl;
  flags = plain-continuation id whole fragment;
}

-- the next frame of a block
pub sound-frame : (block : HeaderBlock) (frame : Frame) → frame ≡ frame_of block → 0 < block.id
    → block.id < 2 ^ 31 → IsSound frame
sound-frame block frame is some small = subst IsSound (sym is) (by block.begun)
  where
    fragment : List ℕ
    fragment = take 16384 block.rest

    short : length fragment ≤ 16384
    short = omega (arith, length-take 16384 block.rest)

    by : (b : Bool)
        → IsSound (if b then continuation_frame block.id (is_short block) fragment
        else headers_frame block.id block.ends (is_short block) fragment)
    by true = sound-continuation block.id (is_short block) fragment some small short
    by false = sound-headers block.id block.ends (is_short block) fragment some small short
