-- The frames of a header block, from the fragment that was cut off.
use Rattle.std.proofs.Common.{
  ◌≡◌,
  ℕ,
  true,
  false,
  sym,
  ap,
  ◌∙◌,
  List,
  take,
  drop,
  length,
  Some,
  None,
  min,
}
use Rattle.std.specs.Prelude.{nat_le, if◌then◌else◌}
use Rattle.std.proofs.lemmas.List.{take_min, drop_min}
use Rattle.h2frame.specs.declared.frame.Frame.{Frame}
use Rattle.outwriter.specs.declared.blocks.HeaderBlock.{HeaderBlock}
use Rattle.outwriter.specs.Blocks.{is_short, frame_of, rest_of}
use Rattle.outwriter.specs.Frames.{headers_frame, continuation_frame}

module _ (block : HeaderBlock) (len cut : ℕ) (len_is : len ≡ length block.rest)
    (cut_is : cut ≡ min 16384 (length block.rest)) where
  same_whole : nat_le len 16384 ≡ is_short block
  same_whole = ap (λ n. nat_le n 16384) len_is

  same_fragment : (fragment : List ℕ) → fragment ≡ take cut block.rest
      → fragment ≡ take 16384 block.rest
  same_fragment fragment is = is ∙ ap (λ n. take n block.rest) cut_is ∙ take_min 16384 block.rest

  pub frame_of-begun : (fragment : List ℕ) (frame : Frame) → block.begun ≡ true
      → fragment ≡ take cut block.rest
      → frame ≡ continuation_frame block.id (nat_le len 16384) fragment → frame ≡ frame_of block
  frame_of-begun fragment frame begun is made = made
      ∙ ap (λ w. continuation_frame block.id w fragment) same_whole
      ∙ ap (λ f. continuation_frame block.id (is_short block) f) (same_fragment fragment is)
      ∙ sym (ap (λ b. if b then continuation_frame block.id (is_short block) (take 16384 block.rest)
      else headers_frame block.id block.ends (is_short block) (take 16384 block.rest)) begun)

  pub frame_of-first : (fragment : List ℕ) (frame : Frame) → block.begun ≡ false
      → fragment ≡ take cut block.rest
      → frame ≡ headers_frame block.id block.ends (nat_le len 16384) fragment
      → frame ≡ frame_of block
  frame_of-first fragment frame begun is made = made
      ∙ ap (λ w. headers_frame block.id block.ends w fragment) same_whole
      ∙ ap (λ f. headers_frame block.id block.ends (is_short block) f) (same_fragment fragment is)
      ∙ sym (ap (λ b. if b then continuation_frame block.id (is_short block) (take 16384 block.rest)
      else headers_frame block.id block.ends (is_short block) (take 16384 block.rest)) begun)

  pub rest_of-left : (rest : List ℕ) → nat_le len 16384 ≡ false → rest ≡ drop cut block.rest
      → Some (record {
        id = block.id;
        ends = block.ends;
        begun = true;
        rest = rest;
      }) ≡ rest_of block
  rest_of-left rest long is =
      ap
      (λ (r : List ℕ). Some (record { id = block.id; ends = block.ends; begun = true; rest = r }))
      (is ∙ ap (λ n. drop n block.rest) cut_is ∙ drop_min 16384 block.rest)
      ∙ sym (ap (λ b.
      if b then None
      else Some (record {
        id = block.id;
        ends = block.ends;
        begun = true;
        rest = drop 16384 block.rest;
      })) (sym same_whole ∙ long))
