-- Worked examples of RFC 7541, and the checks of its Huffman code, by computation.
use Rattle.std.proofs.Common.{
  ◌≡◌,
  ◌-◌,
  ◌^◌,
  [],
  ◌∷◌,
  map,
  replicate,
  sum_by,
  refl,
  inl,
  inr,
  lit<,
  lit≤,
}
use Rattle.hpack_codec.specs.Integer.{base_128, IsUnfinished, IsInteger}
use Rattle.std.specs.Prelude.{Some}
use Rattle.hpack_codec.specs.declared.fault.HpackFault.TheVariants.{Index}
use Rattle.hpack_codec.specs.Table.{empty_table, sizes_of, entry_at}
use Rattle.hpack_codec.specs.Block.{AreFields, AreUpdates}
use Rattle.hpack_codec.specs.Codec.{IsFirstFault}
use Rattle.hpack_codec.specs.Huffman.{
  code_lengths,
  code_length,
  codes_of_length,
  first_code,
  code_number,
  bits,
  code,
}

-- the sum of 2 ^ (30 - length) over all symbols: the code is complete
kraft_sum : sum_by (λ n. 2 ^ (30 - n)) code_lengths ≡ 2 ^ 30
kraft_sum = refl

counts_by_length : map (λ n. codes_of_length n code_lengths)
    (5 ∷ 6 ∷ 7 ∷ 8 ∷ 10 ∷ 11 ∷ 12 ∷ 13 ∷ 14 ∷ 15 ∷ 19 ∷ 20 ∷ 21 ∷ 22 ∷ 23 ∷ 24 ∷ 25 ∷ 26
    ∷ 27 ∷ 28 ∷ 30 ∷ [])
    ≡ 10 ∷ 26 ∷ 32 ∷ 6 ∷ 5 ∷ 3 ∷ 2 ∷ 6 ∷ 2 ∷ 3 ∷ 3 ∷ 8 ∷ 13 ∷ 26 ∷ 29 ∷ 12 ∷ 4 ∷ 15
    ∷ 19 ∷ 29 ∷ 4 ∷ []
unfolding codes_of_length
counts_by_length = refl

-- appendix B: `0`, `a`, a blank, `w` and the end of string
code_of_0 : code 48 ≡ 0 ∷ 0 ∷ 0 ∷ 0 ∷ 0 ∷ []
unfolding code bits code_length code_number codes_of_length first_code
code_of_0 = refl

code_of_a : code 97 ≡ 0 ∷ 0 ∷ 0 ∷ 1 ∷ 1 ∷ []
unfolding code bits code_length code_number codes_of_length first_code
code_of_a = refl

code_of_blank : code 32 ≡ 0 ∷ 1 ∷ 0 ∷ 1 ∷ 0 ∷ 0 ∷ []
unfolding code bits code_length code_number codes_of_length first_code
code_of_blank = refl

code_of_w : code 119 ≡ 1 ∷ 1 ∷ 1 ∷ 1 ∷ 0 ∷ 0 ∷ 0 ∷ []
unfolding code bits code_length code_number codes_of_length first_code
code_of_w = refl

code_of_end : code 256 ≡ replicate 30 1
unfolding code bits code_length code_number codes_of_length first_code
code_of_end = refl

-- appendix C.1.1 and C.1.2: 10 and 1337 with a prefix of five bits, below the flags of a change of
-- size
ten : IsInteger 5 32 (42 ∷ []) 10
ten = inl (record { small = lit< tt; spelling = refl })

large : IsInteger 5 32 (63 ∷ 154 ∷ 10 ∷ []) 1337
unfolding IsUnfinished base_128
large = inr (record {
  front = 154 ∷ [];
  last = 10;
  spelling = refl;
  unfinished = (lit≤ tt, tt);
  finished = lit< tt;
  at_most_six = lit< tt;
  sum = refl;
  below = lit< tt;
})

-- an indexed field without an index: a block of one byte whose first fault is that
no_index : IsFirstFault Index (Some empty_table) (128 ∷ [])
unfolding AreFields AreUpdates sizes_of entry_at
no_index = record {
  front = [];
  rest = 128 ∷ [];
  fields = [];
  mid = empty_table;
  spelling = refl;
  is_block = record {
    limits = [];
    updates = [];
    rest = [];
    mid = empty_table;
    spelling = refl;
    are_updates = (refl, refl);
    are_fields = (refl, refl);
  };
  lawful = lit≤ tt;
  is_fault = inl (
    (128, [], refl, lit≤ tt, lit< tt),
    inr (0, 128 ∷ [], [], refl, inl (record { small = lit< tt; spelling = refl }), refl, refl),
  );
}
