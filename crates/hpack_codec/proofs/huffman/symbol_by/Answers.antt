use Rattle.std.proofs.Common.{◌-◌, ◌/◌, ◌^◌, ℕ, refl, sym, arith, get_or, List}
use Rattle.hpack_codec.specs.declared.huffman.Codes.{Codes}
use Rattle.hpack_codec.proofs.CodeTables.{
  symbol_in,
  misses_none,
  misses_more,
  misses_rest,
  missed_all,
  misses_whole,
}
use Rattle.hpack_codec.proofs.huffman.symbol_by.Goals as goal
use Rattle.hpack_codec.proofs.huffman.symbol_by.Goals.{
  else-number-row-via-then-number-row+else-number-row-2,
  else-number-row-via-else-number-row,
}

pub loop-row-init : goal.loop-row-init
loop-row-init c = misses_none c.args.register c.args.count

abbrev row_at : List Codes → ℕ → Codes
row_at rows i = get_or rows i (record { len = 0; first = 0; above = 0; place = 0 })

abbrev number_at : ℕ → ℕ → List Codes → ℕ → ℕ
number_at register count rows i = register / 2 ^ (count - (row_at rows i).len)

pub returns-then-row-count-clause-none : goal.returns-then-row-count-clause-none
returns-then-row-count-clause-none c = λ symbol.
    missed_all c.args.register c.args.count symbol c.args.codes.now
    c.args.symbols.now c.requires.table
    (misses_rest c.args.register c.args.count c.args.codes.now c.args.symbols.now
    c.loop-row.row-index (row_at c.args.codes.now c.loop-row.row-index) _
    c.requires.table c.loop-row-test.true refl c.loop-row.invariant c.if-row-count.true)

pub overflow_add-place : goal.overflow_add-place
overflow_add-place c =
    let found =
    symbol_in c.args.symbols.now c.args.codes.now c.loop-row.row-index
    (number_at c.args.register c.args.count c.args.codes.now c.loop-row.row-index)
    (row_at c.args.codes.now c.loop-row.row-index) _ c.requires.table c.loop-row-test.true refl
    c.if-number-row.true c.if-number-row-2.true in
    omega (arith, found.within)

pub bounds-symbols-place : goal.bounds-symbols-place
bounds-symbols-place c =
    (symbol_in c.args.symbols.now c.args.codes.now c.loop-row.row-index
    (number_at c.args.register c.args.count c.args.codes.now c.loop-row.row-index)
    (row_at c.args.codes.now c.loop-row.row-index) _ c.requires.table c.loop-row-test.true refl
    c.if-number-row.true c.if-number-row-2.true).within

pub returns-then-number-row-2-clause-len : goal.returns-then-number-row-2-clause-len
returns-then-number-row-2-clause-len c = (
  c.if-row-count.false,
  (symbol_in c.args.symbols.now c.args.codes.now c.loop-row.row-index
      (number_at c.args.register c.args.count c.args.codes.now c.loop-row.row-index)
      (row_at c.args.codes.now c.loop-row.row-index) _ c.requires.table c.loop-row-test.true refl
      c.if-number-row.true c.if-number-row-2.true).len,
)

pub returns-then-number-row-2-clause-number : goal.returns-then-number-row-2-clause-number
returns-then-number-row-2-clause-number c =
    sym (symbol_in c.args.symbols.now c.args.codes.now c.loop-row.row-index
    (number_at c.args.register c.args.count c.args.codes.now c.loop-row.row-index)
    (row_at c.args.codes.now c.loop-row.row-index) _ c.requires.table c.loop-row-test.true refl
    c.if-number-row.true c.if-number-row-2.true).number_is

pub loop-row-preserved : goal.loop-row-preserved
loop-row-preserved c =
    misses_more c.args.register c.args.count c.args.codes.now c.loop-row.row-index
    (row_at c.args.codes.now c.loop-row.row-index) _ c.loop-row-test.true refl c.loop-row.invariant
    (λ le low high. elim c.else-number-row.branch [
      | else-number-row-via-then-number-row+else-number-row-2 w ↦
          omega (arith, w.if-number-row-2.false, high)
      | else-number-row-via-else-number-row w ↦ omega (arith, w.if-number-row.false, low)
    ])

pub returns-clause-none : goal.returns-clause-none
returns-clause-none c = λ symbol.
    missed_all c.args.register c.args.count symbol c.args.codes.now
    c.args.symbols.now c.requires.table
    (misses_whole c.args.register c.args.count c.loop-row.row-index c.args.codes.now
    c.loop-row-test.false c.loop-row.invariant)
