use Rattle.std.proofs.Common.{
  ◌+◌,
  ◌%◌,
  ◌^◌,
  ◌<◌,
  ◌≤◌,
  [],
  ◌∷◌,
  length,
  vec_len,
  vec_capacity,
  arith,
}
use Rattle.pbwire.specs.Spelling.{varint_spelling}
use Rattle.pbwire.proofs.VarintsWritten.{pushed, pushed_last, kept, some_left, on_err}
use Rattle.pbwire.proofs.writing.push_varint.Goals as goal

pub loop-rest-preserved : goal.loop-rest-preserved
loop-rest-preserved c =
    let old = c.args.out.now in
    let out = c.loop-rest.out in
    let new = c.push.new.self in
    let len = out.ok.0 in
    let grown : vec_len old ≤ vec_len out = c.loop-rest.invariant.grown in
    let fits : c.loop-rest.rest < 2 ^ 64 = c.loop-rest.invariant.fits in
    record {
      fits = omega arith;
      completes =
          pushed old.items out.items new.items c.args.number c.loop-rest.rest c.loop-rest-test.true
          c.loop-rest.invariant.fits c.in_ok-push.ensures.items c.loop-rest.invariant.completes;
      kept =
          kept (vec_len old) old.items out.items new.items ((c.loop-rest.rest % 128 + 128) ∷ [])
          c.loop-rest.invariant.kept (omega arith) c.in_ok-push.ensures.items;
      grown = omega (arith, c.in_ok-push.ensures.len);
      capacity = omega (arith, c.in_ok-push.ensures.capacity, c.loop-rest.invariant.capacity);
    }

pub returns-in_err-push-clause-full : goal.returns-in_err-push-clause-full
returns-in_err-push-clause-full c =
    let old = c.args.out.now in
    let out = c.loop-rest.out in
    let left =
    some_left old.items out.items c.args.number c.loop-rest.rest c.loop-rest.invariant.fits
    c.loop-rest.invariant.completes in
    let fact : vec_capacity old < vec_len old + length (varint_spelling c.args.number) = omega
    (arith, left, out.ok.0, old.ok.0, c.in_err-push.ensures.full, c.loop-rest.invariant.capacity) in
    on_err c.from_residual.result fact

pub returns-in_err-push-2-clause-full : goal.returns-in_err-push-2-clause-full
returns-in_err-push-2-clause-full c =
    let old = c.args.out.now in
    let out = c.loop-rest.out in
    let left =
    some_left old.items out.items c.args.number c.loop-rest.rest c.loop-rest.invariant.fits
    c.loop-rest.invariant.completes in
    let fact : vec_capacity old < vec_len old + length (varint_spelling c.args.number) = omega (
      arith,
      left,
      out.ok.0,
      old.ok.0,
      c.in_err-push-2.ensures.full,
      c.loop-rest.invariant.capacity,
    ) in
    on_err c.from_residual-in_err-push-2.result fact

pub returns-clause-ok : goal.returns-clause-ok
returns-clause-ok c =
    pushed_last c.args.out.now.items c.loop-rest.out.items c.push-2.new.self.items c.args.number
    c.loop-rest.rest c.loop-rest-test.false c.in_ok-push-2.ensures.items
    c.loop-rest.invariant.completes
