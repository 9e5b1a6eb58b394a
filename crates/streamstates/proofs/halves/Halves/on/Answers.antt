use Rattle.std.proofs.Common.{
  rules,
  ap,
  arith,
  ◌≡◌,
  ◌∙◌,
  sym,
  None,
  ◌++◌,
  ◌∷◌,
  [],
  nat_eq,
  length,
  true,
}
use Rattle.std.specs.Prelude.{nat_lt}
use Rattle.std.proofs.lemmas.Bool.{lt-ltb}
use Rattle.std.specs.Map.{lookup}
use Rattle.indexmap.proofs.CallerLemmas.{insert_entry-new}
use Rattle.streamstates.specs.Halves.{Streams, half_of, is_headers}
use Rattle.limits.specs.declared.TheConstants.{MAX_STREAMS}
use Rattle.h2frame.specs.declared.kind.FrameKind.TheVariants.{Headers}
use Rattle.streamstates.proofs.HalfLemmas.{
  begun-follows,
  begun-error,
  begun-there,
  begun-length,
  unbegun,
  unbegun-left,
  is-new,
  new-follows,
}
use Rattle.streamstates.proofs.halves.Halves.on.Goals as goal

pub returns-in-Some-clause-follows : goal.returns-in-Some-clause-follows
returns-in-Some-clause-follows c =
    let s : Streams =
    record { greatest = c.self.inside.greatest; halves = c.self.inside.halves.entries } in
    rw (← c.self.view_is) (begun-follows s c.judge_begun.new.halves.entries c.args.head.now
    c.in-Some.action c.in-Some.ensures.begun c.in-Some.ensures.half)

pub returns-in-Some-clause-error : goal.returns-in-Some-clause-error
returns-in-Some-clause-error c =
    let s : Streams =
    record { greatest = c.self.inside.greatest; halves = c.self.inside.halves.entries } in
    rw (← c.self.view_is)
    (λ error. ap (λ halves. record { greatest = c.self.inside.greatest; halves = halves })
    (begun-error s c.judge_begun.new.halves.entries c.args.head.now c.in-Some.action
    c.in-Some.ensures.begun c.in-Some.ensures.half error))

pub returns-in-Some-clause-begun : goal.returns-in-Some-clause-begun
returns-in-Some-clause-begun c =
    let s : Streams =
    record { greatest = c.self.inside.greatest; halves = c.self.inside.halves.entries } in
    λ _.
    begun-there s c.judge_begun.new.halves.entries c.args.head.now c.in-Some.action
    c.in-Some.ensures.begun c.in-Some.ensures.half

pub invariant_of-self : goal.invariant_of-self
invariant_of-self c =
    let s : Streams =
    record { greatest = c.self.inside.greatest; halves = c.self.inside.halves.entries } in
    omega (
      arith,
      begun-length s c.judge_begun.new.halves.entries c.args.head.now c.in-Some.action
          c.in-Some.ensures.begun c.in-Some.ensures.half,
      c.self.invariant,
    )

pub returns-in-Some-clause-few : goal.returns-in-Some-clause-few
returns-in-Some-clause-few c =
    let s : Streams =
    record { greatest = c.self.inside.greatest; halves = c.self.inside.halves.entries } in
    omega (
      arith,
      begun-length s c.judge_begun.new.halves.entries c.args.head.now c.in-Some.action
          c.in-Some.ensures.begun c.in-Some.ensures.half,
      c.self.invariant,
    )

pub returns-clause-follows : goal.returns-clause-follows
returns-clause-follows c =
    let s : Streams =
    record { greatest = c.self.inside.greatest; halves = c.self.inside.halves.entries } in
    let none : half_of s c.args.head.now.stream ≡ None =
    unbegun s c.judge_begun.new.halves.entries c.args.head.now c.in_default.ensures.begun
    c.in_default.ensures.half in
    let same : c.judge_begun.new.halves.entries ≡ c.self.inside.halves.entries =
    unbegun-left s c.judge_begun.new.halves.entries c.args.head.now c.in_default.ensures.begun
    c.in_default.ensures.half in
    let absent : lookup (nat_eq c.args.head.now.stream) c.judge_begun.new.halves.entries ≡ None =
    ap (λ halves. lookup (nat_eq c.args.head.now.stream) halves) same ∙ none in
    let pushed : c.insert.new.self.entries ≡ c.self.inside.halves.entries
    ++ (c.args.head.now.stream, c.new_half.result) ∷ [] =
    c.in_ok-insert.ensures.entries
    ∙ insert_entry-new nat_eq c.judge_begun.new.halves c.args.head.now.stream
    c.new_half.result absent
    ∙ ap (λ halves. halves ++ (c.args.head.now.stream, c.new_half.result) ∷ []) same in
    let few : nat_lt (length c.self.inside.halves.entries) MAX_STREAMS ≡ true =
    lt-ltb _ _ (omega (arith, c.len.ensures.len, ap length same, c.if-len-ge-MAX_STREAMS.false)) in
    let kind : c.args.head.now.kind ≡ Headers = search rules in
    rw (← c.self.view_is) (new-follows s c.args.head.now c.requires.0 none
    (is-new s c.args.head.now (ap is_headers kind) (sym c.may_begin.ensures ∙ search rules) few)
    c.insert.new.self.entries c.new_half.result c.new_half.ensures pushed)
