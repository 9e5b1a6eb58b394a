use Rattle.std.proofs.Common.{◌+◌, take, drop, subst, arith}
use Rattle.std.proofs.lemmas.List.{take_rest}
use Rattle.callhead.specs.Parts.{ReadsPart}
use Rattle.callhead.proofs.PartLemmas.{refused_at, refused_last, leads_on, leads_all}
use Rattle.callhead.proofs.bin.read_bin_values.Goals as goal

pub returns-in_default-2 : goal.returns-in_default-2
returns-in_default-2 c = λ values.
    let rest = c.loop-comma.rest.now in
    let part = take c.in-Some.comma rest in
    let none = subst (ReadsPart part) c.in_default-2.is c.in_ok-value.ensures in (
      λ e. absurd (cc),
      λ is.
          absurd (refused_at c.args.text.now c.loop-comma.values.items rest part
          (drop (c.in-Some.comma + 1) rest) c.loop-comma.invariant c.in-Some.ensures.there
          c.in-Some.ensures.without none values is),
    )

pub overflow_add-rest : goal.overflow_add-rest
overflow_add-rest c = let fits = c.in-Some.ensures.fits in omega (arith, fits)

pub loop-comma-preserved : goal.loop-comma-preserved
loop-comma-preserved c =
    let rest = c.loop-comma.rest.now in
    let part = take c.in-Some.comma rest in
    let some = subst (ReadsPart part) c.in-Some-2.is c.in_ok-value.ensures in
    let on =
    leads_on c.args.text.now c.loop-comma.values.items rest part
    (drop (c.in-Some.comma + 1) rest) c.in-Some-2.value c.loop-comma.invariant
    c.in-Some.ensures.there c.in-Some.ensures.without some in
    rw (c.in_ok-push.ensures.items, take_rest) on

pub returns-in_default-3 : goal.returns-in_default-3
returns-in_default-3 c = λ values.
    let rest = c.loop-comma.rest.now in
    let none = subst (ReadsPart rest) c.in_default-3.is c.in_ok-value-2.ensures in (
      λ e. absurd (cc),
      λ is.
          absurd (refused_last c.args.text.now c.loop-comma.values.items rest c.loop-comma.invariant
          c.in_default.ensures.none none values is),
    )

pub returns : goal.returns
returns c =
    let rest = c.loop-comma.rest.now in
    let some = subst (ReadsPart rest) c.in-Some-3.is c.in_ok-value-2.ensures in
    rw (c.from.ensures, c.in_ok-push-2.ensures.items) (leads_all c.args.text.now
    c.loop-comma.values.items rest c.in-Some-3.value c.loop-comma.invariant
    c.in_default.ensures.none some)
