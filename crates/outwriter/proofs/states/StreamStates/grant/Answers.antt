use Rattle.std.proofs.Common.{arith, is_some, length, [], subst, sym, ap, ◌∙◌}
use Rattle.outwriter.specs.States.{
  AllFit,
  Grants,
  IsSettledBut,
  Moves,
  SameEnds,
  SameOpen,
  States,
  states_of,
}
use Rattle.outwriter.proofs.StateLemmas.{
  length-set_at,
  settled_but-set_at,
  fit-set_at,
  apart-puts,
  numbered-puts,
}
use Rattle.outwriter.proofs.StateWindows.{
  adds-ends,
  adds-grants,
  adds-moves,
  adds-open,
  none-grants,
}
use Rattle.outwriter.proofs.states.StreamStates.grant.Goals as goal

same_length : goal.bring_forward-self-inside-requires-clause-place
same_length c = omega (
  arith,
  c.in-Some.ensures.4,
  ap length c.in-Some.ensures.6 ∙ length-set_at c.self.inside.streams.entries c.in-Some.place _,
)

pub bring_forward-self-inside-requires-clause-place :
    goal.bring_forward-self-inside-requires-clause-place
bring_forward-self-inside-requires-clause-place c = same_length c

pub bring_forward-self-inside-requires-clause-owing :
    goal.bring_forward-self-inside-requires-clause-owing
bring_forward-self-inside-requires-clause-owing c = omega (
  arith,
  c.self.invariant.place,
  ap length c.in-Some.ensures.6 ∙ length-set_at c.self.inside.streams.entries c.in-Some.place _,
)

pub bring_forward-self-inside-requires-clause-settled :
    goal.bring_forward-self-inside-requires-clause-settled
bring_forward-self-inside-requires-clause-settled c =
    subst (IsSettledBut c.in-Some.place c.self.inside.owing) (sym c.in-Some.ensures.6)
    (settled_but-set_at c.self.inside.streams.entries c.in-Some.place _ c.self.inside.owing
    c.self.invariant.settled)

pub invariant_of-self-in-Some : goal.invariant_of-self-in-Some
invariant_of-self-in-Some c = record {
  connection_fits = c.self.invariant.connection_fits;
  place = c.bring_forward-self-inside.ensures.owing;
  fit =
      c.bring_forward-self-inside.ensures.fit (subst AllFit (sym c.in-Some.ensures.6) (fit-set_at
      c.self.inside.streams.entries c.in-Some.place _ c.self.invariant.fit (omega arith)));
  settled = c.bring_forward-self-inside.ensures.settled;
  apart = ap is_some (c.bring_forward-self-inside.ensures.same 0)
      ∙ apart-puts c.self.inside.streams.entries c.args.id _ c.add.new.streams.entries
      (omega (arith, c.if-id-eq0.false)) c.in-Some.ensures.5 c.self.invariant.apart;
  numbered = λ id found.
      numbered-puts c.self.inside.streams.entries c.args.id _ c.add.new.streams.entries
      c.in-Some.ensures.5 (ap is_some c.in-Some.ensures.3) c.self.invariant.numbered
      id (sym (ap is_some (c.bring_forward-self-inside.ensures.same id)) ∙ found);
}

pub returns-in-Some-clause-grants : goal.returns-in-Some-clause-grants
returns-in-Some-clause-grants c =
    subst (λ (o : States).
    Grants o c.args.id c.args.n (states_of c.self.inside.connection c.self.inside.window
    c.bring_forward-self-inside.new.streams.entries)) c.self.view_is
    (adds-grants c.self.inside.connection c.self.inside.window c.self.inside.streams.entries
    c.add.new.streams.entries c.bring_forward-self-inside.new.streams.entries c.args.id
    c.args.n c.in-Some.place
    (omega (arith, c.if-id-eq0.false)) c.in-Some.ensures c.bring_forward-self-inside.ensures.same)

pub returns-in-Some-clause-ends : goal.returns-in-Some-clause-ends
returns-in-Some-clause-ends c =
    subst (λ (o : States).
    SameEnds o (states_of c.self.inside.connection c.self.inside.window
    c.bring_forward-self-inside.new.streams.entries)) c.self.view_is
    (adds-ends c.self.inside.connection c.self.inside.window c.self.inside.streams.entries
    c.add.new.streams.entries c.bring_forward-self-inside.new.streams.entries c.args.id
    c.args.n c.in-Some.place
    (omega (arith, c.if-id-eq0.false)) c.in-Some.ensures c.bring_forward-self-inside.ensures.same)

pub returns-in-Some-clause-open : goal.returns-in-Some-clause-open
returns-in-Some-clause-open c =
    subst (λ (o : States).
    SameOpen o (states_of c.self.inside.connection c.self.inside.window
    c.bring_forward-self-inside.new.streams.entries)) c.self.view_is
    (adds-open c.self.inside.connection c.self.inside.window c.self.inside.streams.entries
    c.add.new.streams.entries c.bring_forward-self-inside.new.streams.entries c.args.id
    c.args.n c.in-Some.place
    (omega (arith, c.if-id-eq0.false)) c.in-Some.ensures c.bring_forward-self-inside.ensures.same)

pub returns-in_default-clause-grants : goal.returns-in_default-clause-grants
returns-in_default-clause-grants c =
    subst (λ (o : States).
    Grants o c.args.id c.args.n (states_of c.self.inside.connection
    c.self.inside.window c.add.new.streams.entries)) c.self.view_is
    (none-grants c.self.inside.connection c.self.inside.window c.self.inside.streams.entries
    c.add.new.streams.entries c.args.id c.args.n (omega (arith, c.if-id-eq0.false))
    c.in_default.ensures)

pub returns-in-Some-clause-windows : goal.returns-in-Some-clause-windows
returns-in-Some-clause-windows c =
    subst (λ (o : States).
    Moves o [] (states_of c.self.inside.connection c.self.inside.window
    c.bring_forward-self-inside.new.streams.entries)) c.self.view_is
    (adds-moves c.self.inside.connection c.self.inside.window c.self.inside.streams.entries
    c.add.new.streams.entries c.bring_forward-self-inside.new.streams.entries c.args.id
    c.args.n c.in-Some.place
    (omega (arith, c.if-id-eq0.false)) c.in-Some.ensures c.bring_forward-self-inside.ensures.same)
