use Rattle.std.proofs.Common.{◌≡◌, nat_eq, ◌∙◌, sym, ap, Some, arith, refl}
use Rattle.std.specs.Map.{lookup}
use Rattle.std.proofs.lemmas.Cmp.{nat_eq_equiv}
use Rattle.indexmap.proofs.CallerLemmas.{updates-with_value_at}
use Rattle.outwriter.specs.declared.states.Stream.{Stream}
use Rattle.outwriter.specs.declared.stream_state.StreamState.{StreamState}
use Rattle.outwriter.specs.declared.stream_state.StreamState.TheVariants.{Call}
use Rattle.outwriter.proofs.StateLemmas.{value-at}
use Rattle.outwriter.proofs.states.entries.take_at.Goals as goal

pub returns-in-Some : goal.returns-in-Some
returns-in-Some c =
    let was = c.in_ok-id in
    let now : Stream = c.in-Some.stream.now in
    let same_stream : now ≡ was.stream.now =
    value-at c.args.streams.now.entries c.args.place (was.id.now, was.stream.now) now
    (sym was.ensures.entry) c.in-Some.ensures.value in
    let here : was.stream.now ≡ record now { state = Call c.in-Call.owed c.in-Call.over } =
    ap (λ (s : StreamState). record was.stream.now { state = s }) c.in-Call.is
    ∙ ap (λ (x : Stream). record x { state = Call c.in-Call.owed c.in-Call.over })
    (sym same_stream) in
    let found : lookup (nat_eq was.id.now) c.args.streams.now.entries ≡ Some
    (record now { state = Call c.in-Call.owed c.in-Call.over }) =
    was.ensures.value ∙ ap (λ (s : Stream). Some s) here in
    let new : Stream = record now { state = Call 0 c.in-Call.over } in
    let updates =
    updates-with_value_at c.args.streams.now c.args.place new nat_eq_equiv c.in-Some.ensures.unique
    was.id.now _ (sym was.ensures.entry) in
    (c.in-Call.over, now, omega (arith, c.if-owed-eq0.false), found, updates.0, refl)
