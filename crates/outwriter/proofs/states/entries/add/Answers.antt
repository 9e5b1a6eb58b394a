use Rattle.std.proofs.Common.{◌≡◌, nat_eq, ◌∙◌, sym, ap, Some, cond, ◌<◌, length}
use Rattle.std.specs.Map.{lookup}
use Rattle.std.proofs.lemmas.Cmp.{nat_eq_equiv}
use Rattle.std.proofs.lemmas.Option.{slice_get_within}
use Rattle.std.proofs.lemmas.Bool.{eqb-true}
use Rattle.indexmap.specs.IndexMap.{set_value_at}
use Rattle.indexmap.proofs.CallerLemmas.{updates-with_value_at}
use Rattle.outwriter.specs.declared.states.Stream.{Stream}
use Rattle.outwriter.specs.declared.stream_state.StreamState.{StreamState}
use Rattle.outwriter.specs.declared.stream_state.StreamState.TheVariants.{Call}
use Rattle.outwriter.proofs.StateLemmas.{stored, value-at}
use Rattle.outwriter.proofs.states.entries.add.Goals as goal

pub returns-in-Some : goal.returns-in-Some
returns-in-Some c =
    let was = c.in_ok-place in
    let es = c.args.streams.now.entries in
    let now : Stream = c.in-Some.stream.now in
    let same_stream : now ≡ was.stream.now =
    value-at c.args.streams.now.entries was.place (was._id.now, was.stream.now) now
    was.ensures.entry c.in-Some.ensures.value in
    let here : was.stream.now ≡ record now { state = Call c.in-Call.owed c.in-Call.over } =
    ap (λ (s : StreamState). record was.stream.now { state = s }) c.in-Call.is
    ∙ ap (λ (x : Stream). record x { state = Call c.in-Call.owed c.in-Call.over })
    (sym same_stream) in
    let same : c.args.id ≡ was._id.now =
    eqb-true c.args.id was._id.now
    (stored (nat_eq c.args.id) es was._id.now (sym was.ensures.key)) in
    let found : lookup (nat_eq c.args.id) es ≡ Some
    (record now { state = Call c.in-Call.owed c.in-Call.over }) =
    sym was.ensures.value ∙ ap (λ (s : Stream). Some s) here in
    let within : was.place < length es = slice_get_within es was.place _ was.ensures.entry in
    let new : Stream = record now { state = Call c.sum.result c.in-Call.over } in
    let updates =
    updates-with_value_at c.args.streams.now was.place new nat_eq_equiv c.in-Some.ensures.unique
    was._id.now _ was.ensures.entry in (
      c.in-Call.owed,
      c.in-Call.over,
      now,
      found,
      within,
      λ other. updates.0 other
          ∙ ap (λ n.
          cond (nat_eq n other) (Some (record now { state = Call c.sum.result c.in-Call.over }))
          (lookup (nat_eq other) es)) (sym same)
          ∙ ap (λ n.
          cond (nat_eq c.args.id other) (Some (record now { state = Call n c.in-Call.over }))
          (lookup (nat_eq other) es)) c.sum.ensures,
      ap (λ n. set_value_at es was.place (record now { state = Call n c.in-Call.over }))
          c.sum.ensures,
    )
