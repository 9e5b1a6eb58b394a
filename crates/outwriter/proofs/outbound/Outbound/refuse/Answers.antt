use Rattle.std.proofs.Common.{sym, ◌∙◌, true≢false}
use Rattle.outwriter.proofs.Leads.{kept-refused, kept-unrefused}
use Rattle.outwriter.proofs.outbound.Outbound.refuse.Goals.{
  then-not-is_stream-via-then-not-is_stream,
  then-not-is_stream-via-else-not-is_stream+then-is_heard,
}
use Rattle.outwriter.proofs.outbound.Outbound.refuse.Goals as goal

pub returns-then-not-is_stream-clause-kept : goal.returns-then-not-is_stream-clause-kept
returns-then-not-is_stream-clause-kept g c =
    kept-unrefused c.args.id c.args.fields c.args.self.now
    (λ there. elim c.then-not-is_stream.branch [
      | then-not-is_stream-via-then-not-is_stream w ↦
          absurd (true≢false (sym there ∙ sym c.is_stream.ensures ∙ w.if-not-is_stream.true))
      | then-not-is_stream-via-else-not-is_stream+then-is_heard w ↦
          sym w.is_heard.ensures ∙ w.if-is_heard.true
    ])

pub returns-in-Ok-clause-kept : goal.returns-in-Ok-clause-kept
returns-in-Ok-clause-kept g c =
    kept-refused c.args.id c.args.fields c.args.self.now c.take_refuse.new.self
    (sym c.is_stream.ensures ∙ c.if-not-is_stream.false)
    (sym c.is_heard.ensures ∙ c.if-is_heard.false)
    c.in-Ok.ensures.taken c.in-Ok.ensures.takes
