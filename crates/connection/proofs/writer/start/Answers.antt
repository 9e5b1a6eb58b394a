use Rattle.std.proofs.Common.{◌≡◌, ◌∙◌, ◌∷◌, [], List, Option, ap, subst, sym, ℕ}
use Rattle.lane.specs.Ring.{in_name, out_name, taken}
use Rattle.writerloop.specs.Endings.{ending_told}
use Rattle.writerloop.specs.Written.{HasSent, Led}
use Rattle.outwriter.specs.declared.control.WriterOrder.TheVariants.{InputEnded}
use Rattle.connection.proofs.Heard.{closed-behind, ordered-put}
use Rattle.connection.proofs.writer.start.Goals as goal

pub returns-in-Err-clause-sent : goal.returns-in-Err-clause-sent
returns-in-Err-clause-sent g c =
    let contents = g.W.ConnWrite.contents in
    let failed = g.W.ConnWrite.failed in
    let parted = c.write.result in
    let led =
    subst (λ (credit : ℕ).
    Led contents failed (contents c.of.result.value) credit c.new-writing.result)
    (sym c.requires.unused.2) c.new-writing.ensures.led in
    let kept : HasSent contents failed (contents c.of.result.value) parted.announced.amount
    (taken parted.written.orders) parted.written.senders (ending_told parted.written.ending)
    parted.written.device =
    c.write.ensures.sent (contents c.of.result.value) (rw c.in-Err.ensures.err led) in
    subst (λ (before : Option (List ℕ)).
    HasSent contents failed before parted.announced.amount (taken parted.written.orders)
    parted.written.senders (ending_told parted.written.ending) parted.written.device)
    (ap contents c.of.ensures) kept

pub returns-in-Err-clause-closed : goal.returns-in-Err-clause-closed
returns-in-Err-clause-closed g c = (
  c.close.ensures.none_left,
  λ ordered.
      closed-behind (InputEnded ∷ []) c.put.new.self c.close.new.self c.close.ensures.put
      c.close.ensures.drops.dropped c.close.ensures.drops.unput
      (ordered-put [] InputEnded c.args.orders.now c.put.new.self c.put.ensures.puts tt ordered),
)

pub spawn_with-requires-clause-keeps : goal.spawn_with-requires-clause-keeps
spawn_with-requires-clause-keeps g c = λ κs within r claims.
    let contents = g.W.ConnWrite.contents in
    let failed = g.W.ConnWrite.failed in
    let kept : (out_name r.written.orders ≡ out_name c.of-2.result.value)
    × (in_name r.written.senders.sends.home ≡ in_name c.of-3.result.value)
    × HasSent contents failed (contents c.of.result.value) r.announced.amount
    (taken r.written.orders)
    r.written.senders (ending_told r.written.ending) r.written.device
    × (r.announced.parts ≡ g.C.Ledger.parts) = (
      claims.0 ∙ (ap out_name c.new-writing.ensures.ring ∙ ap out_name (sym c.of-2.ensures)),
      claims.1.0 ∙ (ap in_name c.new-writing.ensures.way ∙ ap in_name (sym c.of-3.ensures)),
      claims.1.1.0 (contents c.of.result.value)
          (subst (λ (credit : ℕ).
          Led contents failed (contents c.of.result.value) credit c.new-writing.result)
          (sym c.requires.unused.2) c.new-writing.ensures.led),
      claims.1.1.1,
    ) in kept
