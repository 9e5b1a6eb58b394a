use Rattle.std.proofs.Common.{refl, subst, true, List, ◌∷◌}
use Rattle.lists.specs.declared.field.Field.{Field}
use Rattle.hpack_codec.specs.Codec.{Writes}
use Rattle.outwriter.proofs.EndSteps.{block-heads}
use Rattle.outwriter.proofs.TellStepsOwn.{refusal-own}
use Rattle.std.proofs.lemmas.Result.{IfOk-weaker}
use Rattle.h2frame.specs.declared.frame.Frame.{Frame}
use Rattle.outwriter.specs.declared.due.Due.TheVariants.{Refuse}
use Rattle.outwriter.specs.RunState.{WritesDue}
use Rattle.outwriter.proofs.outbound.Outbound.refusal.Goals as goal

pub returns-clause-written : goal.returns-clause-written
returns-clause-written c =
    let ended =
    record c.args.self.now { encoder = c.encoded.new.encoder; states = c.end.new.self } in
    IfOk-weaker c.headers_frame.result _ (λ (frame : Frame).
    WritesDue (Refuse c.args.id c.args.fields) frame c.args.self.now c.headers_frame.new.self)
    (λ frame begins run m.
    block-heads c.args.self.now ended c.headers_frame.new.self c.args.id true c.in_ok-bytes.bytes
    frame c.requires.between c.requires.stream c.requires.open c.requires.unreset
    refl c.in_ok-end.ensures.ok c.in_ok-end.ensures.owed c.in_ok-end.ensures.windows begins run
    (Refuse c.args.id c.args.fields ∷ c.args.self.now.due.items) m m.answers)
    c.headers_frame.ensures.begins

pub returns-clause-own : goal.returns-clause-own
returns-clause-own c =
    let mid = record c.args.self.now { encoder = c.encoded.new.encoder } in
    refusal-own c.args.id c.args.fields c.in_ok-bytes.bytes c.headers_frame.result c.args.self.now
    mid (record mid { states = c.end.new.self }) c.headers_frame.new.self
    refl c.requires.open
    (subst (λ (fields : List Field).
    Writes c.args.self.now.encoder fields c.in_ok-bytes.bytes c.encoded.new.encoder)
    c.as_slice.ensures c.in_ok-bytes.ensures)
    refl c.in_ok-end.ensures.ok c.in_ok-end.ensures.owed c.in_ok-end.ensures.open
    c.headers_frame.ensures.begins c.headers_frame.ensures.tells
