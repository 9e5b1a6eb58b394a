use Rattle.std.proofs.Common.{◌∙◌, [], Ok, ap, refl, subst, sym}
use Rattle.outwriter.specs.Cores.{LeadsNext, RestsNext, calls}
use Rattle.outwriter.specs.declared.next.Next.{Next}
use Rattle.outwriter.specs.LeftCalls.{GaveLeft}
use Rattle.outwriter.specs.Polls.{coming}
use Rattle.writerloop.proofs.WroteSteps.{put-fills, still-on}
use Rattle.writerloop.proofs.frames.Frames.add_frame.Goals as goal

pub put-requires-clause-sound : goal.put-requires-clause-sound
put-requires-clause-sound g c = λ κs outlive.
    c.in-Ok-Frame.ensures.sound c.in-Ok-Frame.frame c.in-Ok-Frame.field-0-is

pub returns-in-Ok-Frame-clause-wrote : goal.returns-in-Ok-Frame-clause-wrote
returns-in-Ok-Frame-clause-wrote g c =
    let core = c.args.self.now.core in
    let after = c.next_frame.new.self in
    put-fills g.L.Lane.got g.W.ConnWrite.contents g.W.ConnWrite.failed
    (coming g.L.Lane.got g.L.Lane.ahead) c.in-Ok-Frame.frame c.args.self.now
    (record c.args.self.now {
      core = after;
      buffer = c.make_room.new.buffer;
      ended = c.make_room.new.ended;
      streams = c.make_room.new.streams;
    }) c.put.new.self c.requires
    (subst (λ (next : Next). LeadsNext g.L.Lane.got (Ok next) core after) c.in-Ok-Frame.field-0-is
    c.in-Ok-Frame.ensures.leads)
    refl refl c.make_room.ensures.bytes c.make_room.ensures.items c.put.ensures.puts

pub returns-in-Ok-Idle-clause-wrote : goal.returns-in-Ok-Idle-clause-wrote
returns-in-Ok-Idle-clause-wrote g c = λ before run w.
    let core = c.args.self.now.core in
    let after = c.next_frame.new.self in
    let still =
    subst (λ (next : Next). LeadsNext g.L.Lane.got (Ok next) core after) c.in-Ok-Idle.field-0-is
    c.in-Ok-Idle.ensures.leads in
    let rests =
    subst (λ (next : Next). RestsNext (coming g.L.Lane.got g.L.Lane.ahead) run next after)
    c.in-Ok-Idle.field-0-is (c.in-Ok-Idle.ensures.rests run w.leads) in (
      [],
      still-on g.L.Lane.got g.W.ConnWrite.contents g.W.ConnWrite.failed c.args.self.now
          (record c.args.self.now {
            core = after;
            buffer = c.make_room.new.buffer;
            ended = c.make_room.new.ended;
            streams = c.make_room.new.streams;
          }) c.requires
          still refl refl c.make_room.ensures.bytes c.make_room.ensures.items before run w,
      (rests.0, sym (still run w.leads).closed ∙ rests.1),
    )

pub returns-in-Ok-Over-clause-wrote : goal.returns-in-Ok-Over-clause-wrote
returns-in-Ok-Over-clause-wrote g c = λ before run w.
    let core = c.args.self.now.core in
    let after = c.next_frame.new.self in (
      [],
      still-on g.L.Lane.got g.W.ConnWrite.contents g.W.ConnWrite.failed c.args.self.now
          (record c.args.self.now {
            core = after;
            buffer = c.make_room.new.buffer;
            ended = c.make_room.new.ended;
            streams = c.make_room.new.streams;
          }) c.requires
          (subst (λ (next : Next). LeadsNext g.L.Lane.got (Ok next) core after)
          c.in-Ok-Over.field-0-is c.in-Ok-Over.ensures.leads) refl refl c.make_room.ensures.bytes
          c.make_room.ensures.items before run w,
      (
        (subst (λ (next : Next). RestsNext (coming g.L.Lane.got g.L.Lane.ahead) run next after)
            c.in-Ok-Over.field-0-is (c.in-Ok-Over.ensures.rests run w.leads)).0,
        c.in-Ok-Over.ensures.over c.in-Ok-Over.field-0-is,
        c.in-Ok-Over.ensures.lives,
      ),
    )

pub returns-in-Err-clause-wrote : goal.returns-in-Err-clause-wrote
returns-in-Err-clause-wrote g c = λ before run w. (
  [],
  c.stop-in-Err.ensures.wrote before run
      (still-on g.L.Lane.got g.W.ConnWrite.contents g.W.ConnWrite.failed c.args.self.now
      (record c.args.self.now {
        core = c.next_frame.new.self;
        buffer = c.make_room.new.buffer;
        ended = c.make_room.new.ended;
        streams = c.make_room.new.streams;
      }) c.requires c.in-Err.ensures.leads refl refl c.make_room.ensures.bytes
      c.make_room.ensures.items before run w),
  c.stop-in-Err.ensures.stops,
)

pub returns-in-Ok-Frame-clause-gave : goal.returns-in-Ok-Frame-clause-gave
returns-in-Ok-Frame-clause-gave g c = λ id gave.
    subst (λ core. GaveLeft id (calls g.L.Lane.got core.sending.senders.items))
    (sym c.put.ensures.puts.core) (c.next_frame.ensures.left id gave)

pub returns-in-Err-clause-gave : goal.returns-in-Err-clause-gave
returns-in-Err-clause-gave g c = λ id gave.
    subst (λ core. GaveLeft id (calls g.L.Lane.got core.sending.senders.items))
    (sym (ap (λ w. w.core) c.stop-in-Err.ensures.rest)) (c.next_frame.ensures.left id gave)
