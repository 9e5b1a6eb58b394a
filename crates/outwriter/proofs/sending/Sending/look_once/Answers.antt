use Rattle.outwriter.specs.Cores.{calls}
use Rattle.outwriter.specs.Polls.{coming}
use Rattle.outwriter.proofs.GaveSteps.{gave-one}
use Rattle.outwriter.proofs.LookSteps.{
  block-found,
  block-picks,
  message-found,
  nothing-picks,
  nothing-stuck,
}
use Rattle.outwriter.proofs.ServeStepsLook.{one-fronts}
use Rattle.outwriter.proofs.sending.Sending.look_once.Goals as goal

pub returns-in_err-found-clause-gives : goal.returns-in_err-found-clause-gives
returns-in_err-found-clause-gives g c = (
  one-fronts (calls g.L.Lane.got c.args.self.now.senders.items)
      (calls g.L.Lane.got c.next_on.new.senders.items) c.next_on.ensures.got,
  c.next_on.ensures.senders,
  gave-one (calls g.L.Lane.got c.args.self.now.senders.items)
      (calls g.L.Lane.got c.next_on.new.senders.items) c.next_on.ensures.got,
)

pub returns-in-Nothing-clause-picks : goal.returns-in-Nothing-clause-picks
returns-in-Nothing-clause-picks g c =
    nothing-picks g.L.Lane.got (coming g.L.Lane.got g.L.Lane.ahead) c.args.self.now
    (record c.args.self.now { senders = c.next_on.new.senders }) c.next_on.new.encoder
    c.next_on.new.self c.args.id c.requires c.in_ok-found.found
    c.in_ok-found.ensures.next c.in-Nothing.is

pub returns-in-Nothing-clause-looks : goal.returns-in-Nothing-clause-looks
returns-in-Nothing-clause-looks g c =
    nothing-stuck g.L.Lane.got (coming g.L.Lane.got g.L.Lane.ahead) c.args.self.now
    (record c.args.self.now { senders = c.next_on.new.senders }) c.next_on.new.encoder
    c.next_on.new.self c.args.id c.requires c.in_ok-found.found
    c.in_ok-found.ensures.next c.in-Nothing.is

pub returns-in-Nothing-clause-gives : goal.returns-in-Nothing-clause-gives
returns-in-Nothing-clause-gives g c = (
  one-fronts (calls g.L.Lane.got c.args.self.now.senders.items)
      (calls g.L.Lane.got c.next_on.new.senders.items) c.next_on.ensures.got,
  c.next_on.ensures.senders,
  gave-one (calls g.L.Lane.got c.args.self.now.senders.items)
      (calls g.L.Lane.got c.next_on.new.senders.items) c.next_on.ensures.got,
)

pub returns-in-Message-clause-picks : goal.returns-in-Message-clause-picks
returns-in-Message-clause-picks g c =
    (message-found g.L.Lane.got (coming g.L.Lane.got g.L.Lane.ahead) c.args.self.now
    (record c.args.self.now { senders = c.next_on.new.senders }) c.next_on.new.encoder
    c.next_on.new.self c.args.id c.requires c.in_ok-found.found c.in-Message.looked
    c.in_ok-found.ensures.next c.in-Message.is).0

pub returns-in-Message-clause-gives : goal.returns-in-Message-clause-gives
returns-in-Message-clause-gives g c = (
  one-fronts (calls g.L.Lane.got c.args.self.now.senders.items)
      (calls g.L.Lane.got c.next_on.new.senders.items) c.next_on.ensures.got,
  c.next_on.ensures.senders,
  gave-one (calls g.L.Lane.got c.args.self.now.senders.items)
      (calls g.L.Lane.got c.next_on.new.senders.items) c.next_on.ensures.got,
)

pub returns-in-Message-clause-looks : goal.returns-in-Message-clause-looks
returns-in-Message-clause-looks g c =
    (message-found g.L.Lane.got (coming g.L.Lane.got g.L.Lane.ahead) c.args.self.now
    (record c.args.self.now { senders = c.next_on.new.senders }) c.next_on.new.encoder
    c.next_on.new.self c.args.id c.requires c.in_ok-found.found c.in-Message.looked
    c.in_ok-found.ensures.next c.in-Message.is).1

pub returns-in_err-headers_frame-in-Block-clause-gives :
    goal.returns-in_err-headers_frame-in-Block-clause-gives
returns-in_err-headers_frame-in-Block-clause-gives g c = (
  one-fronts (calls g.L.Lane.got c.args.self.now.senders.items)
      (calls g.L.Lane.got c.next_on.new.senders.items) c.next_on.ensures.got,
  c.next_on.ensures.senders,
  gave-one (calls g.L.Lane.got c.args.self.now.senders.items)
      (calls g.L.Lane.got c.next_on.new.senders.items) c.next_on.ensures.got,
)

pub returns-in_ok-headers_frame-in-Block-clause-picks :
    goal.returns-in_ok-headers_frame-in-Block-clause-picks
returns-in_ok-headers_frame-in-Block-clause-picks g c =
    block-picks g.L.Lane.got (coming g.L.Lane.got g.L.Lane.ahead) c.args.self.now
    (record c.args.self.now { senders = c.next_on.new.senders }) c.next_on.new.encoder
    c.next_on.new.self c.args.id c.requires c.in-Block.bytes c.in-Block.ends
    c.in_ok-headers_frame-in-Block.field-0 c.headers_frame.new.self
    (block-found g.L.Lane.got (coming g.L.Lane.got g.L.Lane.ahead) c.args.self.now
    (record c.args.self.now { senders = c.next_on.new.senders }) c.next_on.new.encoder
    c.next_on.new.self c.args.id c.requires c.in_ok-found.found c.in-Block.bytes c.in-Block.ends
    c.in_ok-found.ensures.next c.in-Block.is)
    c.in_ok-headers_frame-in-Block.ensures.sound c.in_ok-headers_frame-in-Block.ensures.begins
    c.in_ok-headers_frame-in-Block.ensures.tells

pub returns-in_ok-headers_frame-in-Block-clause-gives :
    goal.returns-in_ok-headers_frame-in-Block-clause-gives
returns-in_ok-headers_frame-in-Block-clause-gives g c = (
  one-fronts (calls g.L.Lane.got c.args.self.now.senders.items)
      (calls g.L.Lane.got c.next_on.new.senders.items) c.next_on.ensures.got,
  c.next_on.ensures.senders,
  gave-one (calls g.L.Lane.got c.args.self.now.senders.items)
      (calls g.L.Lane.got c.next_on.new.senders.items) c.next_on.ensures.got,
)
