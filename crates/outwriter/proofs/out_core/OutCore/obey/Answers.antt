use Rattle.std.proofs.lemmas.Result.{IfErr-weaker}
use Rattle.std.proofs.Common.{Some, ap, refl, true, [], ◌∷◌}
use Rattle.outwriter.specs.States.{States}
use Rattle.outwriter.specs.declared.control.WriterOrder.TheVariants as order
use Rattle.outwriter.specs.declared.due.Due.TheVariants as due_kind
use Rattle.outwriter.proofs.Faults.{no-blame, no-concern, blamed, credit-fits, settings-fit}
use Rattle.outwriter.proofs.Leads.{
  kept-plain,
  kept-room,
  leads-answered,
  leads-ordered,
  leads-room,
  leads-taken,
  none-plain,
  one-plain,
  unsaid-goaway,
  unsaid-plain,
  unsaid-probe,
}
use Rattle.outwriter.proofs.out_core.OutCore.obey.Goals as goal

pub returns-in-Open-clause-fault : goal.returns-in-Open-clause-fault
returns-in-Open-clause-fault g c =
    IfErr-weaker c.begin.result _ _ (λ fault is run l.
    no-blame fault (Some (order.Open c.in-Open.id c.in-Open.sender)) c.args.control is run)
    c.begin.ensures.back

pub returns-in-Open-clause-whose : goal.returns-in-Open-clause-whose
returns-in-Open-clause-whose g c =
    IfErr-weaker c.begin.result _ _ (λ fault is.
    no-concern fault (Some (order.Open c.in-Open.id c.in-Open.sender)) c.args.control is)
    c.begin.ensures.back

pub returns-in-Refuse-clause-fault : goal.returns-in-Refuse-clause-fault
returns-in-Refuse-clause-fault g c =
    IfErr-weaker c.refuse.result _ _ (λ fault is run l.
    no-blame fault (Some (order.Refuse c.in-Refuse.id c.in-Refuse.fields)) c.args.control is run)
    c.refuse.ensures.back

pub returns-in-Refuse-clause-whose : goal.returns-in-Refuse-clause-whose
returns-in-Refuse-clause-whose g c =
    IfErr-weaker c.refuse.result _ _ (λ fault is.
    no-concern fault (Some (order.Refuse c.in-Refuse.id c.in-Refuse.fields)) c.args.control is)
    c.refuse.ensures.back

pub returns-in-Reset-clause-fault : goal.returns-in-Reset-clause-fault
returns-in-Reset-clause-fault g c =
    IfErr-weaker c.reset.result _ _ (λ fault is run l.
    no-blame fault (Some (order.Reset c.in-Reset.id c.in-Reset.code c.in-Reset.written))
    c.args.control is run) c.reset.ensures.back

pub returns-in-Reset-clause-whose : goal.returns-in-Reset-clause-whose
returns-in-Reset-clause-whose g c =
    IfErr-weaker c.reset.result _ _ (λ fault is.
    no-concern fault (Some (order.Reset c.in-Reset.id c.in-Reset.code c.in-Reset.written))
    c.args.control is) c.reset.ensures.back

pub returns-in_default-clause-leads : goal.returns-in_default-clause-leads
returns-in_default-clause-leads g c = (
  refl,
  leads-room g.L.Lane.got c.args.self.now c.requires.living c.make_room.new.self (kept-room
      c.args.self.now.sending.outbound c.make_room.new.self c.make_room.ensures.stays
      c.make_room.ensures.takes),
)

pub returns-in-Ok-take_settings-clause-leads : goal.returns-in-Ok-take_settings-clause-leads
returns-in-Ok-take_settings-clause-leads g c = λ unused.
    leads-taken g.L.Lane.got c.args.self.now c.requires.living c.make_room.new.self (kept-room
    c.args.self.now.sending.outbound c.make_room.new.self c.make_room.ensures.stays
    c.make_room.ensures.takes)
    c.take_settings.new.self c.args.self.now.closed c.args.self.now.is_leaving
    c.args.self.now.has_probed c.args.self.now.has_failed c.args.control
    (order.Settings c.in-Settings.settings) c.in-Settings.is refl
    (unsaid-plain (order.Settings c.in-Settings.settings) c.args.self.now.is_leaving
    c.args.self.now.has_probed c.args.self.now.has_failed refl refl refl)
    (kept-plain (order.Settings c.in-Settings.settings) (due_kind.SettingsAck ∷ [])
    c.make_room.new.self c.take_settings.new.self tt (one-plain due_kind.SettingsAck tt)
    c.take_settings.ensures.taken c.take_settings.ensures.takes)

pub returns-in-Settings-clause-leads : goal.returns-in-Settings-clause-leads
returns-in-Settings-clause-leads g c =
    leads-taken g.L.Lane.got c.args.self.now c.requires.living c.make_room.new.self (kept-room
    c.args.self.now.sending.outbound c.make_room.new.self c.make_room.ensures.stays
    c.make_room.ensures.takes)
    c.take_settings.new.self c.args.self.now.closed c.args.self.now.is_leaving
    c.args.self.now.has_probed c.args.self.now.has_failed c.args.control
    (order.Settings c.in-Settings.settings) c.in-Settings.is refl
    (unsaid-plain (order.Settings c.in-Settings.settings) c.args.self.now.is_leaving
    c.args.self.now.has_probed c.args.self.now.has_failed refl refl refl)
    (kept-plain (order.Settings c.in-Settings.settings) (due_kind.SettingsAck ∷ [])
    c.make_room.new.self c.take_settings.new.self tt (one-plain due_kind.SettingsAck tt)
    c.take_settings.ensures.taken c.take_settings.ensures.takes)

pub returns-in-Ping-clause-leads : goal.returns-in-Ping-clause-leads
returns-in-Ping-clause-leads g c = λ unused.
    leads-taken g.L.Lane.got c.args.self.now c.requires.living c.make_room.new.self (kept-room
    c.args.self.now.sending.outbound c.make_room.new.self c.make_room.ensures.stays
    c.make_room.ensures.takes)
    c.take_ping.new.self c.args.self.now.closed c.args.self.now.is_leaving
    c.args.self.now.has_probed c.args.self.now.has_failed c.args.control
    (order.Ping c.in-Ping.bytes) c.in-Ping.is refl
    (unsaid-plain (order.Ping c.in-Ping.bytes) c.args.self.now.is_leaving c.args.self.now.has_probed
    c.args.self.now.has_failed refl refl refl)
    (kept-plain (order.Ping c.in-Ping.bytes) (due_kind.PingAck c.in-Ping.bytes ∷ [])
    c.make_room.new.self c.take_ping.new.self tt (one-plain (due_kind.PingAck c.in-Ping.bytes) tt)
    c.take_ping.ensures.taken c.take_ping.ensures.takes)

pub returns-in-Probe-clause-leads : goal.returns-in-Probe-clause-leads
returns-in-Probe-clause-leads g c = λ unused.
    leads-taken g.L.Lane.got c.args.self.now c.requires.living c.make_room.new.self (kept-room
    c.args.self.now.sending.outbound c.make_room.new.self c.make_room.ensures.stays
    c.make_room.ensures.takes)
    c.take_probe.new.self c.args.self.now.closed c.args.self.now.is_leaving true
    c.args.self.now.has_failed c.args.control (order.Probe c.in-Probe.bytes) c.in-Probe.is refl
    (unsaid-probe c.in-Probe.bytes c.args.self.now.is_leaving c.args.self.now.has_probed
    c.args.self.now.has_failed)
    (kept-plain (order.Probe c.in-Probe.bytes) (due_kind.Ping c.in-Probe.bytes ∷ [])
    c.make_room.new.self c.take_probe.new.self tt (one-plain (due_kind.Ping c.in-Probe.bytes) tt)
    c.take_probe.ensures.taken c.take_probe.ensures.takes)

pub returns-then-take_window-clause-leads : goal.returns-then-take_window-clause-leads
returns-then-take_window-clause-leads g c = λ unused.
    leads-taken g.L.Lane.got c.args.self.now c.requires.living c.make_room.new.self (kept-room
    c.args.self.now.sending.outbound c.make_room.new.self c.make_room.ensures.stays
    c.make_room.ensures.takes)
    c.take_window.new.self c.args.self.now.closed c.args.self.now.is_leaving
    c.args.self.now.has_probed c.args.self.now.has_failed c.args.control
    (order.Window c.in-Window.id c.in-Window.increment) c.in-Window.is refl
    (unsaid-plain (order.Window c.in-Window.id c.in-Window.increment) c.args.self.now.is_leaving
    c.args.self.now.has_probed c.args.self.now.has_failed refl refl refl)
    (kept-plain (order.Window c.in-Window.id c.in-Window.increment) ([]) c.make_room.new.self
    c.take_window.new.self tt none-plain c.take_window.ensures.taken c.take_window.ensures.takes)

pub returns-in-Window-clause-leads : goal.returns-in-Window-clause-leads
returns-in-Window-clause-leads g c =
    leads-taken g.L.Lane.got c.args.self.now c.requires.living c.make_room.new.self (kept-room
    c.args.self.now.sending.outbound c.make_room.new.self c.make_room.ensures.stays
    c.make_room.ensures.takes)
    c.take_window.new.self c.args.self.now.closed c.args.self.now.is_leaving
    c.args.self.now.has_probed c.args.self.now.has_failed c.args.control
    (order.Window c.in-Window.id c.in-Window.increment) c.in-Window.is refl
    (unsaid-plain (order.Window c.in-Window.id c.in-Window.increment) c.args.self.now.is_leaving
    c.args.self.now.has_probed c.args.self.now.has_failed refl refl refl)
    (kept-plain (order.Window c.in-Window.id c.in-Window.increment) ([]) c.make_room.new.self
    c.take_window.new.self tt none-plain c.take_window.ensures.taken c.take_window.ensures.takes)

pub returns-in-Goaway-clause-leads : goal.returns-in-Goaway-clause-leads
returns-in-Goaway-clause-leads g c = λ unused.
    leads-taken g.L.Lane.got c.args.self.now c.requires.living c.make_room.new.self (kept-room
    c.args.self.now.sending.outbound c.make_room.new.self c.make_room.ensures.stays
    c.make_room.ensures.takes)
    c.take_goaway.new.self c.args.self.now.closed true c.args.self.now.has_probed
    c.fails_by-self.result c.args.control (order.Goaway c.in-Goaway.last c.in-Goaway.reason)
    c.in-Goaway.is refl
    (unsaid-goaway c.in-Goaway.last c.in-Goaway.reason c.args.self.now.is_leaving
    c.args.self.now.has_probed c.args.self.now.has_failed c.fails_by-self.result
    (c.fails_by-self.ensures c.in-Goaway.last))
    (kept-plain (order.Goaway c.in-Goaway.last c.in-Goaway.reason)
    (due_kind.Goaway c.in-Goaway.last c.in-Goaway.reason ∷ []) c.make_room.new.self
    c.take_goaway.new.self tt (one-plain (due_kind.Goaway c.in-Goaway.last c.in-Goaway.reason) tt)
    c.take_goaway.ensures.taken c.take_goaway.ensures.takes)

pub returns-in-Open-clause-leads : goal.returns-in-Open-clause-leads
returns-in-Open-clause-leads g c =
    leads-answered g.L.Lane.got c.args.self.now c.requires.living c.make_room.new.self (kept-room
    c.args.self.now.sending.outbound c.make_room.new.self c.make_room.ensures.stays
    c.make_room.ensures.takes)
    c.begin.result c.begin.new.self c.args.control (order.Open c.in-Open.id c.in-Open.sender)
    c.in-Open.is refl refl refl refl c.begin.ensures.kept c.begin.ensures.still c.begin.ensures.back

pub returns-in-Refuse-clause-leads : goal.returns-in-Refuse-clause-leads
returns-in-Refuse-clause-leads g c =
    leads-ordered g.L.Lane.got c.args.self.now c.requires.living c.make_room.new.self (kept-room
    c.args.self.now.sending.outbound c.make_room.new.self c.make_room.ensures.stays
    c.make_room.ensures.takes)
    c.refuse.result c.refuse.new.self c.args.control
    (order.Refuse c.in-Refuse.id c.in-Refuse.fields) c.in-Refuse.is refl refl refl refl
    c.refuse.ensures.kept c.refuse.ensures.unchanged c.refuse.ensures.back

pub returns-in-Reset-clause-leads : goal.returns-in-Reset-clause-leads
returns-in-Reset-clause-leads g c =
    leads-ordered g.L.Lane.got c.args.self.now c.requires.living c.make_room.new.self (kept-room
    c.args.self.now.sending.outbound c.make_room.new.self c.make_room.ensures.stays
    c.make_room.ensures.takes)
    c.reset.result c.reset.new.self c.args.control
    (order.Reset c.in-Reset.id c.in-Reset.code c.in-Reset.written) c.in-Reset.is refl refl refl refl
    c.reset.ensures.kept c.reset.ensures.unchanged c.reset.ensures.back

pub returns-then-take_window-clause-room : goal.returns-then-take_window-clause-room
returns-then-take_window-clause-room g c = λ run l.
    credit-fits c.args.self.now.sending.outbound c.make_room.new.self.states.windows c.in-Window.id
    c.in-Window.increment c.args.control c.in-Window.is
    (ap (λ (x : States). x.windows) c.make_room.ensures.states)
    (c.take_window.ensures.fits c.if-take_window.true) run (l.keeps c.requires.living).mirrors

pub returns-in-Window-clause-fault : goal.returns-in-Window-clause-fault
returns-in-Window-clause-fault g c = λ run l.
    blamed c.args.self.now.sending.outbound c.make_room.new.self.states.windows c.in-Window.id
    c.args.control (order.Window c.in-Window.id c.in-Window.increment) c.in-Window.is
    (ap (λ (x : States). x.windows) c.make_room.ensures.states)
    (c.take_window.ensures.over c.if-take_window.false) run (l.keeps c.requires.living).mirrors

pub returns-in-Ok-take_settings-clause-room : goal.returns-in-Ok-take_settings-clause-room
returns-in-Ok-take_settings-clause-room g c = λ run l.
    settings-fit c.args.self.now.sending.outbound c.make_room.new.self.states.windows
    c.in-Settings.settings c.args.control c.in-Settings.is
    (ap (λ (x : States). x.windows) c.make_room.ensures.states)
    c.in-Ok-take_settings.ensures.fits run (l.keeps c.requires.living).mirrors

pub returns-in-Settings-clause-fault : goal.returns-in-Settings-clause-fault
returns-in-Settings-clause-fault g c = λ run l.
    blamed c.args.self.now.sending.outbound c.make_room.new.self.states.windows 0 c.args.control
    (order.Settings c.in-Settings.settings) c.in-Settings.is
    (ap (λ (x : States). x.windows) c.make_room.ensures.states)
    c.in-Err.ensures.over run (l.keeps c.requires.living).mirrors
