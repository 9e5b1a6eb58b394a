use Rattle.outwriter.specs.declared.due.Due.{Due}
use Rattle.std.proofs.Common.{sym, refl, subst, ap, ◌∙◌, List, [], ◌∷◌}
use Rattle.std.proofs.lemmas.List.Elements.{All-nil}
use Rattle.outwriter.specs.declared.control.WriterOrder.TheVariants.{Settings}
use Rattle.outwriter.specs.declared.due.Due.TheVariants.{SettingsAck}
use Rattle.h2frame.specs.declared.settings.PeerSetting.{PeerSetting}
use Rattle.outwriter.specs.RunState.{HasWindows, HasDue}
use Rattle.outwriter.specs.Histories.{table_sizes}
use Rattle.outwriter.specs.Steps.{Taken}
use Rattle.outwriter.specs.TableLimits.{limited_by}
use Rattle.outwriter.proofs.CallStepsOrders.{takes-rest}
use Rattle.outwriter.proofs.RunStateSteps.{taken, more-due, quiet-stand, mirrors-rest}
use Rattle.outwriter.proofs.WindowRuns.{settings-taken}
use Rattle.outwriter.proofs.outbound.Outbound.take_settings.Goals as goal

pub returns-clause-taken : goal.returns-clause-taken
returns-clause-taken c =
    λ run m.
    mirrors-rest _ _ _ _ _ _ c.args.self.now.states c.resize.new.states c.resize.ensures.rest
    (taken (Settings c.args.settings.now) run _ _ _ _ _ _ _ _ m
    (subst (λ (s : List PeerSetting).
    HasWindows (Taken (Settings s) ∷ run) c.resize.new.states.windows) c.as_slice-2.ensures
    (settings-taken run c.as_slice-2.result.now c.args.self.now.states c.resize.new.states
    c.resize.result c.resize.ensures.fits c.resize.ensures.overflow c.resize.ensures.unchanged
    c.resize.ensures.windows
    m.windows_follow))
    (subst (λ (xs : List Due). HasDue (Taken (Settings c.args.settings.now) ∷ run) xs)
    (sym c.push_back_reserved.ensures.items)
    (more-due (Settings c.args.settings.now) run c.args.self.now.due.items SettingsAck refl
    (All-nil _) m.answers))
    (quiet-stand _ run _ (λ id. refl) (λ id. refl) m.stand))

pub returns-clause-takes : goal.returns-clause-takes
returns-clause-takes c =
    takes-rest (SettingsAck ∷ []) (table_sizes c.args.settings.now) c.args.self.now
    (record c.args.self.now {
      states = c.resize.new.states;
      encoder = c.limit_table.new.encoder;
      due = c.push_back_reserved.new.self;
    }) c.resize.ensures.rest c.push_back_reserved.ensures.items (λ id. refl) refl refl
    (c.limit_table.ensures
    ∙ ap (λ (s : List PeerSetting). limited_by c.args.self.now.encoder (table_sizes s))
    c.as_slice.ensures)
