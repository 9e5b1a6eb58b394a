-- What each step of a connection's writer does to the windows that would be too large.
use Rattle.std.proofs.Common.{◌≡◌, ◌∙◌, ℕ, List, [], ◌∷◌, ◌++◌, ap, append_assoc, refl, sym}
use Rattle.outwriter.specs.declared.control.WriterOrder.{WriterOrder}
use Rattle.outwriter.specs.declared.control.WriterOrder.TheVariants as control
use Rattle.outwriter.specs.declared.control.OutFault.TheVariants.{PeerWindow}
use Rattle.outwriter.specs.RunState.{Blames, Concerns}
use Rattle.outwriter.specs.Steps.{Step, Taken, order_of}
use Rattle.writerloop.specs.Blamed.{WouldOverflow}

-- as the run goes on
pub overflow-later : (id : ℕ) (steps run : List Step) → WouldOverflow id run
    → WouldOverflow id (steps ++ run)
overflow-later id steps run over = record {
  order = over.order;
  before = over.before;
  later = steps ++ over.later;
  taken =
      ap (λ (all : List Step). steps ++ all) over.taken
      ∙ sym (append_assoc steps over.later (Taken over.order ∷ over.before));
  concerns = over.concerns;
  blames = over.blames;
}

module _ {S : Type 0} where
  -- by an order that was taken
  pub overflow-now : (one : WriterOrder S) (id : ℕ) (run : List Step) → Concerns (PeerWindow id) one
      → Blames (PeerWindow id) one run → WouldOverflow id (Taken (order_of one) ∷ run)
  overflow-now (control.Settings settings) id run concerns blames =
      record {
        order = control.Settings settings;
        before = run;
        later = [];
        taken = refl;
        concerns = concerns;
        blames = blames;
      }
  overflow-now (control.Window stream n) id run concerns blames =
      record {
        order = control.Window stream n;
        before = run;
        later = [];
        taken = refl;
        concerns = concerns;
        blames = blames;
      }
  overflow-now (control.Ping bytes) id run concerns blames = absurd concerns
  overflow-now (control.Probe bytes) id run concerns blames = absurd concerns
  overflow-now (control.Open stream sender) id run concerns blames = absurd concerns
  overflow-now (control.Refuse stream fields) id run concerns blames = absurd concerns
  overflow-now (control.Reset stream code written) id run concerns blames = absurd concerns
  overflow-now (control.Goaway stream cause) id run concerns blames = absurd concerns
  overflow-now control.InputEnded id run concerns blames = absurd concerns
  overflow-now control.Close id run concerns blames = absurd concerns
