-- Why a control is a fault of the peer, and why it is none.
use Rattle.std.proofs.Common.{◌≡◌, ℕ, List, Option, sym, subst}
use Rattle.sendwindows.specs.WindowHistory.{Step as WindowStep}
use Rattle.sendwindows.specs.WindowHistory.{Follows, CanCredit, CanResize}
use Rattle.sendwindows.specs.Windows.{Windows}
use Rattle.std.specs.Prelude.{All}
use Rattle.h2frame.specs.declared.settings.PeerSetting.{PeerSetting}
use Rattle.outwriter.specs.declared.control.WriterOrder.{WriterOrder}
use Rattle.outwriter.specs.declared.control.WriterOrder.TheVariants.{Window, Settings}
use Rattle.outwriter.specs.declared.control.OutFault.{OutFault}
use Rattle.outwriter.specs.declared.control.OutFault.TheVariants.{OutOfMemory, PeerWindow}
use Rattle.outwriter.specs.declared.outbound.Outbound.{Outbound}
use Rattle.outwriter.specs.Histories.{HasWindow, window_sizes}
use Rattle.outwriter.specs.RunState.{Blames, Concerns, HasRoom, IsTooMuch, MirrorsOf}
use Rattle.outwriter.specs.Steps.{Step}

module _ {S : Type 0} where
  -- to be out of memory blames nobody
  pub no-blame : (fault : OutFault S) (back : Option (WriterOrder S)) (control : WriterOrder S)
      → fault ≡ OutOfMemory back → (run : List Step) → Blames fault control run
  no-blame fault back control is run = subst (λ (f : OutFault S). Blames f control run) (sym is) tt

  pub no-concern : (fault : OutFault S) (back : Option (WriterOrder S)) (control : WriterOrder S)
      → fault ≡ OutOfMemory back → Concerns fault control
  no-concern fault back control is = subst (λ (f : OutFault S). Concerns f control) (sym is) tt

  -- with the control a window would be over 2^31 - 1 bytes
  pub blamed : (old : Outbound) (w : Windows) (id : ℕ) (control given : WriterOrder S)
      → control ≡ given
      → w ≡ old.states.windows
      → ((history : List WindowStep) → Follows history w → IsTooMuch given history)
      → (run : List Step) → MirrorsOf run old → Blames (PeerWindow id) control run
  blamed old w id control given is same much run m =
      let follows = m.windows_follow in (
        follows.0,
        follows.1,
        subst (λ (c : WriterOrder S). IsTooMuch c follows.0) (sym is)
            (much follows.0 (subst (Follows follows.0) (sym same) follows.2)),
      )

  -- or none would be
  pub credit-fits : (old : Outbound) (w : Windows) (id n : ℕ) (control : WriterOrder S)
      → control ≡ Window id n → w ≡ old.states.windows
      → ((history : List WindowStep) → Follows history w → HasWindow history id
      → CanCredit history id n)
      → (run : List Step) → MirrorsOf run old → HasRoom control run
  credit-fits old w id n control is same fits run m =
      let follows = m.windows_follow in
      subst (λ (c : WriterOrder S). HasRoom c run) (sym is)
      (follows.0, follows.1, fits follows.0 (subst (Follows follows.0) (sym same) follows.2))

  pub settings-fit : (old : Outbound) (w : Windows) (settings : List PeerSetting)
      (control : WriterOrder S)
      → control ≡ Settings settings → w ≡ old.states.windows
      → ((history : List WindowStep) → Follows history w
      → All (CanResize history) (window_sizes settings))
      → (run : List Step) → MirrorsOf run old → HasRoom control run
  settings-fit old w settings control is same fits run m =
      let follows = m.windows_follow in
      subst (λ (c : WriterOrder S). HasRoom c run) (sym is)
      (follows.0, follows.1, fits follows.0 (subst (Follows follows.0) (sym same) follows.2))
