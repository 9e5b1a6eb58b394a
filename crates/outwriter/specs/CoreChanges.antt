-- What a writer's core changes of what it keeps of its calls, where no frame is written.
use Rattle.std.specs.Prelude.{
  ◌≡◌,
  ◌==◌,
  ◌&&◌,
  ℕ,
  Bool,
  not,
  is_some,
  List,
  [],
  ◌∷◌,
  ◌++◌,
  length,
  Some,
  if◌then◌else◌,
}
use Rattle.account.specs.declared.call.OutItem.{OutItem}
use Rattle.h2frame.specs.declared.error_code.ErrorCode.{ErrorCode}
use Rattle.outwriter.specs.declared.control.WriterOrder.TheVariants.{Open}
use Rattle.outwriter.specs.declared.due.Due.{Due}
use Rattle.outwriter.specs.declared.due.Due.TheVariants as due_kind
use Rattle.outwriter.specs.declared.outbound.Outbound.{Outbound}
use Rattle.outwriter.specs.States.{is_heard, is_reset, knows, over_on}
use Rattle.outwriter.specs.Histories.{is_stream}
use Rattle.outwriter.specs.OpenStreams.{OpenStreams, stream_at}
use Rattle.outwriter.specs.CallState.{Kept, Takes}
use Rattle.outwriter.specs.Steps.{Step, Taken}

-- with this step, or with none, what is kept still follows from the run, whatever the calls gave
abbrev pub KeptOn : Step → Outbound → Outbound → Type 0
KeptOn step old new =
    (run : List Step) (calls : List (ℕ × List OutItem)) → Kept run old calls
    → Kept (step ∷ run) new calls

abbrev pub KeptStill : Outbound → Outbound → Type 0
KeptStill old new =
    (run : List Step) (calls : List (ℕ × List OutItem)) → Kept run old calls → Kept run new calls

-- ---- an Open

-- there is one more call, whose sender comes after the others and gave nothing yet
abbrev pub KeptWith : ℕ → ℕ → Outbound → Outbound → Type 0
KeptWith id place old new =
    (run : List Step) (calls : List (ℕ × List OutItem)) → length calls ≡ place → Kept run old calls
    → Kept (Taken (Open id tt) ∷ run) new (calls ++ (id, []) ∷ [])

-- the stream is a call's from now on
abbrev pub is_new_call : Outbound → ℕ → Bool
is_new_call o id = is_stream id && not (knows o.states id)

-- the stream becomes open: it wasn't refused or reset before
abbrev pub becomes_open : Outbound → ℕ → Bool
becomes_open o id = is_stream id && not (is_heard o.states id)

-- all that a call needs but its sender
pub record Prepares (id place : ℕ) (old new : Outbound) (streams left : OpenStreams) : Type 0 where
  pub takes : Takes [] (λ other. is_new_call old id && (other == id)) [] old new
  pub opens : (k : ℕ)
      → left k ≡ (if becomes_open old id && (k == id) then Some (stream_at place) else streams k)

-- ---- a Reset

-- a stream has neither ended nor been reset
abbrev pub may_write : Outbound → ℕ → Bool
may_write o id = (is_stream id && not (is_some (over_on o.states id))) && not (is_reset o.states id)

-- what is due by a Reset: RST_STREAM, if it is to be written and the stream had neither ended nor
-- been reset
abbrev pub due_reset : Outbound → ℕ → ErrorCode → Bool → List Due
due_reset o id code written = if written && may_write o id then due_kind.Reset id code ∷ [] else []
