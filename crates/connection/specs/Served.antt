-- What became of a connection, over one list of what was heard, one list of what was ordered, and
-- one run of its writer.
use Rattle.std.specs.Prelude.{
  ◌≡◌,
  ◌⊎◌,
  ◌≤◌,
  ℕ,
  Bool,
  true,
  false,
  List,
  [],
  ◌∷◌,
  ◌++◌,
  Option,
  Some,
}
use Rattle.std.specs.Io.KnownBytes.{IsAtEnd}
use Rattle.callparts.specs.declared.call_account.CallAccount.{CallAccount}
use Rattle.callparts.specs.declared.report.Ending.{Ending}
use Rattle.callparts.specs.declared.report.Ending.TheVariants.{
  Drained,
  PeerGoaway,
  ProtocolError,
  ReadFailed,
  WriteFailed,
}
use Rattle.h2frame.specs.declared.error_code.ErrorCode.{ErrorCode}
use Rattle.h2frame.specs.declared.error_code.ErrorCode.TheVariants.{FlowControlError}
use Rattle.handlers.specs.declared.step.MethodStep.{MethodStep as Answer}
use Rattle.outwriter.specs.Credit.{updated}
use Rattle.outwriter.specs.Drains.{HasDrained}
use Rattle.outwriter.specs.Steps.{Order}
use Rattle.outwriter.specs.Steps.{Step as RunStep}
use Rattle.outwriter.specs.declared.control.WriterOrder.TheVariants.{InputEnded, Close}
use Rattle.session.specs.declared.event.InEvent.TheVariants as events
use Rattle.session.specs.FlowBytes.{counted_told}
use Rattle.readerloop.specs.Calls.{is_admitted}
use Rattle.readerloop.specs.Orders.{greatest, orders_by}
use Rattle.readerloop.specs.Reports.{AreAccounts, AreCalm, AreHeard, WasResetFor, is_heard_out}
use Rattle.readerloop.specs.Steps.{
  AdmitsNoMore,
  IsRising,
  Step,
  WasTold,
  events_of,
  is_draining,
  reported,
}
use Rattle.writerloop.specs.Blamed.{WouldOverflow}
use Rattle.writerloop.specs.Left.{left_in}
use Rattle.writerloop.specs.Written.{HasWritten}
use Rattle.connection.specs.Heard.{HasPut, IsEndedBy, IsOfInput}
use Rattle.connection.specs.Left.{AreLeft}
use Rattle.connection.specs.Sent.{CarriesWhatWasSent}
use Rattle.connection.specs.Limits.{AreFounded, AreJustified, EndsLast}

-- An ending has its cause: the input was at its end, and the server didn't drain; a read or a write
-- failed; the peer sent GOAWAY; the server drained; or a step that was heard ended the connection
-- with this error, or the writer did, because a control of the peer that its run took would make
-- the connection's window too large, or an initial size some stream's (RFC 9113, sections 5.4.1,
-- 6.8, 6.9.1 and 6.9.2).
pub record HasCause (end : Ending) (told : List Step) (run : List RunStep) (rest : Option (List ℕ))
    (read_failed write_failed : Bool) : Type 0 where
  pub over : IsOfInput end → IsAtEnd rest
  pub undrained : IsOfInput end → is_draining told ≡ false
  pub unread : end ≡ ReadFailed → read_failed ≡ true
  pub unsent : end ≡ WriteFailed → write_failed ≡ true
  pub goaway : end ≡ PeerGoaway → WasTold events.PeerGoaway told
  pub drains : end ≡ Drained → is_draining told ≡ true
  pub failed : (code : ErrorCode) → end ≡ ProtocolError code
      → IsEndedBy (ProtocolError code) told ⊎ ((code ≡ FlowControlError) × WouldOverflow 0 run)

-- the connection ended because the server drained
abbrev pub is_drained : Ending → Bool
is_drained Drained = true
is_drained _ = false

module _ {W V : Type 0} (items : V → List CallAccount) (contents : W → Option (List ℕ))
    (failed : W → Bool)
    (answers : ℕ → List (List ℕ) → Bool → Answer → Type 0) (names : List ℕ → ℕ → Type 0) where
  -- A connection was served: the bytes that came, the bytes that the input still has, what the
  -- output had before and has now, whether a read failed, how the connection ended, and the
  -- accounts of its calls.
  pub record IsServed (came : List ℕ) (rest before : Option (List ℕ)) (read_failed : Bool)
      (end : Ending) (calls : V) (device : W) : Type 0 where
    -- what was heard, and what was ordered
    pub told : List Step
    pub put : List Order
    -- the first events of what came, in which ids rise; where all that came was heard they are all
    -- of its events, and no step ended the connection
    pub heard : AreHeard end came (events_of told)
    pub rising : IsRising told
    pub calm : is_heard_out end ≡ true → AreCalm told
    -- a call was turned away as one too many only after 64 were admitted, and as one that comes too
    -- late only after a drain; DATA were refused only after 65,535 bytes, and missed only where
    -- they were due
    pub justified : AreJustified told
    -- whether the reader saw that the writer had stopped: then the writer, or want of memory, ended
    -- the connection
    pub stopped : Bool
    pub halted : stopped ≡ true → is_heard_out end ≡ false
    -- a call was refused as one of an unknown method only where no method has its path, and one
    -- that was admitted was left without a worker only because the writer had stopped, or for want
    -- of memory
    pub founded : AreFounded names stopped told
    -- after a drain no call was admitted
    pub closed : AdmitsNoMore told
    -- calls were cut only after the last event
    pub ended : EndsLast told
    -- The orders begin those that these steps lead to. Where all that came was heard they are all
    -- of them, and each half that was reset, though END_STREAM came, has a reset of its stream
    -- among them.
    pub ordered : HasPut (orders_by told ++ InputEnded ∷ []) put
    pub whole : is_heard_out end ≡ true → put ≡ orders_by told ++ InputEnded ∷ Close ∷ []
    pub resets : is_heard_out end ≡ true → (id : ℕ) → is_admitted id told ≡ true
        → WasResetFor told put id
    -- a lawful run obeyed them and granted this much credit on the connection, and its frames were
    -- written
    pub granted : ℕ
    pub written : HasWritten contents failed before granted put (Some end) (is_drained end) device
    -- the increments of its WINDOW_UPDATE frames on the connection sum to at most the bytes of DATA
    -- that were heard (RFC 9113, section 6.9)
    pub credit : updated 0 written.run ≤ counted_told (events_of told)
    -- a lawful account for each call that was admitted, in order; where no worker served the call,
    -- nothing was fed, taken or given; and what was sent of each call is what its stream carries.
    -- Where all that came was heard, END_STREAM was written on the call's stream, or the stream was
    -- reset, or its windows were shut, or all that was sent is written, without trailers.
    pub rows :
        AreAccounts answers names (CarriesWhatWasSent (is_heard_out end) written.run) told
        (reported told) (items calls)
    -- a call whose stream was reset with INTERNAL_ERROR was left without trailers, and has no
    -- status (section 7)
    pub left : AreLeft (left_in written.run) (items calls)
    -- where the server drained, the last GOAWAY that was written has no error, and names the
    -- greatest stream of an account, 0 for none (section 6.8)
    pub drained : end ≡ Drained → HasDrained (greatest (reported told)) written.run
    pub cause : HasCause end told written.run rest read_failed (failed device)
