-- What `interop body` prints for what it reads: the messages of one call (gRPC over HTTP/2,
-- "Length-Prefixed-Message").
use Rattle.std.specs.Prelude.{◌≡◌, ℕ, Bool, true, List, [], ◌∷◌, Option, Some, None}
use Rattle.std.specs.Option.{option_or}
use Rattle.std.specs.Io.KnownBytes.{Appends, Consumes, IsAtEnd, Keeps}
use Rattle.lpm.specs.Reading.{fault_of, messages_of, rest_of}
use Rattle.lpm.specs.declared.fault.LpmFault.{LpmFault}
use Rattle.lpm.specs.declared.fault.LpmFault.TheVariants.{CutAtEnd}
use Rattle.device.specs.Bytes.{AppendsPrefix, ConsumesSome}
use Rattle.commands.specs.Hex.{IsNotHex, SpellsBytes}
use Rattle.commands.specs.Report.{report}
use Rattle.device.specs.declared.whole.ReadFault.{ReadFault}
use Rattle.device.specs.declared.whole.ReadFault.TheVariants as read_fault
use Rattle.commands.specs.declared.text.HexFault.{HexFault}
use Rattle.commands.specs.declared.text.HexFault.TheVariants as hex_fault
use Rattle.commands.specs.declared.body.RunFault.{RunFault}
use Rattle.commands.specs.declared.body.RunFault.TheVariants.{
  NotHex,
  OutOfMemory,
  ReadFailed,
  WriteFailed,
}

-- a call must not end inside a message
abbrev pub fault_of_rest : List ℕ → Option LpmFault
fault_of_rest [] = None
fault_of_rest (byte ∷ bytes) = Some CutAtEnd

-- the fault of the bytes of a whole call, if there is one
abbrev pub fault_at_end : List ℕ → Option LpmFault
fault_at_end bytes = option_or (fault_of bytes) (fault_of_rest (rest_of bytes))

-- the report on the bytes of a whole call: the messages that they spell, then the end or the fault
abbrev pub report_of : List ℕ → List ℕ
report_of bytes = report (messages_of bytes) (fault_at_end bytes)

-- what is printed for a text: the report on the bytes that it spells
abbrev pub Prints : List ℕ → List ℕ → Type 0
Prints text printed = (bytes : List ℕ) × SpellsBytes text bytes × (printed ≡ report_of bytes)

-- the text was read, to the end of the input
abbrev pub ReadsText : Option (List ℕ) → Option (List ℕ) → List ℕ → Type 0
ReadsText input rest text = Consumes input rest text × IsAtEnd rest

-- all was read, and the report on it was written
abbrev pub Reports : Option (List ℕ) → Option (List ℕ) → Option (List ℕ) → Option (List ℕ) → Type 0
Reports input rest before after =
    (text : List ℕ) × (printed : List ℕ) × ReadsText input rest text × Prints text printed
    × Appends before after printed

-- what a run that failed has read and written: what remained of the input, and what the output had,
-- before and after
abbrev pub Leaves : RunFault → Option (List ℕ) → Option (List ℕ) → Option (List ℕ)
    → Option (List ℕ) → Type 0
Leaves NotHex input rest before after =
    (text : List ℕ) × ReadsText input rest text × IsNotHex text × Keeps before after
Leaves ReadFailed input rest before after = ConsumesSome input rest × Keeps before after
Leaves WriteFailed input rest before after =
    (text : List ℕ) × (printed : List ℕ) × ReadsText input rest text × Prints text printed
    × AppendsPrefix before after printed
Leaves OutOfMemory input rest before after = ConsumesSome input rest × Keeps before after

-- the marks of failure of reader and writer, before and after: each is set by its own fault alone
abbrev pub Marks : RunFault → Bool → Bool → Bool → Bool → Type 0
Marks NotHex input input_now output output_now = (input_now ≡ input) × (output_now ≡ output)
Marks ReadFailed input input_now output output_now = (input_now ≡ true) × (output_now ≡ output)
Marks WriteFailed input input_now output output_now = (input_now ≡ input) × (output_now ≡ true)
Marks OutOfMemory input input_now output output_now = (input_now ≡ input) × (output_now ≡ output)

-- a fault below, as the fault of the run
abbrev pub fault_of_read : ReadFault → RunFault
fault_of_read read_fault.Device = ReadFailed
fault_of_read read_fault.OutOfMemory = OutOfMemory

abbrev pub fault_of_text : HexFault → RunFault
fault_of_text hex_fault.NotHex = NotHex
fault_of_text hex_fault.OutOfMemory = OutOfMemory

-- the numbers by which programs print the faults
abbrev pub code_of : RunFault → ℕ
code_of NotHex = 1
code_of ReadFailed = 2
code_of WriteFailed = 3
code_of OutOfMemory = 4
