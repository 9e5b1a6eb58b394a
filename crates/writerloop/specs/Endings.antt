-- How a connection ends by the end of its writer.
use Rattle.std.specs.Prelude.{Option, None, Some}
use Rattle.callparts.specs.declared.report.Ending.{Ending}
use Rattle.callparts.specs.declared.report.Ending.TheVariants as endings
use Rattle.writerloop.specs.declared.writer_ending.WriterEnding.{WriterEnding}
use Rattle.writerloop.specs.declared.writer_ending.WriterEnding.TheVariants.{
  OutOfMemory,
  WriteFailed,
  ProtocolError,
}

abbrev pub ending_of : WriterEnding → Ending
ending_of OutOfMemory = endings.OutOfMemory
ending_of WriteFailed = endings.WriteFailed
ending_of (ProtocolError code) = endings.ProtocolError code

-- None, where all was written
abbrev pub ending_told : Option WriterEnding → Option Ending
ending_told None = None
ending_told (Some end) = Some (ending_of end)
