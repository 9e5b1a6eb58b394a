-- The numbers of endings, by which programs print them.
use Rattle.std.specs.Prelude.{ℕ}
use Rattle.callparts.specs.declared.report.Ending.{Ending}
use Rattle.callparts.specs.declared.report.Ending.TheVariants.{
  InputEnded,
  PeerGoaway,
  ProtocolError,
  ReadFailed,
  WriteFailed,
  OutOfMemory,
  Drained,
}

abbrev pub ending_number : Ending → ℕ
ending_number InputEnded = 1
ending_number PeerGoaway = 2
ending_number (ProtocolError code) = 3
ending_number ReadFailed = 4
ending_number WriteFailed = 5
ending_number OutOfMemory = 6
ending_number Drained = 7
