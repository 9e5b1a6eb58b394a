-- DATA that go past a window of what the client receives: RFC 9113, section 6.9.1.
use Rattle.std.specs.Prelude.{◌<◌, ⊤}
use Rattle.cases.specs.declared.credit.WindowViolation.{WindowViolation}
use Rattle.cases.specs.declared.credit.WindowViolation.TheVariants.{
  Stream,
  Connection,
  Overflow,
  InitialOverflow,
}

-- the figures say so: more bytes came than the window had left
abbrev pub IsPast : WindowViolation → Type 0
IsPast (Stream stream bytes window) = window < bytes
IsPast (Connection bytes window) = window < bytes
IsPast (Overflow stream increment) = ⊤
IsPast (InitialOverflow size) = ⊤
