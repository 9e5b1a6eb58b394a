-- The numbers by which programs print the faults.
use Rattle.std.specs.Prelude.{ℕ}
use Rattle.callhead.specs.declared.fault.HeadFault.{HeadFault}
use Rattle.callhead.specs.declared.fault.HeadFault.TheVariants.{
  Malformed,
  NotPost,
  NotGrpc,
  BadTimeout,
  OutOfMemory,
}

abbrev pub code_of : HeadFault → ℕ
code_of Malformed = 1
code_of NotPost = 2
code_of NotGrpc = 3
code_of BadTimeout = 4
code_of OutOfMemory = 5
