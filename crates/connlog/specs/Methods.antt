-- The methods of the test service (interop-test-descriptions.md).
use Rattle.std.specs.Prelude.{ℕ, List, codes}
use Rattle.connlog.specs.declared.call.MethodName.{MethodName}
use Rattle.connlog.specs.declared.call.MethodName.TheVariants as method

abbrev pub name_of : MethodName → List ℕ
name_of method.EmptyCall = codes "EmptyCall"
name_of method.UnaryCall = codes "UnaryCall"
name_of method.CacheableUnaryCall = codes "CacheableUnaryCall"
name_of method.StreamingOutputCall = codes "StreamingOutputCall"
name_of method.StreamingInputCall = codes "StreamingInputCall"
name_of method.FullDuplexCall = codes "FullDuplexCall"
name_of method.HalfDuplexCall = codes "HalfDuplexCall"
