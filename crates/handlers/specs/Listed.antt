-- The methods of a server as their list.
use Rattle.std.specs.Prelude.{List}
use Rattle.std.proofs.Common.{Global}
use Rattle.std.specs.declared.dyn_box.DynBox.{DynBox}
use Rattle.handlers.specs.declared.methods.Methods.{Methods}

abbrev pub listed : {X : Type 0} {F : X → Type 0} → Methods X F → List (DynBox X Global F)
listed methods = methods.items.items
