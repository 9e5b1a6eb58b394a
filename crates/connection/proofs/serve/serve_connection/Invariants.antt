use Rattle.handlers.specs.Listed.{listed}
use Rattle.callparts.specs.Workers.{answers_by}
use Rattle.readerloop.specs.Calls.{IsFirstWith}
use Rattle.connection.proofs.serve.serve_connection.Given as goal

-- what its own methods answer, and their paths
abbrev pub ghosts-serve_named-M-Answering : goal.ghosts-serve_named-M-Answering
ghosts-serve_named-M-Answering g a = record {
  known =
      answers_by (λ method. (g.dyn-1.0.entry method.vtable).1.answers method.value)
      (listed a.methods.value);
  names =
      IsFirstWith (λ method. (g.dyn-1.0.entry method.vtable).1.name method.value)
      (listed a.methods.value);
}

-- its own register
abbrev pub ghosts-serve_named-J-Naming : goal.ghosts-serve_named-J-Naming
ghosts-serve_named-J-Naming g a = record { book = a.register.seen.book }
