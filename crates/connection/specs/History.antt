-- The history of a connection: what bears on its resets (RFC 9113, section 5.4.2). Lists of steps
-- and runs have the latest first.
use Rattle.std.specs.Prelude.{◌≡◌, ℕ, true, List, [], ◌∷◌, ◌++◌, map}
use Rattle.callparts.specs.declared.call_account.CallAccount.{CallAccount}
use Rattle.callparts.specs.declared.report.Ending.{Ending}
use Rattle.outwriter.specs.Runs.{IsLawful}
use Rattle.outwriter.specs.Steps.{Order}
use Rattle.outwriter.specs.Steps.{Step as RunStep}
use Rattle.outwriter.specs.declared.control.WriterOrder.TheVariants.{InputEnded}
use Rattle.readerloop.specs.Orders.{orders_by}
use Rattle.readerloop.specs.Reports.{AreHeard}
use Rattle.readerloop.specs.Steps.{IsRising, Step, events_of, reported}
use Rattle.writerloop.specs.Left.{left_in}
use Rattle.writerloop.specs.Orders.{Obeys}
use Rattle.connection.specs.Heard.{HasPut}
use Rattle.connection.specs.Left.{AreLeft}
use Rattle.connection.specs.Limits.{AreJustified, EndsLast}

-- What was heard of the bytes that came, what was ordered, what the writer's run did, and the
-- accounts of the calls. Each fact is a field of `IsServed`, or follows from one.
pub record IsHistory (came : List ℕ) (told : List Step) (put : List Order) (run : List RunStep)
    (accounts : List CallAccount) : Type 0 where
  -- how the connection ended
  pub end : Ending
  -- the first events of what came, in which ids rise
  pub heard : AreHeard end came (events_of told)
  pub rising : IsRising told
  -- what was refused might be, and calls were cut only after the last event
  pub justified : AreJustified told
  pub ended : EndsLast told
  -- the orders begin those that the steps lead to, and a lawful run obeyed them, or some of them
  pub ordered : HasPut (orders_by told ++ InputEnded ∷ []) put
  pub obeyed : Obeys true put run
  pub lawful : IsLawful run
  -- an account for each call that was admitted; those that the run left have no status
  pub rows : map (λ account. account.id) accounts ≡ reported told
  pub left : AreLeft (left_in run) accounts
