-- How a connection ended, where its reader meets its writer.
use mathlib.Core.List.{IsPrefix}
use Rattle.std.specs.Prelude.{◌≡◌, Bool, true, false, Option, None, Some}
use Rattle.lane.specs.Ring.{taken}
use Rattle.callparts.specs.declared.register.Naming.{Ghosts as Naming}
use Rattle.callparts.specs.declared.report.Ending.{Ending}
use Rattle.callparts.specs.declared.report.Ending.TheVariants.{OutOfMemory}
use Rattle.writerloop.specs.declared.senders.WriterResult.{WriterResult}
use Rattle.writerloop.specs.declared.writer_ending.WriterEnding.{WriterEnding}
use Rattle.writerloop.specs.Endings.{ending_of}
use Rattle.connection.specs.declared.orders.Orders.{Orders}
use Rattle.connection.specs.declared.orders.Route.{Ghosts}
use Rattle.connection.specs.declared.served_conn.ServedConn.{ServedConn}
use Rattle.connection.specs.Puts.{put_of}

-- the writer's end is told, unless the reader had no memory
abbrev pub unless_lacked : Ending → Ending → Ending
unless_lacked OutOfMemory end = OutOfMemory
unless_lacked _ end = end

-- By what the reader saw, by the writer's end, if it didn't end since all was written, and by
-- whether orders were dropped for want of memory: want of memory comes first, then what the writer
-- ended with, and else it is what the reader saw.
abbrev pub ended_by : Ending → Option WriterEnding → Bool → Ending
ended_by read written true = OutOfMemory
ended_by read None false = read
ended_by read (Some end) false = unless_lacked read (ending_of end)

-- The connection ended as both saw. Where the reader saw that the writer had stopped, and dropped
-- no order, the writer says why.
pub record EndsAs (read : Ending) (written : Option WriterEnding) (has_stopped has_dropped : Bool)
    (end : Ending) : Type 0 where
  pub ending : end ≡ ended_by read written has_dropped
  pub halted : has_stopped ≡ true → written ≡ None → has_dropped ≡ true

module _ {A B C J N W : Type 0} {book : Naming J} {route : Ghosts N} where
  -- The reader, which read to this end and put these orders, has met its writer.
  pub record HasMet (read : Ending) (written : WriterResult J W book)
      (orders : Orders A B C J N book route) (served : ServedConn W) : Type 0 where
    -- the orders that the run obeyed begin those that were put
    pub obeyed : IsPrefix (taken written.orders) (put_of orders)
    -- the output is the writer's device
    pub output : served.output ≡ written.device
    pub ends :
        EndsAs read written.ending orders.has_stopped orders.has_dropped served.report.ending
