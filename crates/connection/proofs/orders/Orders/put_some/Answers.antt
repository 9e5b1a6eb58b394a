use Rattle.connection.proofs.orders.Orders.put_some.Goals as goal

pub returns-in-Some-clause-puts : goal.returns-in-Some-clause-puts
returns-in-Some-clause-puts g c = rw c.in-Some.is c.put.ensures.puts
