use Rattle.connection.proofs.News.{some-answers}
use Rattle.connection.proofs.laws.some_answers.Goals as goal

pub returns : goal.returns
returns c = some-answers
