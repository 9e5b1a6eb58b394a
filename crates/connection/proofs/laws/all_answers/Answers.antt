use Rattle.connection.proofs.News.{all-answers}
use Rattle.connection.proofs.laws.all_answers.Goals as goal

pub returns : goal.returns
returns c = all-answers
