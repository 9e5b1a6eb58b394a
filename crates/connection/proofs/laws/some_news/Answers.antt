use Rattle.connection.proofs.News.{some-news}
use Rattle.connection.proofs.laws.some_news.Goals as goal

pub returns : goal.returns
returns c = some-news
