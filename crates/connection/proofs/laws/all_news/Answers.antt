use Rattle.connection.proofs.News.{all-news}
use Rattle.connection.proofs.laws.all_news.Goals as goal

pub returns : goal.returns
returns c = all-news
