use Rattle.readerloop.proofs.LetGo.{let-go-before}
use Rattle.readerloop.proofs.laws.let_go_before.Goals as goal

pub returns : goal.returns
returns c = let-go-before
