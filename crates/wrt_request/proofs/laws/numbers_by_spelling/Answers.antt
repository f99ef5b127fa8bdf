use Rattle.wrt_request.proofs.Spellings.{numbers_law}
use Rattle.wrt_request.proofs.laws.numbers_by_spelling.Goals as goal

pub returns : goal.returns
returns c = numbers_law
