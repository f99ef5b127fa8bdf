use Rattle.wrt_request.proofs.ListSpellings.{lists_law}
use Rattle.wrt_request.proofs.laws.lists_by_spelling.Goals as goal

pub returns : goal.returns
returns c = lists_law
