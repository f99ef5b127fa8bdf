use Rattle.list_lemmas.proofs.Increasing.{one_increasing}
use Rattle.list_lemmas.proofs.laws.increasing_lists.Goals as goal

pub returns : goal.returns
returns c = one_increasing
