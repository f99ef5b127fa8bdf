use Rattle.list_lemmas.proofs.Permuted.{permuted_times}
use Rattle.list_lemmas.proofs.laws.permuted_lists.Goals as goal

pub returns : goal.returns
returns c = permuted_times
