use Rattle.coloured_values.proofs.AddedSums.{added_sum}
use Rattle.coloured_values.proofs.laws.added_framed_loop.Goals as goal

pub returns : goal.returns
returns c = added_sum
