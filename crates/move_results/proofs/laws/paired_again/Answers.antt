use Rattle.move_results.proofs.PairedResults.{paired_again}
use Rattle.move_results.proofs.laws.paired_again.Goals as goal

pub returns : goal.returns
returns c = paired_again
