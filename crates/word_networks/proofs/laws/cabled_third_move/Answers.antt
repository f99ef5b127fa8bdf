use Rattle.word_networks.proofs.NetworkLaws.{cabled_third_move}
use Rattle.word_networks.proofs.laws.cabled_third_move.Goals as goal

pub returns : goal.returns
returns c = cabled_third_move
