use Rattle.word_networks.proofs.NetworkLaws.{cabled_second_move}
use Rattle.word_networks.proofs.laws.cabled_second_move.Goals as goal

pub returns : goal.returns
returns c = cabled_second_move
