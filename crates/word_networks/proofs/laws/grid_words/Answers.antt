use Rattle.word_networks.proofs.NetworkLaws.{grid_words}
use Rattle.word_networks.proofs.laws.grid_words.Goals as goal

pub returns : goal.returns
returns c = grid_words
