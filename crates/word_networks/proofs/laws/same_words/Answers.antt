use Rattle.word_networks.proofs.NetworkLaws.{same_words}
use Rattle.word_networks.proofs.laws.same_words.Goals as goal

pub returns : goal.returns
returns c = same_words
