use Rattle.word_networks.proofs.NetworkLaws.{cabled_words}
use Rattle.word_networks.proofs.laws.cabled_words.Goals as goal

pub returns : goal.returns
returns c = cabled_words
