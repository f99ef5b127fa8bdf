use Rattle.word_networks.proofs.NetworkLaws.{cabled_curl}
use Rattle.word_networks.proofs.laws.cabled_curl.Goals as goal

pub returns : goal.returns
returns c = cabled_curl
