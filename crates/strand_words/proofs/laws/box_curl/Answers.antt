use Rattle.strand_words.proofs.WordLaws.{box_curl}
use Rattle.strand_words.proofs.laws.box_curl.Goals as goal

pub returns : goal.returns
returns c = box_curl
