use Rattle.strand_words.proofs.WordLaws.{raised_words}
use Rattle.strand_words.proofs.laws.raised_words.Goals as goal

pub returns : goal.returns
returns c = raised_words
