use Rattle.strand_words.proofs.WordLaws.{same_word}
use Rattle.strand_words.proofs.laws.same_word.Goals as goal

pub returns : goal.returns
returns c = same_word
