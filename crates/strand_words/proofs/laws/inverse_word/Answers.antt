use Rattle.strand_words.proofs.WordLaws.{inverse_word}
use Rattle.strand_words.proofs.laws.inverse_word.Goals as goal

pub returns : goal.returns
returns c = inverse_word
