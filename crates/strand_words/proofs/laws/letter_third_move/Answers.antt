use Rattle.strand_words.proofs.WordLaws.{letter_third_move}
use Rattle.strand_words.proofs.laws.letter_third_move.Goals as goal

pub returns : goal.returns
returns c = letter_third_move
