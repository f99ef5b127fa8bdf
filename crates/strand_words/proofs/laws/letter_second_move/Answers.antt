use Rattle.strand_words.proofs.WordLaws.{letter_second_move}
use Rattle.strand_words.proofs.laws.letter_second_move.Goals as goal

pub returns : goal.returns
returns c = letter_second_move
