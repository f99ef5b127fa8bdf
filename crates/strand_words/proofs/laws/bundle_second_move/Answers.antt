use Rattle.strand_words.proofs.WordLaws.{bundle_second_move}
use Rattle.strand_words.proofs.laws.bundle_second_move.Goals as goal

pub returns : goal.returns
returns c = bundle_second_move
