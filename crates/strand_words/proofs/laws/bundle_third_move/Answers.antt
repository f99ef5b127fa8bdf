use Rattle.strand_words.proofs.WordLaws.{bundle_third_move}
use Rattle.strand_words.proofs.laws.bundle_third_move.Goals as goal

pub returns : goal.returns
returns c = bundle_third_move
