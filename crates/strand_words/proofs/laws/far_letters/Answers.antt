use Rattle.strand_words.proofs.WordLaws.{far_letters}
use Rattle.strand_words.proofs.laws.far_letters.Goals as goal

pub returns : goal.returns
returns c = far_letters
