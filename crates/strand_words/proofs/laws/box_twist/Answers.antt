use Rattle.strand_words.proofs.WordLaws.{box_twist}
use Rattle.strand_words.proofs.laws.box_twist.Goals as goal

pub returns : goal.returns
returns c = box_twist
