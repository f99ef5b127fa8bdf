use Rattle.strand_words.proofs.WordLaws.{closed_grid}
use Rattle.strand_words.proofs.laws.closed_grid.Goals as goal

pub returns : goal.returns
returns c = closed_grid
