use Rattle.strand_words.proofs.WordLaws.{grid_columns}
use Rattle.strand_words.proofs.laws.grid_columns.Goals as goal

pub returns : goal.returns
returns c = grid_columns
