use Rattle.coloured_values.proofs.ColouredLaws.{all_ones}
use Rattle.coloured_values.proofs.laws.all_colours_one.Goals as goal

pub returns : goal.returns
returns c = all_ones
