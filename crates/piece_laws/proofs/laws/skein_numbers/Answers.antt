use Rattle.piece_laws.proofs.ParameterNumbers.{skein_numbers}
use Rattle.piece_laws.proofs.laws.skein_numbers.Goals as goal

pub returns : goal.returns
returns c = skein_numbers
