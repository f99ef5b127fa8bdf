use Rattle.tetra_reader.proofs.OneReading.{readings_exist_lem}
use Rattle.tetra_reader.proofs.laws.readings_exist.Goals as goal

pub returns : goal.returns
returns c = readings_exist_lem
