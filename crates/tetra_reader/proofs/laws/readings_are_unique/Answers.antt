use Rattle.tetra_reader.proofs.OneReading.{readings_are_unique_lem}
use Rattle.tetra_reader.proofs.laws.readings_are_unique.Goals as goal

pub returns : goal.returns
returns c = readings_are_unique_lem
