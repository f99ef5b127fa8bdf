use Rattle.pd_reader.proofs.OneReading.{texts_are_unique_lem}
use Rattle.pd_reader.proofs.laws.texts_are_unique.Goals as goal

pub returns : goal.returns
returns c = texts_are_unique_lem
