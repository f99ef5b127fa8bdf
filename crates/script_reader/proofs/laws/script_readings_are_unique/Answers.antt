use Rattle.script_reader.proofs.OneScriptReading.{script_readings_are_unique}
use Rattle.script_reader.proofs.laws.script_readings_are_unique.Goals as goal

pub returns : goal.returns
returns c = script_readings_are_unique
