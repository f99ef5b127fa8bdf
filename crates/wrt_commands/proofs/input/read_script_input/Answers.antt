use Rattle.wrt_commands.proofs.ScriptLemmas.{text_labels}
use Rattle.wrt_commands.proofs.input.read_script_input.Goals as goal

pub returns-in-Ok-clause-labels : goal.returns-in-Ok-clause-labels
returns-in-Ok-clause-labels c = text_labels c.in-Ok.script.diagram c.in-Ok.ensures.read.0.are_items
