use Rattle.cables.proofs.LoopValues.{loop_law}
use Rattle.cables.proofs.laws.loop_of_strands.Goals as goal

pub returns : goal.returns
returns c = loop_law
