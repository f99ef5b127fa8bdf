use Rattle.cables.proofs.AddedLoops.{added_loop}
use Rattle.cables.proofs.laws.added_loop.Goals as goal

pub returns : goal.returns
returns c = added_loop
