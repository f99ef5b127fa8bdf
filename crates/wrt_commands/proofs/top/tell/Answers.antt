use Rattle.std.proofs.Common.{inr, refl}
use Rattle.wrt_commands.proofs.top.tell.Goals as goal

pub returns-in-Err-clause-says : goal.returns-in-Err-clause-says
returns-in-Err-clause-says g c = inr (refl, c.say-in-Err.ensures.says)
