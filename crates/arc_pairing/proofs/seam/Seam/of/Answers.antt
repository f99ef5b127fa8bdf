use Rattle.std.proofs.Common.{arith}
use Rattle.arc_gluing.proofs.Slots.{increases}
use Rattle.arc_pairing.proofs.seam.Seam.of.Goals as goal

pub keeping-requires-clause-apart : goal.keeping-requires-clause-apart
keeping-requires-clause-apart c = λ i k l m e. let up = increases c.args.names.now c.requires.increasing i k l m in omega (arith, up, e)
