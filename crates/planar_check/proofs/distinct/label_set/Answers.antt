use Rattle.std.proofs.Common.{arith}
use Rattle.std.proofs.lemmas.Grind.{common_steps}
use Rattle.planar_check.proofs.distinct.label_set.Goals as goal

pub loop-label-preserved : goal.loop-label-preserved
loop-label-preserved c = λ label. grind (arith, common_steps, c.loop-label.invariant label)
