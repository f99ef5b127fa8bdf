use Rattle.std.proofs.Common.{arith}
use Rattle.std.proofs.lemmas.Grind.{common_steps}
use Rattle.list_lemmas.proofs.Ranges.{range_push}
use Rattle.part_labels.proofs.parts.count_up.Goals as goal

pub loop-number-preserved : goal.loop-number-preserved
loop-number-preserved c = let e = range_push c.loop-number.number in grind (arith, common_steps, e, c.in_ok-push.ensures.items)
