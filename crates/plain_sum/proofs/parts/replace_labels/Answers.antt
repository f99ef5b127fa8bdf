use Rattle.std.proofs.Common.{arith}
use Rattle.std.proofs.lemmas.Grind.{common_steps}
use Rattle.std.proofs.lemmas.List.Edits.{map_over_more}
use Rattle.graph_parts.specs.Renaming.{replaced}
use Rattle.plain_sum.proofs.parts.replace_labels.Goals as goal
use Rattle.plain_sum.proofs.parts.replace_labels.Goals.{then-label-from, else-label-from}

pub loop-label-preserved : goal.loop-label-preserved
loop-label-preserved c =
    elim c.if-label-from.branch [
      | then-label-from w ↦ grind (arith, common_steps, map_over_more (replaced c.args.from c.args.to))
      | else-label-from w ↦ grind (arith, common_steps, map_over_more (replaced c.args.from c.args.to))
    ]
