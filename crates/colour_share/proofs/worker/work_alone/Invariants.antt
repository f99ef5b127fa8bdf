use Rattle.std.proofs.Common.{◌+◌}
use Rattle.colour_share.specs.Parts.{IsPartSum, KnowsShare}
use Rattle.colour_share.proofs.worker.work_alone.Given as goal

abbrev pub invariant-loop-place : goal.invariant-loop-place
invariant-loop-place g l = record {
  sum : IsPartSum (g.C.Choose.answers l.chooser) l.table.params l.framed l.workers l.worker (l.worker + 1) l.place l.value l.turns;
  notes : KnowsShare l.table l.framed l.workers l.worker l.place l.notes;
}
