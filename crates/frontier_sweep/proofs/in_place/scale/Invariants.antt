use Rattle.frontier_sweep.proofs.InPlaceLemmas.{IsScaledTo}
use Rattle.frontier_sweep.proofs.in_place.scale.Given as goal

abbrev pub invariant-loop-at : goal.invariant-loop-at
invariant-loop-at l = IsScaledTo l.step.powers.now.modulus l.kept.weight l.fn.table l.fn.turns l.at l.table l.saved.items l.turns
