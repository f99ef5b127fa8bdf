use Rattle.std.proofs.Common.{◌≡◌, ◌-◌}
use Rattle.wenzl_table.specs.Inverses.{AreCoprime}
use Rattle.tetra_sum.specs.Refusals.{delta_refusal}
use Rattle.tetra_sum.proofs.Searches.{searched}
use Rattle.tetra_sum.proofs.checks.check_inverses.Given as goal

-- no index so far shares a factor, and the search goes on from here
abbrev pub invariant-loop-index : goal.invariant-loop-index
invariant-loop-index l = record {
  coprime : AreCoprime l.params l.index;
  left : delta_refusal l.params ≡ searched l.params l.index (l.params.level - 2 - l.index);
}
