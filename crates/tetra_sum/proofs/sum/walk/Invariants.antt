use Rattle.std.proofs.Common.{◌≡◌, ◌<◌, take, drop}
use Rattle.ring_identities.specs.Residues.{residue}
use Rattle.coloured_values.specs.Surgery.{sum_over}
use Rattle.wenzl_table.specs.Tables.{IsOf, Keeps}
use Rattle.tetra_sum.specs.Lists.{lists}
use Rattle.tetra_sum.specs.Refusals.{walk_refusal}
use Rattle.tetra_sum.specs.Stores.{AreStores}
use Rattle.tetra_sum.specs.Sums.{weight}
use Rattle.tetra_sum.proofs.WalkSteps.{walked}
use Rattle.tetra_sum.proofs.sum.walk.Given as goal

-- the sum of the first weights, and no refusal so far
abbrev pub invariant-loop-colours : goal.invariant-loop-colours
invariant-loop-colours l = record {
  of : IsOf l.notes l.table;
  kept : Keeps l.fn.notes l.notes;
  stores : AreStores l.table.params l.stores;
  value : l.sum ≡ residue l.table.params.modulus (sum_over (weight l.table.params l.tetra) (take l.colours-index (lists l.list)));
  below : l.sum < l.table.params.modulus;
  left : walk_refusal l.table.params l.tetra ≡ walked l.table.params l.tetra (drop l.colours-index (lists l.list));
}
