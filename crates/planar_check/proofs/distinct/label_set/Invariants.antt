use Rattle.std.proofs.Common.{◌≡◌, ◌==◌, ℕ, take}
use Rattle.std.specs.BTreeSet.{contains}
use Rattle.std.specs.Ordering.{nat_cmp}
use Rattle.std.specs.Set.{is_member}
use Rattle.planar_check.proofs.distinct.label_set.Given as goal

-- the labels so far
abbrev pub invariant-loop-label : goal.invariant-loop-label
invariant-loop-label l = (label : ℕ) → contains nat_cmp l.set label ≡ is_member ◌==◌ (take l.label-index l.labels) label
