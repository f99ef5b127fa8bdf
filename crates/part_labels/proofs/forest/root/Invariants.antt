use Rattle.std.proofs.Common.{◌≡◌, ℕ, ◌<◌, length}
use Rattle.part_labels.specs.Forests.{IsDescending, StandsFor}
use Rattle.part_labels.proofs.forest.root.Given as goal

abbrev pub invariant-loop-parents : goal.invariant-loop-parents
invariant-loop-parents l = (l.at < length l.parents) × IsDescending l.parents × ((label : ℕ → ℕ) → StandsFor label l.initial.parents → (label l.at ≡ label l.name) × StandsFor label l.parents)

abbrev pub decreases-loop-parents : goal.decreases-loop-parents
decreases-loop-parents l = l.at
