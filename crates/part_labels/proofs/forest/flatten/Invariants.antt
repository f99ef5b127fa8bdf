use Rattle.std.proofs.Common.{◌≡◌, ℕ, ◌<◌, slice_index}
use Rattle.part_labels.specs.Forests.{IsDescending, StandsFor}
use Rattle.part_labels.proofs.forest.flatten.Given as goal

abbrev pub invariant-loop-name : goal.invariant-loop-name
invariant-loop-name l = IsDescending l.parents × ((label : ℕ → ℕ) → StandsFor label l.initial.parents → StandsFor label l.parents × ((k : ℕ) → k < l.name → slice_index l.parents k ≡ label k))
