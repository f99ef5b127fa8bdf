use Rattle.std.proofs.Common.{ℕ, ◌<◌, slice_index}
use Rattle.arc_pairing.proofs.pairing.Pairing.is_noncrossing.Given as goal

-- No pair that begins below `at` is crossed from its inside.
abbrev pub invariant-loop-at : goal.invariant-loop-at
invariant-loop-at l = (i j : ℕ) → i < l.at → i < j → j < slice_index l.points i → slice_index l.points i < slice_index l.points j → ⊥

-- Nor is the pair of `at`, by a point below `between`.
abbrev pub invariant-loop-between : goal.invariant-loop-between
invariant-loop-between l = (j : ℕ) → l.at < j → j < l.between → l.other < slice_index l.points j → ⊥
