use Rattle.std.proofs.Common.{◌≡◌, ℕ, ◌<◌, ◌^◌, ◌%◌, slice_index, length}
use Rattle.frontier_sweep.proofs.powers.LoopPowers.of.Given as goal

abbrev pub invariant-loop-k : goal.invariant-loop-k
invariant-loop-k l = (length l.powers ≡ 25) × ((k : ℕ) → k < l.k → slice_index l.powers k ≡ l.delta ^ k % l.ring)
