use Rattle.std.proofs.Common.{◌≡◌, ℕ, ◌<◌, length, slice_index}
use Rattle.arc_pairing.proofs.seam.places_of.Given as goal

abbrev pub invariant-loop-place : goal.invariant-loop-place
invariant-loop-place l = record {
  whole : length l.places ≡ 48;
  placed : (k : ℕ) → k < l.place → slice_index l.places (slice_index l.slots k) ≡ k;
}
