-- The place that follows on a way is a place, since both lists are of places.
use Rattle.std.proofs.Common.{◌≡◌, ℕ, ◌<◌, List, length, slice_index, arith, All}
use Rattle.planar_check.specs.declared.cycles.Way.{Way}
use Rattle.planar_check.specs.declared.cycles.Way.TheVariants as ways
use Rattle.planar_check.specs.Cycles.{next_on}

module _ (after others : List ℕ) (same : length after ≡ length others) (after_in : All (λ p. p < length others) after) (others_in : All (λ p. p < length others) others) where
  pub next_within : (way : Way) (p : ℕ) → p < length others → next_on way after others p < length others
  next_within ways.Face p l = after_in (slice_index others p) 0 (let across = others_in p 0 l in omega (arith, across, same))
  next_within ways.Walk p l =
      let once = after_in p 0 (omega (arith, l, same)) in
      others_in (slice_index after (slice_index after p)) 0 (after_in (slice_index after p) 0 (omega (arith, once, same)))
