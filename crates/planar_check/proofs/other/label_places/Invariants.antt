use Rattle.std.proofs.Common.{◌≡◌, ◌<◌, ℕ, length, slice_index}
use Rattle.std.specs.BTreeMap.{get}
use Rattle.std.specs.Ordering.{nat_cmp}
use Rattle.std.specs.List.{range_with_len}
use Rattle.planar_check.specs.Places.{first_passing, is_across}
use Rattle.planar_check.proofs.OtherPlaces.{IsFirstMet}
use Rattle.planar_check.proofs.other.label_places.Given as goal

-- the first place of each label, and the other places, as far as the places so far tell them
abbrev pub invariant-loop-place : goal.invariant-loop-place
invariant-loop-place l = record {
  length : length l.others.items ≡ l.place;
  firsts : (label : ℕ) → IsFirstMet l.labels l.place label (get nat_cmp l.firsts label);
  others : (p : ℕ) → p < l.place → slice_index l.others.items p ≡ first_passing (is_across l.labels p) (range_with_len 0 l.place) p;
}
