-- After some turns the rest is the number, less 1, of the colours of so many components less, and the component has the same colour there.
use Rattle.std.proofs.Common.{◌≡◌, ℕ, ◌-◌, ◌^◌, ◌<◌, List, [], length, get_or, slice_index}
use Rattle.coloured_values.specs.Surgery.{colour_lists}
use Rattle.kirby_terms.proofs.colours.place_of.Given as goal

abbrev pub invariant-loop : goal.invariant-loop
invariant-loop l = record {
  below : l.rest < l.count ^ (l.components - l.counter);
  same : (colours : List ℕ) → length colours ≡ l.count →
      slice_index (get_or (colour_lists colours l.components) (l.fn.index - 1) []) (l.component - 1)
      ≡ slice_index (get_or (colour_lists colours (l.components - l.counter)) l.rest []) (l.component - 1);
}
