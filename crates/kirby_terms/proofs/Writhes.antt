-- A writhe is at most as large in size as the crossings are many.
use Rattle.std.proofs.Common.{◌≡◌, ℕ, ◌≤◌, List, length, map, arith, unsigned_abs, nat_lt}
use Rattle.std.proofs.lemmas.List.{length-map}
use Rattle.std.proofs.lemmas.List.Sums.{length-filter, count_by-le-length}
use Rattle.std.proofs.lemmas.List.FromFn.{length-map-range_with_len}
use Rattle.pd_reader.specs.declared.item.Item.{Item}
use Rattle.pd_reader.specs.Diagrams.{IsDiagram}
use Rattle.planar_check.specs.Places.{item_slots, crossings_of}
use Rattle.planar_check.specs.Signs.{writhe, signed_crossings, signed_at}
use Rattle.planar_check.proofs.SignSums.{sum_small}

crossing_count : (items : List Item) → length (signed_crossings items) ≡ length (crossings_of items)
unfolding signed_crossings
crossing_count items = length-map-range_with_len (signed_at items) 0 (length (crossings_of items))

pub small_writhe : (items : List Item) (i : ℕ) → IsDiagram items → unsigned_abs (writhe items i) ≤ 256
small_writhe items i diagram =
    let few = diagram.few in
    let small = sum_small i i (signed_crossings items) in
    let count = crossing_count items in
    let crossings = length-filter (λ (slots : List ℕ). nat_lt 0 (length slots)) (map item_slots items) in
    let fewer = count_by-le-length (λ (slots : List ℕ). nat_lt 0 (length slots)) (map item_slots items) in
    let each = length-map items item_slots in
    omega (arith, few, small, count, crossings, fewer, each)
