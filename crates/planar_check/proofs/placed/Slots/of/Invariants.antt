use Rattle.std.proofs.Common.{◌≡◌, ◌*◌, ◌≤◌, vec_len, take, length}
use Rattle.planar_check.specs.Places.{slot_lists, labels_by_place, slots_after, owners}
use Rattle.planar_check.proofs.placed.Slots.of.Given as goal

-- the places of the items so far
abbrev pub invariant-loop-item : goal.invariant-loop-item
invariant-loop-item g l = record {
  labels : l.labels.items ≡ labels_by_place (slot_lists g.I.Placed.slots_of (take l.item-index l.items));
  after : l.after.items ≡ slots_after 0 (slot_lists g.I.Placed.slots_of (take l.item-index l.items));
  owners : l.owners.items ≡ owners 0 (slot_lists g.I.Placed.slots_of (take l.item-index l.items));
  item_count : l.item_count ≡ length (slot_lists g.I.Placed.slots_of (take l.item-index l.items));
  same : vec_len l.after ≡ vec_len l.labels;
  few : vec_len l.labels ≤ 4 * l.item-index;
  few_items : l.item_count ≤ l.item-index;
}
