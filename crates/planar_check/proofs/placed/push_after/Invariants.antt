use Rattle.std.proofs.Common.{◌≡◌, ◌++◌, map, vec_len, ◌+◌}
use Rattle.std.specs.List.{range_with_len}
use Rattle.planar_check.specs.Places.{slot_after}
use Rattle.planar_check.proofs.placed.push_after.Given as goal

-- the after of the slots so far
abbrev pub invariant-loop-slot : goal.invariant-loop-slot
invariant-loop-slot l = record {
  items : l.after.items ≡ l.initial.after.items ++ map (slot_after l.start l.slots) (range_with_len 0 l.slot);
  more : vec_len l.after ≡ l.start + l.slot;
}
