use Rattle.std.proofs.Common.{◌≡◌, ◌++◌, map, take}
use Rattle.planar_check.proofs.placed.push_owner.Given as goal

-- the item's number, once for each slot so far
abbrev pub invariant-loop-label : goal.invariant-loop-label
invariant-loop-label l = l.owners.items ≡ l.initial.owners.items ++ map (λ _. l.number) (take l._label-index l.slots)
