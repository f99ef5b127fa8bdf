use Rattle.std.proofs.Common.{◌≡◌, ◌+◌, ◌++◌, drop}
use Rattle.slide_laws.specs.Directed.{directed_from}
use Rattle.slide_band.specs.Copies.{count_crossings}
use Rattle.slide_band.proofs.directing.directed.Given as goal

-- the pieces so far, and those of the items to come; the crossings are counted
abbrev pub invariant-loop-item : goal.invariant-loop-item
invariant-loop-item l = record {
  same : l.pieces.items ++ directed_from l.planar l.crossing (drop l.item-index l.item-items) ≡ directed_from l.planar 0 l.item-items;
  counted : l.crossing + count_crossings (drop l.item-index l.item-items) ≡ count_crossings l.item-items;
}
