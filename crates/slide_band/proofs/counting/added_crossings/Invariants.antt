use Rattle.std.proofs.Common.{◌≡◌, ◌+◌, ◌*◌, ◌≤◌, drop}
use Rattle.slide_strands.specs.Strands.{has_one, has_two, crossings_with}
use Rattle.slide_band.proofs.counting.added_crossings.Given as goal

-- what was added so far, and what the pieces to come add
abbrev pub invariant-loop-piece : goal.invariant-loop-piece
invariant-loop-piece l = record {
  same : l.added + (crossings_with (has_one l.j) (drop l.piece-index l.pieces) + 3 * crossings_with (has_two l.j) (drop l.piece-index l.pieces)) ≡ crossings_with (has_one l.j) l.pieces + 3 * crossings_with (has_two l.j) l.pieces;
  small : l.added ≤ 3 * l.piece-index;
}
