use Rattle.std.proofs.Common.{◌≡◌, ◌++◌, drop}
use Rattle.slide_strands.specs.Strands.{ends}
use Rattle.slide_band.proofs.ends.ends.Given as goal

-- the ends so far, and those of the pieces to come
abbrev pub invariant-loop-piece : goal.invariant-loop-piece
invariant-loop-piece l = l.found.items ++ ends (drop l.piece-index l.pieces) ≡ ends l.pieces
