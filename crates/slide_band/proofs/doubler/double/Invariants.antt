-- What is made so far and the doubling of the pieces left are the doubling of all; each piece takes at most four labels.
use Rattle.std.proofs.Common.{◌≡◌, ◌+◌, ◌*◌, ◌≤◌, ◌++◌, length, drop}
use Rattle.slide_strands.specs.Doubling.{doubled}
use Rattle.slide_band.specs.Copies.{slide_with}
use Rattle.slide_band.proofs.doubler.double.Given as goal

abbrev pub invariant-loop-piece : goal.invariant-loop-piece
invariant-loop-piece l = record {
  same : l.made.items ++ doubled (slide_with l.doubling l.names l.first) l.n (drop l.piece-index l.pieces) ≡ doubled (slide_with l.doubling l.names l.first) (l.first + length l.names) l.pieces;
  small : l.n ≤ l.first + length l.names + 4 * l.piece-index;
}
