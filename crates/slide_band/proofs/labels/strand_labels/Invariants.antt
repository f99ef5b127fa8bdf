use Rattle.std.proofs.Common.{◌≡◌, ◌≤◌, ◌*◌, ◌++◌, length, drop}
use Rattle.slide_strands.specs.Strands.{strands}
use Rattle.slide_laws.specs.Slides.{strand_labels}
use Rattle.slide_band.proofs.labels.strand_labels.Given as goal

-- the labels so far, and those of the pieces to come
abbrev pub invariant-loop-piece : goal.invariant-loop-piece
invariant-loop-piece l = record {
  same : l.labels.items ++ strand_labels l.component (strands (drop l.piece-index l.pieces)) ≡ strand_labels l.component (strands l.pieces);
  few : length l.labels.items ≤ 4 * l.piece-index;
}
