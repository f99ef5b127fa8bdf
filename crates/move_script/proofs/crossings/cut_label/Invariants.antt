use Rattle.std.proofs.Common.{◌≡◌, drop}
use Rattle.move_script.specs.Tables.{cut_by}
use Rattle.move_script.proofs.crossings.cut_label.Given as goal

-- no cut so far is at the place
abbrev pub invariant-loop-at : goal.invariant-loop-at
invariant-loop-at l = cut_by (drop l.at-index l.cuts) l.place l.label ≡ cut_by l.cuts l.place l.label
