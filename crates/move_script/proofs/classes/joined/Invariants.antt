use Rattle.std.proofs.Common.{◌≡◌, drop}
use Rattle.move_script.specs.Tables.{joined}
use Rattle.move_script.proofs.classes.joined.Given as goal

-- what is left to join gives the label that all joins give
abbrev pub invariant-loop-a : goal.invariant-loop-a
invariant-loop-a l = joined (drop l.a-index l.joins) l.least ≡ joined l.joins l.label
