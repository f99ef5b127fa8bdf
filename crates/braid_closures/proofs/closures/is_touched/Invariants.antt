use Rattle.std.proofs.Common.{◌≡◌, drop}
use Rattle.braid_closures.specs.Closures.{is_touched}
use Rattle.braid_closures.proofs.closures.is_touched.Given as goal

-- no entry so far touches the position
abbrev pub invariant-loop-entry : goal.invariant-loop-entry
invariant-loop-entry l = is_touched l.word l.position ≡ is_touched (drop l.entry-index l.word) l.position
