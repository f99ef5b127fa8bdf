use Rattle.wenzl_table.specs.Inverses.{AreCoprime}
use Rattle.colour_share.proofs.checks.check_inverses.Given as goal

abbrev pub invariant-loop-index : goal.invariant-loop-index
invariant-loop-index l = AreCoprime l.params l.index
