use Rattle.std.proofs.Common.{◌≡◌, length}
use Rattle.wenzl_table.proofs.shape.Table.new.Given as goal

abbrev pub invariant-loop : goal.invariant-loop
invariant-loop l = length l.cells.items ≡ l.counter
