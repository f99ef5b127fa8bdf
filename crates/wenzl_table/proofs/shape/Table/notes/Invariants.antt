use Rattle.std.proofs.Common.{◌≡◌, map, take}
use Rattle.once_cell.specs.Once.{cell_name}
use Rattle.wenzl_table.proofs.shape.Table.notes.Given as goal

abbrev pub invariant-loop-cell : goal.invariant-loop-cell
invariant-loop-cell l = map (λ m. m.cell) l.list.items ≡ map cell_name (take l.cell-index l.cell-items)
