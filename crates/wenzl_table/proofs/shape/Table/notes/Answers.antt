use Rattle.std.proofs.Common.{◌≡◌, map, ◌∙◌, take, ap, List, ℕ}
use Rattle.std.specs.declared.alloc.Global.{Global}
use Rattle.std.proofs.lemmas.List.{take_all}
use Rattle.once_cell.specs.Once.{cell_name}
use Rattle.wenzl_table.specs.Tables.{Table}
use Rattle.wenzl_table.proofs.NotePlaces.{cells_said}
use Rattle.wenzl_table.proofs.shape.Table.notes.Goals as goal

pub returns : goal.returns
returns c =
    let all : take c.loop-cell.cell-index c.deref-cell-items.result.now ≡ c.deref-cell-items.result.now = take_all c.loop-cell.cell-index c.deref-cell-items.result.now c.loop-cell-test.false in
    record {
      of = cells_said c.loop-cell.list.items ∙ c.loop-cell.invariant ∙ ap (λ (xs : List (Global × ℕ)). map cell_name xs) (all ∙ c.deref-cell-items.ensures.value) ∙ ap (λ (t : Table). t.cells) c.self.view_is;
    }
