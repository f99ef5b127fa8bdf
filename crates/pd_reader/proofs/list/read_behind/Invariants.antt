use Rattle.std.proofs.Common.{◌≡◌, ◌-◌, ◌++◌, List, length}
use Rattle.std.specs.List.{AllByRecursion}
use Rattle.text_shapes.specs.Shapes.{items_behind}
use Rattle.text_shapes.specs.Readers.{LeadsTo}
use Rattle.text_shapes.proofs.Places.{IsStop}
use Rattle.pd_reader.proofs.list.read_behind.Given as goal

-- what was read so far, and what may come behind it
abbrev pub invariant-loop-at : goal.invariant-loop-at
invariant-loop-at g l = record {
  read : List g.row.I.Denot;
  grown : l.items.items ≡ l.fn.items.items ++ read;
  leads : LeadsTo (AllByRecursion g.I.TextItem.fits) (items_behind l.close g.I.TextItem.tokens) (AllByRecursion g.I.TextItem.fits) (items_behind l.close g.I.TextItem.tokens) (λ rest. read ++ rest) l.bytes l.fn.at l.next;
  fit : AllByRecursion g.I.TextItem.fits read;
  stop : IsStop l.bytes l.next;
}

abbrev pub decreases-loop-at : goal.decreases-loop-at
decreases-loop-at g l = length l.bytes - l.next
