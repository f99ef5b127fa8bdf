use Rattle.std.proofs.Common.{◌≡◌, ◌*◌, ◌≤◌, vec_len, take}
use Rattle.std.specs.List.{AllByRecursion}
use Rattle.pd_reader.specs.Diagrams.{labels}
use Rattle.pd_reader.proofs.label.labels.Given as goal

-- the labels of the items so far
abbrev pub invariant-loop-item : goal.invariant-loop-item
invariant-loop-item g l = record {
  items : l.found.items ≡ labels g.I.Labelled.labels (take l.item-index l.items);
  few : vec_len l.found ≤ 4 * l.item-index;
  sized : AllByRecursion g.I.Labelled.has_size (take l.item-index l.items);
}
