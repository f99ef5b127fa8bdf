use Rattle.std.proofs.Common.{◌≡◌, ℕ, ◌<◌}
use Rattle.wenzl_table.specs.Tables.{Agree}
use Rattle.wenzl_table.proofs.ComparedNotes.{known_at}
use Rattle.wenzl_table.proofs.notes.compare_each.Given as goal

abbrev pub invariant-loop-at : goal.invariant-loop-at
invariant-loop-at l = record {
  mine : l.mine.items ≡ l.fn.mine.items;
  others : l.others.items ≡ l.fn.others.items;
  same : (k : ℕ) → k < l.at → Agree (known_at l.fn.mine.items k) (known_at l.fn.others.items k);
}
