use Rattle.std.proofs.Common.{◌≡◌, ◌++◌, take}
use Rattle.pd_reader.proofs.Written.{written_behind}
use Rattle.pd_reader.proofs.write.write_behind.Given as goal

-- the items so far are written, each behind a comma
abbrev pub invariant-loop-item : goal.invariant-loop-item
invariant-loop-item l = l.text.items ≡ l.fn.text.items ++ written_behind (take l.item-index l.items)
