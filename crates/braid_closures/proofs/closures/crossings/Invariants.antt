use Rattle.std.proofs.Common.{◌≡◌, ◌+◌, ◌*◌, ◌++◌, ◌≤◌, drop, length}
use Rattle.std.specs.List.{range_with_len}
use Rattle.braid_closures.specs.Closures.{crossings}
use Rattle.braid_closures.proofs.closures.crossings.Given as goal

-- the crossings so far, with those that the labels and the entries left give, are all; two labels at most are used by an entry
abbrev pub invariant-loop-at : goal.invariant-loop-at
invariant-loop-at l = record {
  all : l.items.items ++ crossings l.labels.items l.unused (drop l.at l.word) ≡ crossings (range_with_len 1 l.strands) (l.strands + 1) l.word;
  positions : length l.labels.items ≡ l.strands;
  few : l.unused ≤ l.strands + 1 + 2 * l.at;
}
