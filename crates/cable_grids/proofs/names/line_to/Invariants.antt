use Rattle.std.proofs.Common.{◌≡◌, ◌+◌, ◌*◌, map}
use Rattle.std.specs.List.{range_with_len}
use Rattle.cable_grids.proofs.names.line_to.Given as goal

abbrev pub invariant-loop-j : goal.invariant-loop-j
invariant-loop-j l = l.names.items ≡ map (λ j. 33554432 + 128 * l.k + 64 + 8 * l.i + j) (range_with_len 0 l.j)
