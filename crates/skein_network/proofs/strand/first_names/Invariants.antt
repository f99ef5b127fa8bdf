use Rattle.std.proofs.Common.{◌≡◌, ◌+◌, ◌*◌, map}
use Rattle.std.specs.List.{range_with_len}
use Rattle.skein_network.proofs.strand.first_names.Given as goal

abbrev pub invariant-loop-j : goal.invariant-loop-j
invariant-loop-j l = l.names.items ≡ map (λ j. 16 * l.label + 2 * j) (range_with_len 0 l.j)
