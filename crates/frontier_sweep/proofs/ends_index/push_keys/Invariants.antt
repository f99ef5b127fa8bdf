use Rattle.std.proofs.Common.{◌≡◌, ◌++◌, map, take}
use Rattle.frontier_sweep.specs.Rises.{place_key}
use Rattle.frontier_sweep.proofs.ends_index.push_keys.Given as goal

-- the numbers of the ends so far
abbrev pub invariant-loop-name : goal.invariant-loop-name
invariant-loop-name l = l.index.items ≡ l.initial.index.items ++ map (λ name. place_key name l.place) (take l.name-index l.ends)
