use Rattle.std.proofs.Common.{◌≡◌, take}
use Rattle.std.specs.List.{filter}
use Rattle.frontier_sweep.specs.Places.{is_new}
use Rattle.frontier_sweep.proofs.places.new_names.Given as goal

abbrev pub invariant-loop-end : goal.invariant-loop-end
invariant-loop-end l = l.found.items ≡ filter (is_new l.names l.ends) (take l.end-index l.ends)
