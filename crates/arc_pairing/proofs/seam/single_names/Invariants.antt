use Rattle.std.proofs.Common.{◌≡◌, ◌==◌, take}
use Rattle.std.specs.List.{filter}
use Rattle.list_lemmas.specs.Times.{times_in}
use Rattle.arc_pairing.proofs.seam.single_names.Given as goal

abbrev pub invariant-loop-name : goal.invariant-loop-name
invariant-loop-name l = l.single.items ≡ filter (λ x. times_in l.all x == 1) (take l.name-index l.all)
