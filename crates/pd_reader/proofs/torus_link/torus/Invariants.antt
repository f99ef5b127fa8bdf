use Rattle.std.proofs.Common.{◌≡◌, ◌-◌}
use Rattle.pd_reader.specs.Torus.{torus_front}
use Rattle.pd_reader.proofs.torus_link.torus.Given as goal

abbrev pub invariant-loop-i : goal.invariant-loop-i
invariant-loop-i l = l.items.items ≡ torus_front (l.i - 1)
