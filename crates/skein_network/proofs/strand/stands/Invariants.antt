use Rattle.std.proofs.Common.{◌≡◌, ◌==◌, drop}
use Rattle.std.specs.Set.{is_member}
use Rattle.skein_network.proofs.strand.stands.Given as goal

abbrev pub invariant-loop-other : goal.invariant-loop-other
invariant-loop-other l = is_member ◌==◌ l.labels l.label ≡ is_member ◌==◌ (drop l.other-index l.labels) l.label
