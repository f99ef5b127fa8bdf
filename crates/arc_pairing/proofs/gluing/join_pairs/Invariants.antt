use Rattle.std.proofs.Common.{slice_index}
use Rattle.arc_pairing.proofs.Joins.{IsAt}
use Rattle.arc_pairing.proofs.gluing.join_pairs.Given as goal

abbrev pub invariant-loop-i : goal.invariant-loop-i
invariant-loop-i l = IsAt (slice_index l.initial.mates) l.slots l.partner l.mates l.loops l.i
