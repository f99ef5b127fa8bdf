use Rattle.std.proofs.Common.{◌≡◌, ◌≤◌, ◌-◌, length}
use Rattle.skein_io.specs.Source.{Takes}
use Rattle.skein_io.proofs.reading.read_all.Given as goal

-- so far at most limit bytes were taken, and no read failed
abbrev pub invariant-loop-all : goal.invariant-loop-all
invariant-loop-all g l = record {
  within : length l.all.items ≤ l.limit;
  taken : Takes (g.S.Source.left l.fn.source) l.all.items (g.S.Source.left l.source);
  no_fault : g.S.Source.faults l.source ≡ g.S.Source.faults l.fn.source;
}

abbrev pub decreases-loop-all : goal.decreases-loop-all
decreases-loop-all g l = l.limit - length l.all.items
