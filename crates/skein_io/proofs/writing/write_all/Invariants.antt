use Rattle.std.proofs.Common.{◌≡◌, ◌≤◌, ◌-◌, length, take}
use Rattle.skein_io.specs.Sink.{Appends}
use Rattle.skein_io.proofs.writing.write_all.Given as goal

-- so far the first bytes of the piece were appended, and no write failed
abbrev pub invariant-loop-sent : goal.invariant-loop-sent
invariant-loop-sent g l = record {
  within : l.sent ≤ length l.piece;
  appended : Appends (g.K.Sink.taken l.fn.sink) (take l.sent l.piece) (g.K.Sink.taken l.sink);
  no_fault : g.K.Sink.faults l.sink ≡ g.K.Sink.faults l.fn.sink;
}

abbrev pub decreases-loop-sent : goal.decreases-loop-sent
decreases-loop-sent g l = length l.piece - l.sent
