use Rattle.std.proofs.Common.{◌≡◌, ◌++◌, ◌-◌, ◌<◌, length}
use Rattle.planar_check.specs.Faces.{cycle_from}
use Rattle.planar_check.specs.Planar.{next_in_face}
use Rattle.planar_check.proofs.face.places_from.Given as goal

-- the places so far, and the rest of the cycle behind them
abbrev pub invariant-loop-step : goal.invariant-loop-step
invariant-loop-step l = record {
  cycle : cycle_from (next_in_face l.after l.others) l.start l.start (length l.others)
      ≡ l.places.items ++ cycle_from (next_in_face l.after l.others) l.start l.place (length l.others - l._step);
  in_range : l.place < length l.others;
}
