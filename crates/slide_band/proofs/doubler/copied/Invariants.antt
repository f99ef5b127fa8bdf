-- No name so far is the label.
use Rattle.std.proofs.Common.{◌≡◌, ◌≢◌, ℕ, ◌<◌, get_or}
use Rattle.slide_band.proofs.doubler.copied.Given as goal

abbrev pub invariant-loop-name : goal.invariant-loop-name
invariant-loop-name l = record { counted : l.count ≡ l.name-index; before : (k : ℕ) → k < l.name-index → get_or l.names k 0 ≢ l.x }
