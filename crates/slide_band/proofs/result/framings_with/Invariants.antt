use Rattle.std.proofs.Common.{◌≡◌, take}
use Rattle.slide_band.proofs.result.framings_with.Given as goal

-- the framings so far
abbrev pub invariant-loop-index : goal.invariant-loop-index
invariant-loop-index l = l.framings.items ≡ take l.index l.framed.framings
