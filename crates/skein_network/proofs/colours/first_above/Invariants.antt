use Rattle.std.proofs.Common.{◌≡◌, drop}
use Rattle.skein_network.specs.Refusals.{first_above}
use Rattle.skein_network.proofs.colours.first_above.Given as goal

abbrev pub invariant-loop-colour : goal.invariant-loop-colour
invariant-loop-colour l = first_above l.top l.colours ≡ first_above l.top (drop l.colour-index l.colours)
