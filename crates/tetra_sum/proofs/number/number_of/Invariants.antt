use Rattle.std.proofs.Common.{◌≡◌, ◌-◌, ◌^◌, ◌<◌, drop}
use Rattle.tetra_sum.proofs.Walks.{digits_from}
use Rattle.tetra_sum.proofs.number.number_of.Given as goal

-- the number of the digits so far, and what is left of them
abbrev pub invariant-loop-colour : goal.invariant-loop-colour
invariant-loop-colour l = record {
  value : digits_from (l.r - 1) l.number (drop l.colour-index l.colours) ≡ digits_from (l.r - 1) 0 l.colours;
  below : l.number < (l.r - 1) ^ l.colour-index;
}
