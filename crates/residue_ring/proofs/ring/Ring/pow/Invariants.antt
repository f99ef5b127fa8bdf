-- The product times the remaining power of the square is the power that was asked for.
use Rattle.std.proofs.Common.{◌≡◌, ◌<◌, pos}
use Rattle.ring_identities.specs.Residues.{residue}
use Rattle.ring_identities.specs.Powers.{power}
use Rattle.residue_ring.proofs.PowerSteps.{remaining}
use Rattle.residue_ring.proofs.ring.Ring.pow.Given as goal

abbrev pub invariant-loop-left : goal.invariant-loop-left
invariant-loop-left l = record {
  product_below : l.product < l.self;
  square_below : l.square < l.self;
  remaining_is : remaining l.self l.product l.square l.left ≡ residue l.self (power (pos l.fn.base) l.fn.e);
}

abbrev pub decreases-loop-left : goal.decreases-loop-left
decreases-loop-left l = l.left
