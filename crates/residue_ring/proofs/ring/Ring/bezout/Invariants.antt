-- Both numbers are multiples of x modulo m, and their common divisors are those of m and x.
use Rattle.std.proofs.Common.{◌<◌, ℕ, pos, ◌*ℤ◌}
use Rattle.std.specs.Int.{IsGcd}
use Rattle.ring_identities.specs.Residues.{Congruent}
use Rattle.residue_ring.proofs.ring.Ring.bezout.Given as goal

abbrev pub invariant-loop-rest : goal.invariant-loop-rest
invariant-loop-rest l = record {
  of_divisor_below : l.of_divisor < l.m;
  of_rest_below : l.of_rest < l.m;
  divisor_is : Congruent l.m (pos l.of_divisor *ℤ pos l.x) (pos l.divisor);
  rest_is : Congruent l.m (pos l.of_rest *ℤ pos l.x) (pos l.rest);
  same_divisors : (g : ℕ) → IsGcd l.divisor l.rest g → IsGcd l.m l.x g;
}

abbrev pub decreases-loop-rest : goal.decreases-loop-rest
decreases-loop-rest l = l.rest
