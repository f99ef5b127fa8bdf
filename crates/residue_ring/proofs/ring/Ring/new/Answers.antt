-- The shift and the reciprocal are those of the modulus.
use Rattle.std.proofs.Common.{◌<◌, ◌≤◌, ◌^◌, refl, arith, rules}
use Rattle.residue_ring.specs.Reciprocal.{shift_of}
use Rattle.residue_ring.proofs.BarrettBounds.{shift_fits, reciprocal_made, reciprocal_fits}
use Rattle.residue_ring.proofs.ring.Ring.new.Goals as goal

pub overflow_shl-reciprocal : goal.overflow_shl-reciprocal
overflow_shl-reciprocal c = shift_fits c.args.m (omega arith) (omega arith)

pub overflow_cast-reciprocal-2 : goal.overflow_cast-reciprocal-2
overflow_cast-reciprocal-2 c =
    let low : 2 ≤ c.args.m = omega arith in
    let high : c.args.m < 2 ^ 62 = omega arith in
    let made = reciprocal_made c.args.m c.from.result low high c.from.ensures in
    let fits = reciprocal_fits c.args.m low high in
    rw made (search (rules, fits))

pub invariant_of-result : goal.invariant_of-result
unfolding shift_of
invariant_of-result c =
    let low : 2 ≤ c.args.m = omega arith in
    let high : c.args.m < 2 ^ 62 = omega arith in
    (low, high, refl, reciprocal_made c.args.m c.from.result low high c.from.ensures)
