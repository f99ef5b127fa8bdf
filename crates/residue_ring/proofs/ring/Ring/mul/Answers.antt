-- The ring keeps what the reduction asks for.
use Rattle.std.proofs.Common.{◌<◌, ◌*◌, arith}
use Rattle.residue_ring.proofs.BarrettBounds.{estimate_bounds, product_below}
use Rattle.residue_ring.proofs.ring.Ring.mul.Goals as goal

pub reduce-requires : goal.reduce-requires
reduce-requires c =
    let m = c.self.inside.modulus in
    let kept = c.self.invariant in
    let below : c.from.result * c.from-2.result < m * m = product_below m c.from.result c.from-2.result (omega arith) (omega arith) in
    estimate_bounds m kept.0 kept.1 c.self.inside.shift c.self.inside.reciprocal (c.from.result * c.from-2.result) kept.2 kept.3 below
