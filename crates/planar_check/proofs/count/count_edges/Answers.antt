use Rattle.std.proofs.Common.{ℕ, ltb, slice_index, arith}
use Rattle.std.proofs.lemmas.Bool.{lt-ltb, le-ltb}
use Rattle.planar_check.proofs.Counts.{counted_yes, counted_no}
use Rattle.planar_check.proofs.count.count_edges.Goals as goal
use Rattle.planar_check.proofs.count.count_edges.Goals.{then-place-other, else-place-other}

pub loop-place-preserved : goal.loop-place-preserved
loop-place-preserved c =
    let is_first = λ (p : ℕ). ltb p (slice_index c.args.others.now p) in
    let p = c.loop-place.place in
    let before = c.loop-place.invariant in
    elim c.if-place-other.branch [
      | then-place-other w ↦ record {
        count = counted_yes is_first p _ _ before.count (lt-ltb p (slice_index c.args.others.now p) w.if-place-other.true) w.count-is;
        few = omega (arith, w.count-is, before.few);
      }
      | else-place-other w ↦ record {
        count = counted_no is_first p _ _ before.count (le-ltb p (slice_index c.args.others.now p) w.if-place-other.false) w.count-is;
        few = omega (arith, w.count-is, before.few);
      }
    ]
