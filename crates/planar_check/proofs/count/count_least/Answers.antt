use Rattle.std.proofs.Common.{ℕ, ◌==◌, slice_index, eq-eqb, ne_eqb, arith}
use Rattle.planar_check.proofs.Counts.{counted_yes, counted_no}
use Rattle.planar_check.proofs.count.count_least.Goals as goal
use Rattle.planar_check.proofs.count.count_least.Goals.{then-least-name, else-least-name}

pub loop-name-preserved : goal.loop-name-preserved
loop-name-preserved c =
    let is_own = λ (x : ℕ). slice_index c.args.entries.now x == x in
    let n = c.loop-name.name in
    let before = c.loop-name.invariant in
    elim c.if-least-name.branch [
      | then-least-name w ↦ record {
        count = counted_yes is_own n _ _ before.count (eq-eqb (slice_index c.args.entries.now n) n w.if-least-name.true) w.count-is;
        few = omega (arith, w.count-is, before.few);
      }
      | else-least-name w ↦ record {
        count = counted_no is_own n _ _ before.count (ne_eqb (slice_index c.args.entries.now n) n w.if-least-name.false) w.count-is;
        few = omega (arith, w.count-is, before.few);
      }
    ]
