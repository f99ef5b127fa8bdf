use Rattle.std.proofs.Common.{◌≡◌, ℕ, length, slice_index, slice_set, sym, ap, ◌∙◌, arith}
use Rattle.std.proofs.Math.ListN.{length-set}
use Rattle.arc_pairing.proofs.Joins.{IsAt-closed, IsAt-open, IsAt-skipped}
use Rattle.arc_pairing.proofs.gluing.join_pairs.Goals as goal
use Rattle.arc_pairing.proofs.gluing.join_pairs.Goals.{then-i-j+then-c-b, then-i-j+else-c-b, else-i-j}

pub loop-i-preserved : goal.loop-i-preserved
loop-i-preserved c =
    let i = c.loop-i.i in
    let p = c.args.partner.now in
    let s = c.args.slots.now in
    let ms = c.loop-i.mates in
    let start : ℕ → ℕ = slice_index c.args.mates.now in
    let long : length c.if-i-j.mates ≡ 48 = c.if-i-j.array_long in
    elim c.if-i-j.branch [
      | then-i-j+then-c-b w ↦
          rw (w.mates-is, w.loops-is) (IsAt-closed start s p ms c.loop-i.loops i w.from-a.result (slice_index s c.from-j.result) (ap length (sym w.mates-is) ∙ long) c.loop-i.invariant w.from-a.ensures (ap (slice_index s) c.from-j.ensures) (omega (arith, c.from-j.ensures)) w.if-c-b.true)
      | then-i-j+else-c-b w ↦
          let a = w.from-a.result in
          let b = slice_index s c.from-j.result in
          let at_b : w.from-else-c-b-2.result ≡ slice_index ms b = w.from-else-c-b-2.ensures ∙ ap (slice_index ms) w.from.ensures in
          let more : slice_set (slice_set ms w.from-else-c-b.result (slice_index ms w.from.result)) w.from-else-c-b-2.result (slice_index ms a) ≡ slice_set (slice_set ms (slice_index ms a) (slice_index ms b)) (slice_index ms b) (slice_index ms a) =
          (let e = w.from-else-c-b.ensures in let f = w.from.ensures in let g = at_b in cc) in
          let is : c.if-i-j.mates ≡ slice_set (slice_set ms (slice_index ms a) (slice_index ms b)) (slice_index ms b) (slice_index ms a) = w.mates-is ∙ more in
          let whole : length ms ≡ 48 = sym (length-set (slice_set ms (slice_index ms a) (slice_index ms b)) (slice_index ms b) (slice_index ms a) ∙ length-set ms (slice_index ms a) (slice_index ms b)) ∙ ap length (sym is) ∙ long in
          rw (is, w.loops-is) (IsAt-open start s p ms c.loop-i.loops i a b whole c.loop-i.invariant w.from-a.ensures (ap (slice_index s) c.from-j.ensures) (omega (arith, c.from-j.ensures)) w.if-c-b.false)
      | else-i-j w ↦ rw (w.mates-is, w.loops-is) (IsAt-skipped start s p ms c.loop-i.loops i c.loop-i.invariant (omega (arith, c.from-j.ensures)))
    ]
