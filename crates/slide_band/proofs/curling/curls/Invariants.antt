-- The curls that are left, on what is made so far, are all curls.
use Rattle.std.proofs.Common.{◌≡◌, ◌+◌, ◌-◌, ◌*◌}
use Rattle.slide_strands.specs.Doubling.{curls}
use Rattle.slide_band.proofs.curling.curls.Given as goal

abbrev pub invariant-loop-i : goal.invariant-loop-i
invariant-loop-i l = record {
  same : curls l.plus l.f l.j l.entered (l.count - l.i) l.next l.made.items ≡ curls l.plus l.f l.j l.entered l.count l.n l.fn.pieces.items;
  labels : l.next ≡ l.n + 2 * l.i;
}
