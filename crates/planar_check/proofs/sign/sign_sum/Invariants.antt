use Rattle.std.proofs.Common.{◌≡◌, ◌≤◌, ◌&&◌, not, count_by, take}
use Rattle.planar_check.specs.declared.sign.Signed.{Signed}
use Rattle.planar_check.specs.Signs.{is_between, is_plus}
use Rattle.planar_check.proofs.sign.sign_sum.Given as goal

-- the crossings of each sign so far
abbrev pub invariant-loop-crossing : goal.invariant-loop-crossing
invariant-loop-crossing l = record {
  plus : l.plus ≡ count_by (λ (s : Signed). is_between l.i l.j s && is_plus s.sign) (take l.crossing-index l.crossings);
  minus : l.minus ≡ count_by (λ (s : Signed). is_between l.i l.j s && not (is_plus s.sign)) (take l.crossing-index l.crossings);
  few_plus : l.plus ≤ l.crossing-index;
  few_minus : l.minus ≤ l.crossing-index;
}
