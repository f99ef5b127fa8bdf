use Rattle.std.proofs.Common.{◌≡◌, ◌≤◌, map, vec_len}
use Rattle.std.specs.List.{range_with_len}
use Rattle.planar_check.specs.Tables.{signed_from}
use Rattle.planar_check.proofs.sign.signed_crossings.Given as goal

-- the crossings so far
abbrev pub invariant-loop-crossing : goal.invariant-loop-crossing
invariant-loop-crossing l = record {
  are : l.crossings.items ≡ map (signed_from l.entered l.leasts l.all) (range_with_len 0 l.crossing);
  few : vec_len l.crossings ≤ l.crossing;
}
