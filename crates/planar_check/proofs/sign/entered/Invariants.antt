use Rattle.std.proofs.Common.{◌≡◌, map, slice_index}
use Rattle.std.specs.BTreeMap.{get}
use Rattle.std.specs.List.{range_with_len}
use Rattle.std.specs.Ordering.{nat_cmp}
use Rattle.planar_check.specs.Tables.{is_same_walk}
use Rattle.planar_check.proofs.sign.entered.Given as goal

-- the places so far
abbrev pub invariant-loop-place : goal.invariant-loop-place
invariant-loop-place l = l.entered.items ≡ map (λ place. is_same_walk l.walks place (get nat_cmp l.firsts (slice_index l.leasts place))) (range_with_len 0 l.place)
