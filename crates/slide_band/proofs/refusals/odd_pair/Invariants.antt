use Rattle.std.proofs.Common.{◌≡◌, ◌+◌, ◌-◌}
use Rattle.std.specs.List.{range_with_len}
use Rattle.planar_check.specs.Signs.{signed_crossings}
use Rattle.slide_laws.specs.Slides.{odd_pair}
use Rattle.slide_band.proofs.refusals.odd_pair.Given as goal

-- no component so far has an odd sum with a later one
abbrev pub invariant-loop-a : goal.invariant-loop-a
invariant-loop-a l =
    odd_pair (signed_crossings l.planar) (range_with_len l.a (l.count + 1 - l.a)) (range_with_len 1 l.count)
    ≡ odd_pair (signed_crossings l.planar) (range_with_len 1 l.count) (range_with_len 1 l.count)
