use Rattle.std.proofs.Common.{◌≡◌, ◌+◌, ◌-◌}
use Rattle.std.specs.List.{find, range_with_len}
use Rattle.planar_check.specs.Signs.{signed_crossings}
use Rattle.slide_laws.specs.Slides.{is_odd_above}
use Rattle.slide_band.proofs.refusals.odd_with.Given as goal

-- no component so far is one
abbrev pub invariant-loop-b : goal.invariant-loop-b
invariant-loop-b l =
    find (is_odd_above (signed_crossings l.planar) l.a) (range_with_len l.b (l.count + 1 - l.b)) ≡ find (is_odd_above (signed_crossings l.planar) l.a) (range_with_len 1 l.count)
