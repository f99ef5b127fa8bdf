use Rattle.std.proofs.Common.{◌≡◌, map, take}
use Rattle.planar_check.specs.Components.{least_labels}
use Rattle.slide_laws.specs.Slides.{is_against}
use Rattle.slide_band.proofs.result.against.Given as goal

-- the components so far
abbrev pub invariant-loop-index : goal.invariant-loop-index
invariant-loop-index l = l.against.items ≡ map (is_against l.pieces) (take l.index (least_labels l.before))
