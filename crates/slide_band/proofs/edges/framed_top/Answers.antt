use Rattle.std.proofs.Common.{◌≡◌, to_z, of_z, unsigned_abs, ap, ◌∙◌, arith}
use Rattle.std.specs.Int.{w64}
use Rattle.std.proofs.lemmas.Int.{ints}
use Rattle.slide_band.proofs.Steps.{top_told}
use Rattle.slide_band.proofs.edges.framed_top.Goals as goal

pub returns : goal.returns
returns c =
    let a = c.args in
    let small = c.excess.ensures.small in
    let same : to_z w64 (of_z w64 c.excess.result) ≡ c.excess.result = omega (arith, ints, small) in
    top_told a.framed.now a.edges.along a.edges.over a.top c.unsigned_abs.result c.requires.component c.requires.top
    (c.unsigned_abs.ensures.value ∙ ap unsigned_abs (same ∙ c.excess.ensures.excess))
