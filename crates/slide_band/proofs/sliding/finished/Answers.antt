use Rattle.std.proofs.Common.{◌≡◌, ◌-◌, List, ℤ, set, to_z, of_z, ap, subst, sym, ◌∙◌, arith}
use Rattle.std.specs.Int.{w64}
use Rattle.std.proofs.lemmas.Int.{ints}
use Rattle.planar_check.specs.Components.{least_labels}
use Rattle.planar_check.specs.Framings.{IsFramed}
use Rattle.slide_band.proofs.Late.{framed_fits}
use Rattle.slide_band.proofs.sliding.finished.Goals as goal

pub framed_with-requires : goal.framed_with-requires
framed_with-requires c =
    let fits = c.ranges.framing.sfits in
    let value : to_z w64 (of_z w64 c.args.framing) ≡ c.args.framing = omega (arith, ints, fits) in
    let framings = c.deref.ensures.value ∙ (c.in_ok-framings.ensures ∙ ap (set c.args.framed.now.framings (c.args.moved - 1)) value) in
    let same = ap least_labels c.in_ok-planar.ensures.made ∙ c.requires.leasts in
    subst (λ (fs : List ℤ). IsFramed (record { items = c.in_ok-planar.planar; framings = fs })) (sym framings)
    (framed_fits c.args.framed.now c.in_ok-planar.planar c.args.moved c.args.framing c.planar.ensures.framed same c.requires.first c.requires.last c.requires.small)
