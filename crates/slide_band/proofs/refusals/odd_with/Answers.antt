use Rattle.std.proofs.Common.{◌+◌, sym, ◌∙◌}
use Rattle.planar_check.specs.Signs.{signed_crossings}
use Rattle.slide_laws.specs.Slides.{is_odd_above}
use Rattle.slide_band.proofs.Early.{find_next}
use Rattle.slide_band.proofs.refusals.odd_with.Goals as goal

pub loop-b-preserved : goal.loop-b-preserved
loop-b-preserved c =
    sym (find_next (is_odd_above (signed_crossings c.args.planar.now) c.args.a) c.loop-b.b (c.args.count + 1) c.loop-b-test.true (sym c.if-is_odd_above.ensures)) ∙ c.loop-b.invariant
