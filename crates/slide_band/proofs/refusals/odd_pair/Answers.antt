use Rattle.std.proofs.Common.{◌+◌, sym, ◌∙◌, arith}
use Rattle.std.specs.List.{range_with_len}
use Rattle.planar_check.specs.Signs.{signed_crossings}
use Rattle.slide_band.proofs.Early.{pair_next}
use Rattle.slide_band.proofs.refusals.odd_pair.Goals as goal

pub loop-a-preserved : goal.loop-a-preserved
loop-a-preserved c =
    sym (pair_next (signed_crossings c.args.planar.now) (range_with_len 1 c.components-count.result) c.loop-a.a (c.components-count.result + 1) (omega arith) c.in_default.ensures) ∙ c.loop-a.invariant
