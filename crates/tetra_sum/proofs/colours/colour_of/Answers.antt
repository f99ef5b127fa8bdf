use Rattle.std.proofs.Common.{◌∙◌}
use Rattle.tetra_sum.proofs.Cuts.{passed}
use Rattle.tetra_sum.proofs.colours.colour_of.Goals as goal

pub loop-i-preserved : goal.loop-i-preserved
loop-i-preserved c = c.loop-i.invariant ∙ passed c.args.labels.now c.args.colours.now c.loop-i.i c.args.label c.loop-i-test.true c.if-labels-i.false
