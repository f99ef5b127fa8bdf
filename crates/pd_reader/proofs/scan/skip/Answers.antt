use Rattle.std.proofs.Common.{sym, ◌∙◌}
use Rattle.text_shapes.proofs.Scans.{Spaces-more}
use Rattle.pd_reader.proofs.scan.skip.Goals as goal

pub loop-place-preserved : goal.loop-place-preserved
loop-place-preserved c = Spaces-more c.args.bytes.now c.args.at c.loop-place.place c.loop-place.invariant c.loop-place-test.true (sym c.is_white.ensures ∙ c.if-is_white.true)
