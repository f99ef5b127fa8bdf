use Rattle.std.proofs.Common.{◌+◌, ◌-◌, List, ap, ◌∙◌, arith}
use Rattle.slide_strands.specs.declared.strand.Piece.{Piece}
use Rattle.slide_strands.specs.Doubling.{curled, curls}
use Rattle.slide_band.proofs.CurlSteps.{one_less}
use Rattle.slide_band.proofs.curling.curls.Goals as goal

pub loop-i-preserved : goal.loop-i-preserved
loop-i-preserved c = record {
  same =
      ap (λ (xs : List Piece). curls c.args.plus c.args.f c.args.j c.args.entered (c.args.count - (c.loop-i.i + 1)) (c.loop-i.next + 2) xs)
      (c.in_ok-made.ensures ∙ ap (λ (xs : List Piece). curled c.args.plus c.args.f c.args.j c.args.entered c.loop-i.next xs) c.deref.ensures.value)
      ∙ (one_less c.args.plus c.args.f c.args.j c.args.entered c.args.count c.loop-i.i c.loop-i.next c.loop-i.made.items (omega arith) ∙ c.loop-i.invariant.same);
  labels = omega arith;
}
