use Rattle.std.proofs.Common.{◌<◌, ◌∙◌, slice_index, arith}
use Rattle.std.proofs.Math.ListN.{length-set}
use Rattle.arc_pairing.proofs.SeamLists.{placed_more}
use Rattle.arc_pairing.proofs.seam.places_of.Goals as goal

pub loop-place-preserved : goal.loop-place-preserved
loop-place-preserved c =
    let i = c.loop-place.place in
    let slots = c.args.slots.now in
    let small : slice_index slots i < 48 = c.requires.small i (omega arith) in
    record {
      whole = length-set c.loop-place.places c.from.result i ∙ c.loop-place.invariant.whole;
      placed = placed_more c.loop-place.places slots i c.from.result c.from.ensures (omega (arith, small, c.from.ensures, c.loop-place.invariant.whole)) (omega arith) c.requires.apart c.loop-place.invariant.placed;
    }
