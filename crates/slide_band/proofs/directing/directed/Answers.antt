use Rattle.std.proofs.Common.{◌∙◌, arith, []}
use Rattle.pd_reader.specs.declared.item.Item.TheVariants as items
use Rattle.slide_band.proofs.Crossed.{crossing_there, directed_done}
use Rattle.slide_band.proofs.directing.directed.Goals as goal

pub crossed-requires-clause-small : goal.crossed-requires-clause-small
crossed-requires-clause-small c =
    let h = crossing_there c.items-item-items.result.now c.diagram.result.now c.args.planar.now c.items-item-items.ensures.items c.diagram.ensures.diagram c.items-item-items.ensures.diagram c.loop-item.item-index c.loop-item.crossing (items.X []) c.in-X.slots c.loop-item-test.true c.in-X.is c.loop-item.invariant.counted in
    h.small

pub crossed-requires-clause-within : goal.crossed-requires-clause-within
crossed-requires-clause-within c =
    let h = crossing_there c.items-item-items.result.now c.diagram.result.now c.args.planar.now c.items-item-items.ensures.items c.diagram.ensures.diagram c.items-item-items.ensures.diagram c.loop-item.item-index c.loop-item.crossing (items.X []) c.in-X.slots c.loop-item-test.true c.in-X.is c.loop-item.invariant.counted in
    h.within

pub crossed-requires-clause-under : goal.crossed-requires-clause-under
crossed-requires-clause-under c =
    let h = crossing_there c.items-item-items.result.now c.diagram.result.now c.args.planar.now c.items-item-items.ensures.items c.diagram.ensures.diagram c.items-item-items.ensures.diagram c.loop-item.item-index c.loop-item.crossing (items.X []) c.in-X.slots c.loop-item-test.true c.in-X.is c.loop-item.invariant.counted in
    h.under

pub crossed-requires-clause-over : goal.crossed-requires-clause-over
crossed-requires-clause-over c =
    let h = crossing_there c.items-item-items.result.now c.diagram.result.now c.args.planar.now c.items-item-items.ensures.items c.diagram.ensures.diagram c.items-item-items.ensures.diagram c.loop-item.item-index c.loop-item.crossing (items.X []) c.in-X.slots c.loop-item-test.true c.in-X.is c.loop-item.invariant.counted in
    h.over

pub overflow_add-crossing : goal.overflow_add-crossing
overflow_add-crossing c =
    let h = crossing_there c.items-item-items.result.now c.diagram.result.now c.args.planar.now c.items-item-items.ensures.items c.diagram.ensures.diagram c.items-item-items.ensures.diagram c.loop-item.item-index c.loop-item.crossing (items.X []) c.in-X.slots c.loop-item-test.true c.in-X.is c.loop-item.invariant.counted in
    let l = h.small in
    omega (arith, l)

pub returns : goal.returns
returns c =
    directed_done c.items-item-items.result.now c.args.planar.now c.loop-item.crossing c.loop-item.item-index c.loop-item.pieces.items
    (c.items-item-items.ensures.items ∙ c.diagram.ensures.diagram) c.loop-item-test.false c.loop-item.invariant.same
