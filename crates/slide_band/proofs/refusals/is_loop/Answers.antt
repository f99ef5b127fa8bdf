use Rattle.slide_band.proofs.Early.{loop_told}
use Rattle.slide_band.proofs.refusals.is_loop.Goals as goal

pub returns : goal.returns
returns c = loop_told c.args.planar.now c.args.label c.first_place.result c.is_none.result c.first_place.ensures.place c.is_none.ensures
