use Rattle.std.proofs.Common.{◌∙◌}
use Rattle.slide_band.proofs.Steps.{ends_long}
use Rattle.slide_band.proofs.result.against.Goals as goal

pub is_against-requires : goal.is_against-requires
is_against-requires c = ends_long c.args.planar.now c.args.pieces.now c.deref.result.now c.requires (c.deref.ensures.value ∙ c.in_ok-directions.ensures)
