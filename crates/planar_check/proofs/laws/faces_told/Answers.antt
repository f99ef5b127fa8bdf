-- The law, as it is proved.
use Rattle.planar_check.proofs.FaceLaws.{faces_told}
use Rattle.planar_check.proofs.laws.faces_told.Goals as goal

pub returns : goal.returns
returns c = faces_told
