use Rattle.slide_laws.proofs.SlidDiagram.{slid_framed}
use Rattle.slide_laws.proofs.laws.slid_is_framed.Goals as goal

pub returns : goal.returns
returns c = slid_framed
