use Rattle.box_laws.proofs.ProjectorCurls.{projector_curl}
use Rattle.box_laws.proofs.laws.projector_curl.Goals as goal

pub returns : goal.returns
returns c = projector_curl
