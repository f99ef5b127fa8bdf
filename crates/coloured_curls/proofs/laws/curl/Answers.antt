use Rattle.coloured_curls.proofs.AllCurls as laws
use Rattle.coloured_curls.proofs.laws.curl.Goals as goal

pub returns : goal.returns
returns c = laws.curl
