use Rattle.coloured_curls.proofs.AllUndos as laws
use Rattle.coloured_curls.proofs.laws.curl_undo.Goals as goal

pub returns : goal.returns
returns c = laws.curl_undo
