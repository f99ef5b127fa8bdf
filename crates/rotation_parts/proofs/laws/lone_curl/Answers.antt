use Rattle.rotation_parts.proofs.LoneCurls.{lone_curl}
use Rattle.rotation_parts.proofs.laws.lone_curl.Goals as goal

pub returns : goal.returns
returns c = lone_curl
