use Rattle.rotation_parts.proofs.Curls.{curl_counts}
use Rattle.rotation_parts.proofs.laws.curl_counts.Goals as goal

pub returns : goal.returns
returns c = curl_counts
