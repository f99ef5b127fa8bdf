use Rattle.box_laws.proofs.CurlFactors.{curl_factor}
use Rattle.box_laws.proofs.laws.curl_factor.Goals as goal

pub returns : goal.returns
returns c = curl_factor
