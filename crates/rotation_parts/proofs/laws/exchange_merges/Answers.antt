use Rattle.rotation_parts.proofs.Exchange.{exchange_merges}
use Rattle.rotation_parts.proofs.laws.exchange_merges.Goals as goal

pub returns : goal.returns
returns c = exchange_merges
