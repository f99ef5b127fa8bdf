use Rattle.rotation_parts.proofs.Exchange.{exchange_splits}
use Rattle.rotation_parts.proofs.laws.exchange_splits.Goals as goal

pub returns : goal.returns
returns c = exchange_splits
