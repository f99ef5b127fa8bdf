use Rattle.rotation_parts.proofs.Matches.{matched_graphs}
use Rattle.rotation_parts.proofs.laws.matched_graphs.Goals as goal

pub returns : goal.returns
returns c = matched_graphs
