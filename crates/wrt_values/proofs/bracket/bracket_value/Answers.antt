use Rattle.diagram_brackets.specs.Brackets.{bracket}
use Rattle.wrt_values.proofs.bracket.bracket_value.Goals as goal

pub returns : goal.returns
unfolding bracket
returns c = rw c.in_ok-network.ensures.network at c.network_value.ensures
