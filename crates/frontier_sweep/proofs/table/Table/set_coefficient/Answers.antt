use Rattle.frontier_sweep.proofs.CodedLemmas.{coded_set}
use Rattle.frontier_sweep.proofs.table.Table.set_coefficient.Goals as goal

pub invariant_of-self : goal.invariant_of-self
invariant_of-self c = coded_set c.self.inside.entries.entries c.self.inside.pairings.items c.args.at c.args.coefficient c.self.invariant
