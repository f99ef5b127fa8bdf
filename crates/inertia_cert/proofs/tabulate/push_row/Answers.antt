use Rattle.std.proofs.Common.{arith}
use Rattle.inertia_laws.proofs.FirstStep.{every-false}
use Rattle.inertia_cert.proofs.tabulate.push_row.Goals as goal

pub returns-in-None-clause-refused : goal.returns-in-None-clause-refused
returns-in-None-clause-refused g c = every-false c.args.size c.loop-column.column (g.R.Rule.fits c.args.rule.now c.args.row) (omega arith) c.in-None.ensures
