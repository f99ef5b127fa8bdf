use Rattle.std.proofs.Common.{◌≡◌, ◌++◌, true}
use Rattle.inertia_laws.specs.Range.{every}
use Rattle.inertia_cert.specs.Grids.{values, listed}
use Rattle.inertia_cert.proofs.tabulate.push_row.Given as goal

abbrev pub invariant-loop-column : goal.invariant-loop-column
invariant-loop-column g l = record {
  made : values l.entries.items ≡ values l.initial.entries.items ++ listed l.column (g.R.Rule.gives l.rule l.row);
  fit : every l.column (g.R.Rule.fits l.rule l.row) ≡ true;
}
