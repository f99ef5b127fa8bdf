use Rattle.std.proofs.Common.{◌≡◌, true}
use Rattle.inertia_laws.specs.Range.{every}
use Rattle.inertia_cert.specs.Grids.{values, tabulated}
use Rattle.inertia_cert.proofs.tabulate.tabulate.Given as goal

abbrev pub invariant-loop-row : goal.invariant-loop-row
invariant-loop-row g l = record {
  made : values l.entries.items ≡ tabulated l.size l.row (g.R.Rule.gives l.rule);
  fit : every l.row (λ a. every l.size (g.R.Rule.fits l.rule a)) ≡ true;
}
