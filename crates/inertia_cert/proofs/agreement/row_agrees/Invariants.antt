use Rattle.std.proofs.Common.{◌≡◌, ℕ, ◌<◌, ◌&&◌, ◌↔◌, true, IsTrue}
use Rattle.inertia_laws.specs.Range.{every}
use Rattle.inertia_cert.proofs.agreement.row_agrees.Given as goal

abbrev pub invariant-loop-column : goal.invariant-loop-column
invariant-loop-column g l = record {
  fit : every l.column (λ j. g.W.Rule.fits l.wanted l.row j && g.M.Rule.fits l.made l.row j) ≡ true;
  same : IsTrue l.same ↔ ((j : ℕ) → j < l.column → g.M.Rule.gives l.made l.row j ≡ g.W.Rule.gives l.wanted l.row j);
}
