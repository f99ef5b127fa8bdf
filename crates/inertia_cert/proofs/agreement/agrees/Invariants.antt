use Rattle.std.proofs.Common.{◌≡◌, ℕ, ◌<◌, ◌&&◌, ◌↔◌, true, IsTrue}
use Rattle.inertia_laws.specs.Range.{every}
use Rattle.inertia_cert.proofs.agreement.agrees.Given as goal

abbrev pub invariant-loop-row : goal.invariant-loop-row
invariant-loop-row g l = record {
  fit : every l.row (λ i. every l.size (λ j. g.W.Rule.fits l.wanted i j && g.M.Rule.fits l.made i j)) ≡ true;
  same : IsTrue l.same ↔ ((i : ℕ) → i < l.row → (j : ℕ) → j < l.size → g.M.Rule.gives l.made i j ≡ g.W.Rule.gives l.wanted i j);
}
