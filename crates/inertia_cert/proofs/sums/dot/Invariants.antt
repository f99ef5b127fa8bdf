use Rattle.std.proofs.Common.{◌≡◌, true, pred}
use Rattle.inertia_laws.specs.Fractions.{times}
use Rattle.inertia_laws.specs.Range.{every, multiply_fits}
use Rattle.inertia_laws.specs.Checking.{summed, sum_fits}
use Rattle.inertia_cert.specs.Values.{value}
use Rattle.inertia_cert.proofs.sums.dot.Given as goal

-- the sum so far
abbrev pub invariant-loop-place : goal.invariant-loop-place
invariant-loop-place g l = record {
  sum : value l.sum ≡ summed (pred l.place) (λ k. times (g.L.Line.gives l.left k) (g.R.Line.gives l.right k));
  fit : every l.place (λ k. multiply_fits (g.L.Line.gives l.left k) (g.R.Line.gives l.right k)) ≡ true;
  sums_fit : sum_fits (pred l.place) (λ k. times (g.L.Line.gives l.left k) (g.R.Line.gives l.right k)) ≡ true;
}
