use Rattle.inertia_cert.specs.SymmetricMatrices.{AllFit}
use Rattle.inertia_cert.proofs.tests.widened.Given as goal

abbrev pub invariant-loop-entry : goal.invariant-loop-entry
invariant-loop-entry l = AllFit l.wide.items
