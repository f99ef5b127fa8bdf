use Rattle.std.proofs.Common.{◌≡◌, ◌≤◌}
use Rattle.inertia_laws.specs.Certificates.{positives, negatives, zeros}
use Rattle.inertia_cert.specs.Eliminations.{diagonal_of}
use Rattle.inertia_cert.proofs.certificate.Certificate.counts.Given as goal

abbrev pub invariant-loop-row : goal.invariant-loop-row
invariant-loop-row l = record {
  positive : l.counts.positive ≡ positives l.row (diagonal_of l.self);
  negative : l.counts.negative ≡ negatives l.row (diagonal_of l.self);
  zero : l.counts.zero ≡ zeros l.row (diagonal_of l.self);
  few_positive : l.counts.positive ≤ l.row;
  few_negative : l.counts.negative ≤ l.row;
  few_zero : l.counts.zero ≤ l.row;
}
