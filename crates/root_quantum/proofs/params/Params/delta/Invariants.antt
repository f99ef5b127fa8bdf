-- `value` and `next` are `Delta_i` and `Delta_(i+1)`.
use Rattle.std.proofs.Common.{◌≡◌, ◌<◌, ◌+◌}
use Rattle.root_quantum.specs.QuantumNumbers.{delta}
use Rattle.root_quantum.proofs.params.Params.delta.Given as goal

abbrev pub invariant-loop : goal.invariant-loop
invariant-loop l = record {
  value_below : l.value < l.self.modulus;
  next_below : l.next < l.self.modulus;
  value_is : l.value ≡ delta l.self l.counter;
  next_is : l.next ≡ delta l.self (l.counter + 1);
}
