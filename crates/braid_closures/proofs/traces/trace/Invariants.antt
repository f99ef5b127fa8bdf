use Rattle.std.proofs.Common.{◌≡◌, ◌<◌, All, drop, map}
use Rattle.box_laws.specs.Traces.{word_on}
use Rattle.root_quantum.specs.QuantumNumbers.{loop_value}
use Rattle.strand_algebra.specs.Elements.{identity}
use Rattle.braid_closures.specs.Letters.{letter_of}
use Rattle.braid_closures.proofs.traces.trace.Given as goal

-- the letters left, on the product so far, are all letters on straight strands
abbrev pub invariant-loop-entry : goal.invariant-loop-entry
invariant-loop-entry l = record {
  product : word_on l.params.modulus (loop_value l.params) l.n l.product.terms (map (letter_of l.params) (drop l.entry-index l.word))
      ≡ word_on l.params.modulus (loop_value l.params) l.n (identity l.params.modulus l.n) (map (letter_of l.params) l.word);
  strands : l.product.strands ≡ l.n;
  below : All (λ term. term.weight < l.params.modulus) l.product.terms;
}
