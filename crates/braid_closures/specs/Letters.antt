-- The entries of a braid as letters of the Temperley-Lieb algebra (Lickorish, ch. 13): a positive entry is A times the strands going
-- straight on plus A^-1 times the hook, a negative one the same with A and A^-1 exchanged. Places count from 0.
--
--     letter_of p e      the letter of an entry
use Rattle.std.specs.Prelude.{◌-◌, ℤ, pos, negsuc}
use Rattle.root_quantum.specs.Parameters.{Parameters}
use Rattle.root_quantum.specs.QuantumNumbers.{inverse_root}
use Rattle.strand_words.specs.Words.{Letter, over, under}

abbrev pub letter_of : Parameters → ℤ → Letter
letter_of p (pos n) = over p.root (inverse_root p) (n - 1)
letter_of p (negsuc n) = under p.root (inverse_root p) n
