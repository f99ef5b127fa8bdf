-- The trace of a word in the Temperley-Lieb algebra (Lickorish, ch. 13): the letters' elements on one another, from the first letter
-- upward, and closed.
--
--     letter_element m n letter       the weight of going straight on times the identity, plus the other weight times the hook
--     word_on m delta n x word        the word's elements on x, from the first letter upward
--     AreOn n word                    each letter stands on two of n strands
--     word_trace m delta n word       the closure of the word on straight strands
use Rattle.std.specs.Prelude.{ℕ, ◌+◌, ◌<◌, List, [], ◌∷◌}
use Rattle.strand_words.specs.Words.{Letter}
use Rattle.state_sums.specs.Networks.{Term}
use Rattle.strand_algebra.specs.Elements.{identity, hook, add, scaled, multiply, close}

abbrev pub letter_element : ℕ → ℕ → Letter → List Term
letter_element m n letter = add m n (scaled m n letter.straight (identity m n)) (scaled m n letter.hook (hook m n (letter.at + 1)))

abbrev pub word_on : ℕ → ℕ → ℕ → List Term → List Letter → List Term
word_on m delta n x [] = x
word_on m delta n x (letter ∷ word) = word_on m delta n (multiply m delta n (letter_element m n letter) x) word

abbrev pub word_trace : ℕ → ℕ → ℕ → List Letter → ℕ
word_trace m delta n word = close m delta n (word_on m delta n (identity m n) word)

-- Each letter stands on two of the n strands.
abbrev pub AreOn : ℕ → List Letter → Type 0
AreOn n [] = Unit {0}
AreOn n (letter ∷ word) = (letter.at + 1 < n) × AreOn n word
