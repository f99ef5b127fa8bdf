-- Bundles of strands that cross: o strands on the left go over, or under, u strands on the right, and change places with them.
-- The word goes row by row: the rightmost of the o strands first crosses all of the u strands, then the next one.
--
--     crossed a b is_over i              a crossing at place i; the strand that goes from left to right lies above, or below
--     row a b is_over i count            the strand at place i crosses so many strands to its right
--     grid a b is_over i rows columns    the strands from place i on, as many as rows, cross as many as columns to their right
--     raised k word                      the word k places further right
use Rattle.std.specs.Prelude.{ℕ, zero, suc, ◌+◌, Bool, if◌then◌else◌, List, [], ◌∷◌, ◌++◌}
use Rattle.strand_words.specs.Words.{Letter}

-- A crossing, in which the strand from left to right lies above, or below.
abbrev pub crossed : ℕ → ℕ → Bool → ℕ → Letter
crossed a b is_over i = record { at = i; straight = if is_over then a else b; hook = if is_over then b else a }

-- One strand crosses those to its right.
abbrev pub row : ℕ → ℕ → Bool → ℕ → ℕ → List Letter
row a b is_over i zero = []
row a b is_over i (suc count) = crossed a b is_over i ∷ row a b is_over (i + 1) count

-- A bundle crosses the bundle to its right.
abbrev pub grid : ℕ → ℕ → Bool → ℕ → ℕ → ℕ → List Letter
grid a b is_over i zero columns = []
grid a b is_over i (suc rows) columns = row a b is_over (i + rows) columns ++ grid a b is_over i rows columns

-- Each letter k places further right.
abbrev pub raised : ℕ → List Letter → List Letter
raised k [] = []
raised k (letter ∷ word) = record { at = letter.at + k; straight = letter.straight; hook = letter.hook } ∷ raised k word
