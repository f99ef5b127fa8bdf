-- The definitions, computed: modulus 41, A = 2 with the inverse 21, delta = 6.
use Rattle.std.proofs.Common.{◌≡◌, ℕ, ◌%◌, ◌==◌, true, false, cond, inl, inr, List, [], ◌∷◌, ◌++◌, refl}
use Rattle.state_sums.specs.LocalSums.{AreSkeinNumbers}
use Rattle.strand_words.specs.Grids.{crossed, grid}
use Rattle.strand_words.specs.Words.{Letter, word_sum, SameWord, over, under}
use Rattle.strand_words.proofs.WordLaws.{letter_third_move, bundle_second_move, bundle_third_move}

abbrev places : List Letter → List ℕ
places [] = []
places (letter ∷ u) = letter.at ∷ places u

-- two strands cross three: the places of the word, row by row
two_by_three : places (grid 2 21 true 0 2 3) ≡ 1 ∷ 2 ∷ 3 ∷ 0 ∷ 1 ∷ 2 ∷ []
two_by_three = refl

-- behind the mating that joins points 0 with 1 and 2 with 3, a crossing leaves it by weight 2, and makes it 0 with 2 and 1 with 3 by weight 21
abbrev upright : ℕ → ℕ
upright x = cond (x == 0) 1 (cond (x == 1) 0 (cond (x == 2) 3 2))

straight_on : word_sum 6 (over 2 21 0 ∷ []) (λ mate. cond (mate 0 == 1) 1 0) upright ≡ 2
straight_on = refl

hooked_over : word_sum 6 (over 2 21 0 ∷ []) (λ mate. cond (mate 0 == 2) 1 0) upright ≡ 21
hooked_over = refl

-- a crossing and its inverse: nothing
second : word_sum 6 (over 2 21 0 ∷ under 2 21 0 ∷ []) (λ mate. cond (mate 0 == 2) 1 0) upright % 41 ≡ 0
second = refl

second_straight : word_sum 6 (over 2 21 0 ∷ under 2 21 0 ∷ []) (λ mate. cond (mate 0 == 1) 1 0) upright % 41 ≡ 1
second_straight = refl

-- ---- the laws at these numbers
numbers : AreSkeinNumbers 41 2 21 6
numbers = record { inverse = refl; loop = refl }

-- the left strand lies above both others, of which the middle one lies below
one_above : SameWord 41 6 (crossed 2 21 true 0 ∷ crossed 2 21 true 1 ∷ crossed 2 21 false 0 ∷ []) (crossed 2 21 false 1 ∷ crossed 2 21 true 0 ∷ crossed 2 21 true 1 ∷ [])
one_above = letter_third_move 41 2 21 6 0 true true false numbers (inl refl)

-- two strands cross three, and back
pulled_apart : SameWord 41 6 (grid 2 21 true 0 2 3 ++ grid 2 21 false 0 3 2) []
pulled_apart = bundle_second_move 41 2 21 6 0 2 3 true numbers

-- bundles of one, two and three strands, of which the last lies below both others
last_below : SameWord 41 6 (grid 2 21 false 0 1 2 ++ (grid 2 21 true 2 1 3 ++ grid 2 21 true 0 2 3)) (grid 2 21 true 1 2 3 ++ (grid 2 21 true 0 1 3 ++ grid 2 21 false 3 1 2))
last_below = bundle_third_move 41 2 21 6 0 1 2 3 false true true numbers (inr refl)
