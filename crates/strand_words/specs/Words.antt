-- Words of crossings and hooks on strands side by side (Artin's braids, and Kauffman's states of them). The top of the strand
-- at place i is the point 2i; places count from 0. A letter stands at places i and i+1 and is a sum of two terms: a weight on
-- going straight on, and a weight on the hook, which joins the two strands and begins two new ones. A crossing and its inverse
-- are such letters, and so is a hook alone.
--
--     Letter                          a place, the weight of going straight on, and the weight of the hook
--     top i                           the point where the strand at place i ends
--     word_sum m delta word worth mate    over all choices of a term of each letter, the weights, times delta for each loop
--                                     that closes, times what the mating is worth that the mating turns into
--     SameWord m delta u v            modulo m the words have one sum, whatever each mating is worth, and behind each mating
--     over a b i, under a b i         the crossing at i and i+1, and its inverse
use Rattle.std.specs.Prelude.{◌≡◌, ℕ, ◌+◌, ◌*◌, ◌%◌, List, [], ◌∷◌, ◌++◌}
use Rattle.strand_words.specs.Matings.{IsMating, hooked, loop_worth}

-- A place, and the weights of the two terms.
pub record Letter : Type 0 where
  pub at : ℕ
  pub straight : ℕ
  pub hook : ℕ

-- Where the strand at place i ends.
abbrev pub top : ℕ → ℕ
top i = i + i

-- Over all choices of a term of each letter.
abbrev pub word_sum : ℕ → List Letter → ((ℕ → ℕ) → ℕ) → (ℕ → ℕ) → ℕ
word_sum delta [] worth mate = worth mate
word_sum delta (letter ∷ word) worth mate =
    letter.straight * word_sum delta word worth mate
    + letter.hook
    * (loop_worth delta (top letter.at) (top (letter.at + 1)) mate
    * word_sum delta word worth (hooked (top letter.at) (top (letter.at + 1)) mate))

-- The words have one sum, whatever each mating is worth, and behind each mating.
pub record SameWord (m delta : ℕ) (u v : List Letter) : Type 0 where
  pub at : (worth : (ℕ → ℕ) → ℕ) (mate : ℕ → ℕ) → IsMating mate → word_sum delta u worth mate % m ≡ word_sum delta v worth mate % m

-- A crossing: weight a straight on, weight b on the hook.
abbrev pub over : ℕ → ℕ → ℕ → Letter
over a b i = record { at = i; straight = a; hook = b }

-- Its inverse: the weights exchanged.
abbrev pub under : ℕ → ℕ → ℕ → Letter
under a b i = record { at = i; straight = b; hook = a }

-- A crossing's inverse.
abbrev pub inverted : Letter → Letter
inverted letter = record { at = letter.at; straight = letter.hook; hook = letter.straight }

-- The inverse_word, in the other order.
abbrev pub inverse : List Letter → List Letter
inverse [] = []
inverse (letter ∷ word) = inverse word ++ inverted letter ∷ []
