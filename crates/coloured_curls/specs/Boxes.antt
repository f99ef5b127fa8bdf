-- Boxes and words of crossings as nodes, by the names of their strands from left to right.
--
--     round n bottoms tops j         the names at the ends of a box of n strands, from the leftmost bottom round to the leftmost top
--     box_at group n f bottoms tops  the box
--     behind tops k left right       other names for the strands k and k+1
--     letter_nodes u t c             a word's crossings: the strand at place j has the name t j before the word, and each letter gives its two
--                                    strands new names, numbered on from c
--     names_behind u t c             the names of the strands behind the word
--     arcs_between f g i count       the pairs (f i, g i), (f (i+1), g (i+1)), .., so many
use Rattle.std.specs.Prelude.{ℕ, zero, suc, ◌+◌, ◌-◌, ◌==◌, nat_lt, if◌then◌else◌, List, [], ◌∷◌, map}
use Rattle.std.specs.List.{range_with_len}
use Rattle.state_sums.specs.LocalSums.{crossing}
use Rattle.state_sums.specs.Networks.{Node, Term}
use Rattle.strand_words.specs.Words.{Letter}

abbrev pub round : ℕ → (ℕ → ℕ) → (ℕ → ℕ) → ℕ → ℕ
round n bottoms tops j = if nat_lt j n then bottoms j else tops (n + n - 1 - j)

abbrev pub box_at : ℕ → ℕ → List Term → (ℕ → ℕ) → (ℕ → ℕ) → Node
box_at group n f bottoms tops = record { group = group; ends = map (round n bottoms tops) (range_with_len 0 (n + n)); terms = f }

abbrev pub behind : (ℕ → ℕ) → ℕ → ℕ → ℕ → ℕ → ℕ
behind tops k left right j = if j == k then left else (if j == k + 1 then right else tops j)

abbrev pub letter_nodes : List Letter → (ℕ → ℕ) → ℕ → List Node
letter_nodes [] t c = []
letter_nodes (l ∷ u) t c = crossing l.straight l.hook (t (l.at + 1)) (c + 1) c (t l.at) ∷ letter_nodes u (behind t l.at c (c + 1)) (c + 2)

abbrev pub names_behind : List Letter → (ℕ → ℕ) → ℕ → ℕ → ℕ
names_behind [] t c = t
names_behind (l ∷ u) t c = names_behind u (behind t l.at c (c + 1)) (c + 2)

abbrev pub arcs_between : (ℕ → ℕ) → (ℕ → ℕ) → ℕ → ℕ → List (ℕ × ℕ)
arcs_between f g i zero = []
arcs_between f g i (suc count) = (f i, g i) ∷ arcs_between f g (i + 1) count
