-- Strands side by side, standing: the names before a word.
--
--     strand_of u                the place of the strand that has the point u as its top or its bottom
--     standing u                 the other point of that strand
--     strand_points i count      the tops and bottoms of so many strands from place i on
use Rattle.std.specs.Prelude.{ℕ, zero, suc, ◌+◌, List, [], ◌∷◌}
use Rattle.strand_words.specs.Boxes.{bottom}
use Rattle.strand_words.specs.Words.{top}

-- The place of the point's strand.
abbrev pub strand_of : ℕ → ℕ
strand_of zero = 0
strand_of (suc zero) = 0
strand_of (suc (suc u)) = suc (strand_of u)

-- The other point of the strand.
abbrev pub standing : ℕ → ℕ
standing zero = 1
standing (suc zero) = 0
standing (suc (suc u)) = suc (suc (standing u))

-- The tops and bottoms.
abbrev pub strand_points : ℕ → ℕ → List ℕ
strand_points i zero = []
strand_points i (suc count) = top i ∷ bottom i ∷ strand_points (i + 1) count
