-- Steps that spell a word: its letters in order, at the tops of the strands, with any new names between them.
--
--     Spells word steps               the steps' letters are the word's, and no two points are joined
--     AgreeOn points name other       the names of the points are one
use Rattle.std.specs.Prelude.{◌≡◌, ℕ, ◌+◌, ◌==◌, true, List, [], ◌∷◌}
use Rattle.std.specs.Set.{is_member}
use Rattle.strand_words.specs.Words.{Letter, top}
use Rattle.word_networks.specs.Steps.{Step, letter, pass, join}

-- The steps' letters are the word's.
abbrev pub Spells : List Letter → List Step → Type 0
Spells [] [] = Unit {0}
Spells [] (letter p q straight hook left right ∷ steps) = ⊥
Spells (first ∷ word) [] = ⊥
Spells (first ∷ word) (letter p q straight hook left right ∷ steps) =
    (p ≡ top first.at) × (q ≡ top (first.at + 1)) × (straight ≡ first.straight) × (hook ≡ first.hook) × Spells word steps
Spells word (pass p new ∷ steps) = Spells word steps
Spells word (join p q ∷ steps) = ⊥

-- The names of the points are one.
abbrev pub AgreeOn : List ℕ → (ℕ → ℕ) → (ℕ → ℕ) → Type 0
AgreeOn points name other = (u : ℕ) → is_member ◌==◌ points u ≡ true → name u ≡ other u
