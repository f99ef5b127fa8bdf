-- Lists of colourings, as the program has them and as contracts see them.
--
--     lists list                 the colourings of a vector of vectors
--     longer_by colours list     the list with each of the colours behind it
use Rattle.std.specs.Prelude.{ℕ, List, [], ◌∷◌, ◌++◌, map, Vec}

abbrev pub lists : {A : Type 0} → List (Vec ℕ A) → List (List ℕ)
lists = map (λ list. list.items)

abbrev pub longer_by : List ℕ → List ℕ → List (List ℕ)
longer_by colours list = map (λ colour. list ++ colour ∷ []) colours
