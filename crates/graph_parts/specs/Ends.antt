-- The ends of edges.
--
--     EndsAre inside edges       both ends of each edge pass the test
--     AreAmong names edges       both ends of each edge are among the names
--     ends_of edges              the ends of the edges, in order
use Rattle.std.specs.Prelude.{◌≡◌, ℕ, ◌==◌, Bool, true, List, [], ◌∷◌}
use Rattle.std.specs.Set.{is_member}

-- Both ends of each edge pass the test.
abbrev pub EndsAre : (ℕ → Bool) → List (ℕ × ℕ) → Type 0
EndsAre inside [] = Unit {0}
EndsAre inside (edge ∷ edges) = (inside edge.0 ≡ true) × (inside edge.1 ≡ true) × EndsAre inside edges

-- Both ends of each edge are among the names.
abbrev pub AreAmong : List ℕ → List (ℕ × ℕ) → Type 0
AreAmong names edges = EndsAre (is_member ◌==◌ names) edges

-- The ends of the edges, in order.
abbrev pub ends_of : List (ℕ × ℕ) → List ℕ
ends_of [] = []
ends_of (edge ∷ edges) = edge.0 ∷ edge.1 ∷ ends_of edges
