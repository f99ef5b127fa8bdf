-- Edges between places of a list of names: the program joins places, the definitions join the names that stand there.
--
--     named names edges        the edges between the names at these places
--     AreWithin names edges    the edges' places are places of the list
--     placed start partners    a pairing of the places from `start` on, each pair from both of its places
use Rattle.std.specs.Prelude.{ℕ, ◌+◌, ◌<◌, List, map, length, slice_index}
use Rattle.std.specs.List.{All, zip, range_with_len}

-- The edges between the names that stand at these places.
abbrev pub named : List ℕ → List (ℕ × ℕ) → List (ℕ × ℕ)
named names edges = map (λ edge. (slice_index names edge.0, slice_index names edge.1)) edges

-- Each edge is between two places of the list.
abbrev pub AreWithin : List ℕ → List (ℕ × ℕ) → Type 0
AreWithin names edges = All (λ edge. (edge.0 < length names) × (edge.1 < length names)) edges

-- Place start + i with place start + partner of i, for each i.
abbrev pub placed : ℕ → List ℕ → List (ℕ × ℕ)
placed start partners = zip (range_with_len start (length partners)) (map (λ partner. start + partner) partners)
