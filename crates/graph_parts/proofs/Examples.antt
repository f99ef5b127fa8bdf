-- The definitions, computed.
use Rattle.std.proofs.Common.{◌≡◌, [], ◌∷◌, refl}
use Rattle.graph_parts.specs.LeastNames.{least_name}
use Rattle.graph_parts.specs.Parts.{part, part_count}
use Rattle.graph_parts.specs.Patterns.{pattern, closed_parts}

path_and_pair : part_count (1 ∷ 2 ∷ 3 ∷ 4 ∷ 5 ∷ []) ((1, 2) ∷ (4, 3) ∷ []) ≡ 3
unfolding part_count part
path_and_pair = refl

-- a name that stands twice counts once, and an edge may go either way
repeated : part_count (1 ∷ 2 ∷ 3 ∷ 4 ∷ 4 ∷ []) ((1, 2) ∷ (3, 4) ∷ (2, 1) ∷ []) ≡ 2
unfolding part_count part
repeated = refl

no_name : part_count [] [] ≡ 0
unfolding part_count
no_name = refl

-- a path of seven names, walked from its far end
long_path : part (7 ∷ 1 ∷ 6 ∷ 2 ∷ 5 ∷ 3 ∷ 4 ∷ []) ((1, 2) ∷ (3, 2) ∷ (3, 4) ∷ (5, 4) ∷ (5, 6) ∷ (7, 6) ∷ []) 7 ≡ 7 ∷ 1 ∷ 6 ∷ 2 ∷ 5 ∷ 3 ∷ 4 ∷ []
unfolding part
long_path = refl

-- of the open names 1 2 3, the edge between 3 and 1 makes 1 the first fellow of 3
joined_pattern : pattern (1 ∷ 2 ∷ 3 ∷ []) ((3, 1) ∷ []) (1 ∷ 2 ∷ 3 ∷ []) ≡ 1 ∷ 2 ∷ 1 ∷ []
unfolding part
joined_pattern = refl

-- the parts 1 2, 3 and 4, of which the last has no open name
one_closed : closed_parts (1 ∷ 2 ∷ 3 ∷ 4 ∷ []) ((2, 1) ∷ []) (3 ∷ 1 ∷ 2 ∷ []) ≡ 1
unfolding part_count part
one_closed = refl

least_of_two : least_name (1 ∷ 2 ∷ 3 ∷ []) ((3, 2) ∷ []) 3 ≡ 2
unfolding least_name part
least_of_two = refl
