-- The least name of a part, by which parts are told apart and counted: two names are joined exactly where the least names
-- of their parts are one, and there are as many parts as names that are the least of their part.
--
--     least_name names edges x     the least of x and its part; of the names 1 2 3 with the edge (3,2), 2 at 3
--
-- and, for names from 0 on, the working tool of the call that computes least names:
--
--     join_least label edge        the labels after one more edge, which gives the smaller label of its ends to both parts
--     least_label edges            the labels after these edges, where each name began with itself
use Rattle.std.specs.Prelude.{ℕ, ◌==◌, ◌||◌, if◌then◌else◌, List, min}
use Rattle.std.specs.List.{fold}
use Rattle.graph_parts.specs.Parts.{part}

-- The least of x and its part.
unfoldable pub least_name : List ℕ → List (ℕ × ℕ) → ℕ → ℕ
least_name names edges x = fold min x (part names edges x)

-- After an edge between a and b, what had a's or b's label has the smaller of both.
abbrev pub join_least : (ℕ → ℕ) → ℕ × ℕ → ℕ → ℕ
join_least label edge = let a = label edge.0 in let b = label edge.1 in λ x. if label x == a || label x == b then min a b else label x

abbrev pub least_label : List (ℕ × ℕ) → ℕ → ℕ
least_label edges = fold join_least (λ x. x) edges
