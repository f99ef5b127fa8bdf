-- The sum over the states of the nodes that are left, behind edges that are chosen: what the recursion over the nodes gives.
--
--     sum_behind delta names free nodes edges           that sum
--     term_behind delta names free nodes edges term     what a term of the first node adds to it
use Rattle.std.specs.Prelude.{ℕ, ◌+◌, ◌*◌, ◌^◌, List, [], ◌∷◌, ◌++◌}
use Rattle.std.specs.List.{sum_by}
use Rattle.graph_parts.specs.Parts.{part_count}
use Rattle.state_sums.specs.Networks.{Node, Term}
use Rattle.state_sums.specs.StateSums.{term_edges}

-- The sum over the states of the nodes, behind the edges.
abbrev pub sum_behind : ℕ → List ℕ → ℕ → List Node → List (ℕ × ℕ) → ℕ
sum_behind delta names free [] edges = delta ^ (part_count names edges + free)
sum_behind delta names free (node ∷ nodes) edges =
    sum_by (λ term. term.weight * sum_behind delta names free nodes (edges ++ term_edges node term)) node.terms

-- What a term of the first node adds to it.
abbrev pub term_behind : ℕ → List ℕ → ℕ → List Node → List (ℕ × ℕ) → Term → ℕ
term_behind delta names free [] edges term = 0
term_behind delta names free (node ∷ nodes) edges term = term.weight * sum_behind delta names free nodes (edges ++ term_edges node term)
