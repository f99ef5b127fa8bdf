-- Arcs: strands that go straight through (Kauffman and Lins), as nodes with one pair. A list of arcs joins names into classes. Each
-- class closes to one name, and where no other node has a name of it, it is a closed curve.
--
--     arcs_of pairs                       an arc for each pair of names
--     AreClassLabels pairs label          the label of a name is joined with it by the pairs, and joined names have one label
--     closed_classes label pairs names    how many labels of the pairs' ends none of the names has; of the pairs (1,2), (2,3) and
--                                         (4,4) with the names 3 and 5 it is 1: that of 4
use Rattle.std.specs.Prelude.{◌≡◌, ℕ, ◌==◌, not, List, [], ◌∷◌, map}
use Rattle.std.specs.List.{count_by}
use Rattle.std.specs.Set.{is_member, unique_keys}
use Rattle.graph_parts.specs.Ends.{ends_of}
use Rattle.graph_parts.specs.Walks.{Joined}
use Rattle.state_sums.specs.LocalSums.{arc}
use Rattle.state_sums.specs.Networks.{Node}

-- An arc for each pair.
abbrev pub arcs_of : List (ℕ × ℕ) → List Node
arcs_of [] = []
arcs_of (pair ∷ pairs) = arc pair.0 pair.1 ∷ arcs_of pairs

-- One label for each class of names that the pairs join, which is a name of the class.
pub record AreClassLabels (pairs : List (ℕ × ℕ)) (label : ℕ → ℕ) : Type 0 where
  pub joined : (x : ℕ) → Joined pairs x (label x)
  pub one : (x y : ℕ) → Joined pairs x y → label x ≡ label y

-- How many classes of the pairs' ends have none of the names.
abbrev pub closed_classes : (ℕ → ℕ) → List (ℕ × ℕ) → List ℕ → ℕ
closed_classes label pairs names = count_by (λ end. not (is_member ◌==◌ (map label names) end)) (unique_keys ◌==◌ (map label (ends_of pairs)))
