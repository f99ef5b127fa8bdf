-- One name for each part.
--
--     AreRepresentatives edges names chosen     the chosen names are of the names, no two of them are joined, and each
--                                               name is joined with one of them
use Rattle.std.specs.Prelude.{ℕ, List}
use Rattle.std.specs.List.{All, AllPairs, Any, Contains}
use Rattle.graph_parts.specs.Walks.{Joined}

pub record AreRepresentatives (edges : List (ℕ × ℕ)) (names chosen : List ℕ) : Type 0 where
  pub are_names : All (Contains names) chosen
  pub are_apart : AllPairs (λ x y. Joined edges x y → ⊥) chosen
  pub reach_all : All (λ x. Any (λ y. Joined edges x y) chosen) names
