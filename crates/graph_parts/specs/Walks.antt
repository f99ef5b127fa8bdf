-- Walks along the edges of a graph: the meaning of "joined" that needs no rounds.
--
--     Joined edges x y     a walk along the edges, either way along each, leads from x to y
use Rattle.std.specs.Prelude.{ℕ, List}
use Rattle.std.specs.List.{Contains}

-- A walk leads from one name to the other.
pub data Joined (edges : List (ℕ × ℕ)) : ℕ → ℕ → Type 0 where
  along : {x y : ℕ} → Contains edges (x, y) → Joined edges x y
  stay : {x : ℕ} → Joined edges x x
  back : {x y : ℕ} → Joined edges x y → Joined edges y x
  on : {x y z : ℕ} → Joined edges x y → Joined edges y z → Joined edges x z
