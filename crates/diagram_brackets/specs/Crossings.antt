-- The node of a crossing (Lickorish, ch. 13; slots as in KnotTheory's X[a,b,c,d]: under from a to c, over d and b,
-- counterclockwise from a).
--
--     c                 c                       c
--     |             d --'                       '-- b
-- d ----- b   =  A      .-- b      +  A^-1  d --.
--     |                 a                       a
--     a
--
--     joins_ab_cd, joins_ad_bc           the two smoothings as pairings of the slots 0 to 3
--     crossing_node p group ends         A where ab and cd are joined, its inverse where ad and bc are
use Rattle.std.specs.Prelude.{ℕ, List, [], ◌∷◌}
use Rattle.state_sums.specs.Networks.{Node}
use Rattle.root_quantum.specs.Parameters.{Parameters}
use Rattle.root_quantum.specs.QuantumNumbers.{inverse_root}

-- The smoothing with arcs ab and cd.
abbrev pub joins_ab_cd : List ℕ
joins_ab_cd = 1 ∷ 0 ∷ 3 ∷ 2 ∷ []

-- The smoothing with arcs ad and bc.
abbrev pub joins_ad_bc : List ℕ
joins_ad_bc = 3 ∷ 2 ∷ 1 ∷ 0 ∷ []

-- The node of a crossing whose slots a, b, c, d have these four names, in this order.
abbrev pub crossing_node : Parameters → ℕ → List ℕ → Node
crossing_node p group ends =
    record {
      group = group;
      ends = ends;
      terms = record { weight = p.root; partner = joins_ab_cd } ∷ record { weight = inverse_root p; partner = joins_ad_bc } ∷ [];
    }
