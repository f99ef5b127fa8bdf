-- The torus link of type (2, n) as the closure of a braid of two strands with n crossings, one above the
-- other. Between crossings i and i+1 run the edges 2i+1 and 2i+2, and the edges 1 and 2 close the braid.
-- (The numbering is this project's own.)
--
--     torus_crossing i      crossing i of those below the last: X[2i, 2i+2, 2i+1, 2i-1]
--     torus_items n         all n crossings, the last of them X[2n, 2, 1, 2n-1]
--
-- torus_items 3 is X[2,4,3,1], X[4,6,5,3], X[6,2,1,5]: a trefoil.
use Rattle.std.specs.Prelude.{ℕ, zero, suc, ◌+◌, ◌-◌, ◌*◌, List, [], ◌∷◌, ◌++◌}
use Rattle.pd_reader.specs.declared.item.Item.{Item}
use Rattle.pd_reader.specs.declared.item.Item.TheVariants as items

abbrev pub torus_crossing : ℕ → Item
torus_crossing i = items.X (2 * i ∷ (2 * i + 2) ∷ (2 * i + 1) ∷ (2 * i - 1) ∷ [])

-- the crossings 1 to k
abbrev pub torus_front : ℕ → List Item
torus_front zero = []
torus_front (suc k) = torus_front k ++ torus_crossing (suc k) ∷ []

abbrev pub torus_items : ℕ → List Item
torus_items n = torus_front (n - 1) ++ items.X (2 * n ∷ 2 ∷ 1 ∷ (2 * n - 1) ∷ []) ∷ []
