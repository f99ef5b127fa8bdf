-- Why a node was not glued to a table.
--
--     Explains m delta names node table reason      what the reason says of the open names, the node and the table
use Rattle.std.specs.Prelude.{◌≡◌, ℕ, ◌<◌, List, ◌++◌, ⊤}
use Rattle.state_sums.specs.Networks.{Node}
use Rattle.arc_pairing.specs.Gluing.{open_name_count}
use Rattle.frontier_sweep.specs.Steps.{OverflowsAt}
use Rattle.frontier_sweep.specs.declared.fault.NotGlued.{NotGlued}
use Rattle.frontier_sweep.specs.declared.fault.NotGlued.TheVariants.{Wide, Full, Memory}
use Rattle.arc_pairing.specs.declared.limits.TheConstants.{MOST_POINTS}

-- More than 24 names would be open, or an entry overflows the next table; want of memory explains itself.
abbrev pub Explains : ℕ → ℕ → List ℕ → Node → List (ℕ × ℕ) → NotGlued → Type 0
Explains m delta names node table (Wide ends) = (MOST_POINTS < open_name_count (names ++ node.ends)) × (ends ≡ open_name_count (names ++ node.ends))
Explains m delta names node table Full = OverflowsAt m delta names node table
Explains m delta names node table Memory = ⊤
