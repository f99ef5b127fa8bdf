-- The crossing of two bundles as a network, with the names of its inner edges (this project's cabled crossing), and as the steps
-- of a word. Rows and columns count from 0: row 0 is the southmost, column 0 the westmost. Node (i, j) has the ends v(i, j) in
-- the south, h(i, j+1) in the east, v(i+1, j) in the north and h(i, j) in the west. So v(0, j) and h(i, 0) are the names
-- before the crossing, in the word from left to right h(rows-1, 0) to h(0, 0) and v(0, 0) to v(0, columns-1), and those behind it
-- are v(rows, 0) to v(rows, columns-1) and h(rows-1, columns) to h(0, columns).
--
--     row_nodes x y v h i j count           the nodes (i, j), (i, j+1), .., so many, with weight x on going straight on
--     grid_nodes x y v h i rows columns     the nodes of rows from i on
--     row_steps, grid_steps                 the same as steps from a place on
--     FitsGrid                              the names before the crossing
--     FollowsGrid                           the names behind it
use Rattle.std.specs.Prelude.{◌≡◌, ◌≢◌, ◌⊎◌, ℕ, zero, suc, ◌+◌, ◌<◌, ◌≤◌, List, [], ◌∷◌, ◌++◌}
use Rattle.state_sums.specs.LocalSums.{crossing}
use Rattle.state_sums.specs.Networks.{Node}
use Rattle.strand_words.specs.Words.{top}
use Rattle.word_networks.specs.Steps.{Step, letter}

-- The nodes of a row, from column j on.
abbrev pub row_nodes : ℕ → ℕ → (ℕ → ℕ → ℕ) → (ℕ → ℕ → ℕ) → ℕ → ℕ → ℕ → List Node
row_nodes x y v h i j zero = []
row_nodes x y v h i j (suc count) = crossing x y (v i j) (h i (j + 1)) (v (i + 1) j) (h i j) ∷ row_nodes x y v h i (j + 1) count

-- Row by row, columns increasing.
abbrev pub grid_nodes : ℕ → ℕ → (ℕ → ℕ → ℕ) → (ℕ → ℕ → ℕ) → ℕ → ℕ → ℕ → List Node
grid_nodes x y v h i zero columns = []
grid_nodes x y v h i (suc rows) columns = row_nodes x y v h i 0 columns ++ grid_nodes x y v h (i + 1) rows columns

-- The row as steps, from a place on.
abbrev pub row_steps : ℕ → ℕ → (ℕ → ℕ → ℕ) → (ℕ → ℕ → ℕ) → ℕ → ℕ → ℕ → ℕ → List Step
row_steps x y v h place i j zero = []
row_steps x y v h place i j (suc count) = letter (top place) (top (place + 1)) x y (v (i + 1) j) (h i (j + 1)) ∷ row_steps x y v h (place + 1) i (j + 1) count

-- The grid as steps: row i begins at the rightmost of the strands that are left.
abbrev pub grid_steps : ℕ → ℕ → (ℕ → ℕ → ℕ) → (ℕ → ℕ → ℕ) → ℕ → ℕ → ℕ → ℕ → List Step
grid_steps x y v h place i zero columns = []
grid_steps x y v h place i (suc rows) columns = row_steps x y v h (place + rows) i 0 columns ++ grid_steps x y v h place (i + 1) rows columns

-- The names before the crossing: from left to right h(i+rows-1, 0) to h(i, 0), then v(i, 0) to v(i, columns-1).
pub record FitsGrid (name : ℕ → ℕ) (v h : ℕ → ℕ → ℕ) (place i rows columns : ℕ) : Type 0 where
  pub west : (k r : ℕ) → place ≤ k → k < place + rows → r + k + 1 ≡ i + place + rows → name (top k) ≡ h r 0
  pub south : (k c : ℕ) → place + rows ≤ k → k < place + rows + columns → c + place + rows ≡ k → name (top k) ≡ v i c

-- The names behind it: from left to right v(i+rows, 0) to v(i+rows, columns-1), then h(i+rows-1, columns) to h(i, columns); the
-- others are those before.
pub record FollowsGrid (name after : ℕ → ℕ) (v h : ℕ → ℕ → ℕ) (place i rows columns : ℕ) : Type 0 where
  pub north : (k c : ℕ) → place ≤ k → k < place + columns → c + place ≡ k → 0 < rows → after (top k) ≡ v (i + rows) c
  pub east : (k r : ℕ) → place + columns ≤ k → k < place + columns + rows → r + k + 1 ≡ i + place + columns + rows → 0 < columns → after (top k) ≡ h r columns
  pub others : (u : ℕ) → ((k : ℕ) → place ≤ k → k < place + rows + columns → u ≢ top k) → after u ≡ name u

-- The names of a grid's edges from row i on, where no two edges have one name.
pub record AreGridNames (v h : ℕ → ℕ → ℕ) (rows columns : ℕ) : Type 0 where
  pub vertical : (i j k l : ℕ) → 0 < i → i ≤ rows → j < columns → 0 < k → k ≤ rows → l < columns → v i j ≡ v k l → (i ≡ k) × (j ≡ l)
  pub horizontal : (i j k l : ℕ) → i < rows → 0 < j → j ≤ columns → k < rows → 0 < l → l ≤ columns → h i j ≡ h k l → (i ≡ k) × (j ≡ l)
  pub apart : (i j k l : ℕ) → 0 < i → i ≤ rows → j < columns → k < rows → 0 < l → l ≤ columns → v i j ≢ h k l

-- A name that the grid gives: v(i, j) with i from 1 to rows, or h(i, j) with j from 1 to columns.
abbrev pub IsGridName : (ℕ → ℕ → ℕ) → (ℕ → ℕ → ℕ) → ℕ → ℕ → ℕ → Type 0
IsGridName v h rows columns z =
    ((i : ℕ) × (j : ℕ) × (0 < i) × (i ≤ rows) × (j < columns) × (z ≡ v i j)) ⊎ ((i : ℕ) × (j : ℕ) × (i < rows) × (0 < j) × (j ≤ columns) × (z ≡ h i j))

-- The nodes of a column from row i on, each turned by a quarter: its first end is in the east, and the weights are exchanged.
abbrev pub turned_column : ℕ → ℕ → (ℕ → ℕ → ℕ) → (ℕ → ℕ → ℕ) → ℕ → ℕ → ℕ → List Node
turned_column x y v h i j zero = []
turned_column x y v h i j (suc count) = crossing y x (h i (j + 1)) (v (i + 1) j) (h i j) (v i j) ∷ turned_column x y v h (i + 1) j count

-- The grid read from the east: the last column is the first row.
abbrev pub turned_grid : ℕ → ℕ → (ℕ → ℕ → ℕ) → (ℕ → ℕ → ℕ) → ℕ → ℕ → List Node
turned_grid x y v h rows zero = []
turned_grid x y v h rows (suc columns) = turned_column x y v h 0 columns rows ++ turned_grid x y v h rows columns

-- The names of a grid read from the east: its vertical edges are the horizontal ones from the last column on, and its horizontal
-- edges the vertical ones.
pub record IsTurned (v h turned_v turned_h : ℕ → ℕ → ℕ) (rows columns : ℕ) : Type 0 where
  pub vertical : (i j c : ℕ) → i + c ≡ columns → j < rows → turned_v i j ≡ h j c
  pub horizontal : (i j c : ℕ) → i + c + 1 ≡ columns → j ≤ rows → turned_h i j ≡ v j c
