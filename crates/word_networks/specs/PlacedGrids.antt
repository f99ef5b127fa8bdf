-- Several cabled crossings on one another: each stands at a place of the strands.
--
--     Placed                        a cabled crossing, its names, and where it stands
--     placed_nodes, placed_steps, placed_word      its nodes, steps and word, and those of a list, in order
--     FitAll name grids             each crossing's names are those behind the ones before it
--     passes_of points new          an arc from the name of each point to a new name
--     close_steps i count           the top of each strand is joined with its bottom
use Rattle.std.specs.Prelude.{ℕ, zero, suc, ◌+◌, Bool, List, [], ◌∷◌, ◌++◌}
use Rattle.state_sums.specs.Networks.{Node}
use Rattle.strand_words.specs.Boxes.{bottom}
use Rattle.strand_words.specs.Grids.{crossed, grid}
use Rattle.strand_words.specs.Words.{Letter, top}
use Rattle.word_networks.specs.GridNetworks.{grid_nodes, grid_steps, FitsGrid}
use Rattle.word_networks.specs.Steps.{Step, pass, join, names_after}

-- A cabled crossing at a place: the bundle on the left has as many strands as rows, and lies above or below.
pub record Placed : Type 0 where
  pub is_over : Bool
  pub v : ℕ → ℕ → ℕ
  pub h : ℕ → ℕ → ℕ
  pub place : ℕ
  pub rows : ℕ
  pub columns : ℕ

abbrev pub steps_at : ℕ → ℕ → Placed → List Step
steps_at a b g = grid_steps (crossed a b g.is_over g.place).straight (crossed a b g.is_over g.place).hook g.v g.h g.place 0 g.rows g.columns

abbrev pub nodes_at : ℕ → ℕ → Placed → List Node
nodes_at a b g = grid_nodes (crossed a b g.is_over g.place).straight (crossed a b g.is_over g.place).hook g.v g.h 0 g.rows g.columns

abbrev pub placed_steps : ℕ → ℕ → List Placed → List Step
placed_steps a b [] = []
placed_steps a b (g ∷ grids) = steps_at a b g ++ placed_steps a b grids

abbrev pub placed_nodes : ℕ → ℕ → List Placed → List Node
placed_nodes a b [] = []
placed_nodes a b (g ∷ grids) = nodes_at a b g ++ placed_nodes a b grids

abbrev pub placed_word : ℕ → ℕ → List Placed → List Letter
placed_word a b [] = []
placed_word a b (g ∷ grids) = grid a b g.is_over g.place g.rows g.columns ++ placed_word a b grids

-- Each crossing's names are those behind the ones before it.
abbrev pub FitAll : ℕ → ℕ → (ℕ → ℕ) → List Placed → Type 0
FitAll a b name [] = Unit {0}
FitAll a b name (g ∷ grids) = FitsGrid name g.v g.h g.place 0 g.rows g.columns × FitAll a b (names_after name (steps_at a b g)) grids

-- An arc from each top to a new name.
abbrev pub passes : (ℕ → ℕ) → ℕ → ℕ → List Step
passes new i zero = []
passes new i (suc count) = pass (top i) (new i) ∷ passes new (i + 1) count

-- The top of each strand is joined with its bottom.
abbrev pub close_steps : ℕ → ℕ → List Step
close_steps i zero = []
close_steps i (suc count) = join (top i) (bottom i) ∷ close_steps (i + 1) count
