-- Cabled crossings on one another are networks of steps, which spell the word of the grids.
use Rattle.std.proofs.Common.{◌≡◌, ℕ, zero, suc, ◌+◌, ◌*◌, List, [], ◌∷◌, ◌++◌, refl, ap, ap₂, ◌∙◌}
use Rattle.strand_words.specs.Boxes.{bottom, close_worth}
use Rattle.strand_words.specs.Grids.{crossed, grid}
use Rattle.strand_words.specs.Matings.{hooked, loop_worth}
use Rattle.strand_words.specs.Words.{top}
use Rattle.word_networks.specs.PlacedGrids.{Placed, steps_at, placed_steps, placed_nodes, placed_word, FitAll, passes, close_steps}
use Rattle.word_networks.specs.Spelling.{Spells}
use Rattle.word_networks.specs.Steps.{Step, letter, pass, join, names_after, step_nodes, step_sum}
use Rattle.word_networks.proofs.Grids.{grid_is, grid_spells, step_nodes-append, Spells-append}

-- THEY ARE NETWORKS OF STEPS
pub placed_are : (a b : ℕ) (name : ℕ → ℕ) (grids : List Placed) → FitAll a b name grids → step_nodes name (placed_steps a b grids) ≡ placed_nodes a b grids
placed_are a b name [] f = refl
placed_are a b name (g ∷ grids) f =
    step_nodes-append name (steps_at a b g) (placed_steps a b grids)
    ∙ ap₂ (λ ns ms. ns ++ ms) (grid_is (crossed a b g.is_over g.place).straight (crossed a b g.is_over g.place).hook g.v g.h name g.place 0 g.rows g.columns f.0)
    (placed_are a b (names_after name (steps_at a b g)) grids f.1)

-- WHICH SPELL THE WORD
pub placed_spell : (a b : ℕ) (grids : List Placed) → Spells (placed_word a b grids) (placed_steps a b grids)
placed_spell a b [] = tt
placed_spell a b (g ∷ grids) =
    Spells-append (grid a b g.is_over g.place g.rows g.columns) (placed_word a b grids) (steps_at a b g) (placed_steps a b grids) (grid_spells a b g.is_over g.v g.h g.place 0 g.rows g.columns) (placed_spell a b grids)

pub passes_spell : (new : ℕ → ℕ) (i count : ℕ) → Spells [] (passes new i count)
passes_spell new i zero = tt
passes_spell new i (suc count) = passes_spell new (i + 1) count

-- ---- sums of joined steps, and of closing steps
pub step_sum-append : (delta : ℕ) (s t : List Step) (worth : (ℕ → ℕ) → ℕ) (mate : ℕ → ℕ) → step_sum delta (s ++ t) worth mate ≡ step_sum delta s (step_sum delta t worth) mate
step_sum-append delta [] t worth mate = refl
step_sum-append delta (letter p q straight hook left right ∷ s) t worth mate =
    ap₂ (λ x y. straight * x + hook * (loop_worth delta p q mate * y)) (step_sum-append delta s t worth mate) (step_sum-append delta s t worth (hooked p q mate))
step_sum-append delta (pass p new ∷ s) t worth mate = step_sum-append delta s t worth mate
step_sum-append delta (join p q ∷ s) t worth mate = ap (λ y. loop_worth delta p q mate * y) (step_sum-append delta s t worth (hooked p q mate))

pub close_sum : (delta i count : ℕ) (worth : (ℕ → ℕ) → ℕ) (mate : ℕ → ℕ) → step_sum delta (close_steps i count) worth mate ≡ close_worth delta i count worth mate
close_sum delta i zero worth mate = refl
close_sum delta i (suc count) worth mate = ap (λ y. loop_worth delta (top i) (bottom i) mate * y) (close_sum delta (i + 1) count worth (hooked (top i) (bottom i) mate))
