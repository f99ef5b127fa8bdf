-- The laws that carry words to networks.
use Rattle.std.specs.Prelude.{◌≡◌, ◌⊎◌, ℕ, ◌+◌, ◌*◌, ◌%◌, ◌^◌, ◌==◌, Bool, not, true, List, [], ◌∷◌, ◌++◌, map}
use Rattle.std.specs.List.{All, AllPass}
use Rattle.std.specs.Set.{is_member}
use Rattle.state_sums.specs.LocalSums.{pattern_sum, SameEverywhere}
use Rattle.strand_words.specs.Grids.{crossed, grid}
use Rattle.strand_words.specs.Words.{Letter, SameWord}
use Rattle.state_sums.specs.Networks.{Node, IsNode, names_of}
use Rattle.strand_words.specs.Boxes.{Weighted, box_sum, IsBox}
use Rattle.word_networks.specs.BoxNetworks.{AreTermsOn, AreBoxed, AreStepsBehind}
use Rattle.word_networks.specs.PlacedGrids.{Placed, placed_nodes, placed_steps, placed_word, FitAll, passes, close_steps}
use Rattle.state_sums.specs.LocalSums.{AreSkeinNumbers}
use Rattle.word_networks.specs.GridNetworks.{grid_nodes, grid_steps, FitsGrid, FollowsGrid, IsTurned}
use Rattle.word_networks.specs.Spelling.{Spells, AgreeOn}
use Rattle.word_networks.specs.Steps.{Step, names_after, points_after, step_nodes, step_sum, mate_worth, AreNamed, AreStepsFrom}

-- The sum of a network of steps over the patterns of its open names is the steps' sum over matings.
abbrev pub StepSumsLaw : Type 0
StepSumsLaw =
    (delta free : ℕ) (points : List ℕ) (name mate : ℕ → ℕ) (steps : List Step) (worth : List ℕ → ℕ) → AreNamed points name mate → AreStepsFrom points name steps →
    pattern_sum delta record { nodes = step_nodes name steps; free_loops = free } (map (names_after name steps) (points_after points steps)) worth
    ≡ step_sum delta steps (mate_worth delta free worth (names_after name steps) (points_after points steps)) mate

-- Steps that are alike in sums over matings, and end in the same points with the same names, are alike everywhere.
abbrev pub SameStepsLaw : Type 0
SameStepsLaw =
    (m delta free : ℕ) (points : List ℕ) (name mate : ℕ → ℕ) (steps others : List Step) → AreNamed points name mate →
    AreStepsFrom points name steps → AreStepsFrom points name others → points_after points steps ≡ points_after points others →
    AgreeOn (points_after points others) (names_after name steps) (names_after name others) →
    ((worth : (ℕ → ℕ) → ℕ) → step_sum delta steps worth mate % m ≡ step_sum delta others worth mate % m) →
    SameEverywhere m delta (map (names_after name others) (points_after points others)) record { nodes = step_nodes name steps; free_loops = free }
    record { nodes = step_nodes name others; free_loops = free }

-- Networks of words that are the same, between the same names, are the same everywhere, whatever the names within.
abbrev pub SameWordsLaw : Type 0
SameWordsLaw =
    (m delta free : ℕ) (points : List ℕ) (name mate : ℕ → ℕ) (u v : List Letter) (steps others : List Step) → SameWord m delta u v → Spells u steps → Spells v others →
    AreNamed points name mate → AreStepsFrom points name steps → AreStepsFrom points name others → AgreeOn points (names_after name steps) (names_after name others) →
    SameEverywhere m delta (map (names_after name others) points) record { nodes = step_nodes name steps; free_loops = free }
    record { nodes = step_nodes name others; free_loops = free }

-- A cabled crossing as a network is the crossing of bundles as steps, and leaves its outer names.
pub record IsGridOfSteps (x y : ℕ) (v h : ℕ → ℕ → ℕ) (name : ℕ → ℕ) (place rows columns : ℕ) : Type 0 where
  pub nodes : step_nodes name (grid_steps x y v h place 0 rows columns) ≡ grid_nodes x y v h 0 rows columns
  pub names : FollowsGrid name (names_after name (grid_steps x y v h place 0 rows columns)) v h place 0 rows columns

abbrev pub GridsOfStepsLaw : Type 0
GridsOfStepsLaw =
    (x y : ℕ) (v h : ℕ → ℕ → ℕ) (name : ℕ → ℕ) (place rows columns : ℕ) → FitsGrid name v h place 0 rows columns → IsGridOfSteps x y v h name place rows columns

-- The steps of a grid spell its word.
abbrev pub GridWordsLaw : Type 0
GridWordsLaw =
    (a b : ℕ) (is_over : Bool) (v h : ℕ → ℕ → ℕ) (place rows columns : ℕ) →
    Spells (grid a b is_over place rows columns) (grid_steps (crossed a b is_over place).straight (crossed a b is_over place).hook v h place 0 rows columns)

-- A cabled crossing read from the east is the same crossing with the weights exchanged, wherever it stands.
abbrev pub TurnedGridsLaw : Type 0
TurnedGridsLaw =
    (m delta free x y rows columns : ℕ) (v h turned_v turned_h : ℕ → ℕ → ℕ) (open_names : List ℕ) (front back : List Node) → IsTurned v h turned_v turned_h rows columns →
    All IsNode front → All IsNode back → AllPass (is_member ◌==◌ (names_of (front ++ (grid_nodes x y v h 0 rows columns ++ back)))) open_names →
    SameEverywhere m delta open_names record { nodes = front ++ (grid_nodes x y v h 0 rows columns ++ back); free_loops = free }
    record { nodes = front ++ (grid_nodes y x turned_v turned_h 0 columns rows ++ back); free_loops = free }

-- Cabled crossings on one another whose words are the same are the same everywhere, between the same names.
abbrev pub CabledWordsLaw : Type 0
CabledWordsLaw =
    (m a b delta free : ℕ) (points : List ℕ) (name mate : ℕ → ℕ) (old new : List Placed) → SameWord m delta (placed_word a b old) (placed_word a b new) →
    FitAll a b name old → FitAll a b name new → AreNamed points name mate → AreStepsFrom points name (placed_steps a b old) → AreStepsFrom points name (placed_steps a b new) →
    AgreeOn points (names_after name (placed_steps a b old)) (names_after name (placed_steps a b new)) →
    SameEverywhere m delta (map (names_after name (placed_steps a b new)) points) record { nodes = placed_nodes a b old; free_loops = free }
    record { nodes = placed_nodes a b new; free_loops = free }

-- The coloured third move: three cabled crossings of bundles of x, y and z strands, of which one lies above both others or below both.
abbrev pub CabledThirdMoveLaw : Type 0
CabledThirdMoveLaw =
    (m a b delta free x y z : ℕ) (s t u : Bool) (v1 h1 v2 h2 v3 h3 w1 k1 w2 k2 w3 k3 : ℕ → ℕ → ℕ) (points : List ℕ) (name mate : ℕ → ℕ) → AreSkeinNumbers m a b delta → (s ≡ t) ⊎ (t ≡ u) →
    let old : List Placed =
    record { is_over = s; v = v1; h = h1; place = 0; rows = x; columns = y } ∷ record { is_over = t; v = v2; h = h2; place = y; rows = x; columns = z } ∷ record { is_over = u; v = v3; h = h3; place = 0; rows = y; columns = z } ∷ [] in
    let new : List Placed =
    record { is_over = u; v = w1; h = k1; place = x; rows = y; columns = z } ∷ record { is_over = t; v = w2; h = k2; place = 0; rows = x; columns = z } ∷ record { is_over = s; v = w3; h = k3; place = z; rows = x; columns = y } ∷ [] in
    FitAll a b name old → FitAll a b name new → AreNamed points name mate → AreStepsFrom points name (placed_steps a b old) → AreStepsFrom points name (placed_steps a b new) →
    AgreeOn points (names_after name (placed_steps a b old)) (names_after name (placed_steps a b new)) →
    SameEverywhere m delta (map (names_after name (placed_steps a b new)) points) record { nodes = placed_nodes a b old; free_loops = free }
    record { nodes = placed_nodes a b new; free_loops = free }

-- The coloured second move: two cabled crossings of bundles of o and u strands, which cross and cross back, are arcs.
abbrev pub CabledSecondMoveLaw : Type 0
CabledSecondMoveLaw =
    (m a b delta free o u : ℕ) (s : Bool) (v1 h1 v2 h2 : ℕ → ℕ → ℕ) (new_name : ℕ → ℕ) (points : List ℕ) (name mate : ℕ → ℕ) → AreSkeinNumbers m a b delta →
    let old : List Placed = record { is_over = s; v = v1; h = h1; place = 0; rows = o; columns = u } ∷ record { is_over = not s; v = v2; h = h2; place = 0; rows = u; columns = o } ∷ [] in
    let arcs : List Step = passes new_name 0 (o + u) in
    FitAll a b name old → AreNamed points name mate → AreStepsFrom points name (placed_steps a b old) → AreStepsFrom points name arcs →
    AgreeOn points (names_after name (placed_steps a b old)) (names_after name arcs) →
    SameEverywhere m delta (map (names_after name arcs) points) record { nodes = placed_nodes a b old; free_loops = free } record { nodes = step_nodes name arcs; free_loops = free }

-- The sum over patterns of a box before steps is the box's sum of the steps' sums.
abbrev pub BoxStepsLaw : Type 0
BoxStepsLaw =
    (delta free : ℕ) (node : Node) (box : List Weighted) (inner points : List ℕ) (name : ℕ → ℕ) (steps : List Step) (worth : List ℕ → ℕ) →
    IsNode node → AreTermsOn node inner name node.terms box → All (λ one. AreBoxed inner points name one.mate) box → ((u : ℕ) → is_member ◌==◌ inner u ≡ true → is_member ◌==◌ points u ≡ true) →
    AreStepsBehind node inner points name steps →
    pattern_sum delta record { nodes = node ∷ step_nodes name steps; free_loops = free } (map (names_after name steps) (points_after points steps)) worth
    ≡ box_sum box (step_sum delta steps (mate_worth delta free worth (names_after name steps) (points_after points steps)))

-- The coloured curl: the cabled crossing of n+1 strands with themselves, closed on the left, beside a box that is killed by hooks, is
-- w^(n+1) x^(n (n+1)) times the box, whose ends have the names behind the curl. x is the weight of going straight on and w is -x^3.
abbrev pub CabledCurlLaw : Type 0
CabledCurlLaw =
    (m a b delta w free n : ℕ) (s : Bool) (v h : ℕ → ℕ → ℕ) (node other : Node) (box : List Weighted) (inner left points : List ℕ) (name : ℕ → ℕ) (worth : List ℕ → ℕ) → AreSkeinNumbers m a b delta →
    (w + (crossed a b s 0).straight * (crossed a b s 0).straight * (crossed a b s 0).straight) % m ≡ 0 % m → IsBox m delta 0 (n + 1) (n + 1) box →
    let curl : List Step = grid_steps (crossed a b s 0).straight (crossed a b s 0).hook v h 0 0 (n + 1) (n + 1) ++ close_steps 0 (n + 1) in
    let last : ℕ → ℕ = names_after name curl in
    IsNode node → AreTermsOn node inner name node.terms box → All (λ one. AreBoxed inner points name one.mate) box → ((u : ℕ) → is_member ◌==◌ inner u ≡ true → is_member ◌==◌ points u ≡ true) →
    AreStepsBehind node inner points name curl →
    IsNode other → AreTermsOn other left last other.terms box → All (λ one. AreBoxed left (points_after points curl) last one.mate) box → ((u : ℕ) → is_member ◌==◌ left u ≡ true → is_member ◌==◌ (points_after points curl) u ≡ true) →
    AreStepsBehind other left (points_after points curl) last [] →
    pattern_sum delta record { nodes = node ∷ step_nodes name curl; free_loops = free } (map last (points_after points curl)) worth % m
    ≡ (w ^ (n + 1) * (crossed a b s 0).straight ^ ((n + 1) * n) * pattern_sum delta record { nodes = other ∷ []; free_loops = free } (map last (points_after points curl)) worth) % m
