-- The laws of networks of steps and words: what holds of sums over matings holds of the networks, by the sum over their states.
use Rattle.std.proofs.Common.{◌≡◌, ℕ, ◌+◌, ◌*◌, ◌^◌, ◌%◌, ◌==◌, List, [], ◌∷◌, ◌++◌, refl, sym, ap, ap₂, ◌∙◌, arith, map, subst, append-nil, not}
use Rattle.std.specs.Set.{is_member}
use Rattle.graph_parts.proofs.Ends.{is_member-itself}
use Rattle.graph_parts.proofs.Renaming.{map_agree_on}
use Rattle.state_sums.specs.LocalSums.{pattern_sum, SameEverywhere}
use Rattle.state_sums.proofs.Coefficients.{SameEverywhere-from_worth}
use Rattle.strand_words.specs.Matings.{hooked, loop_worth}
use Rattle.strand_words.specs.Words.{Letter, SameWord, word_sum, top}
use Rattle.word_networks.specs.Laws.{StepSumsLaw, SameStepsLaw, SameWordsLaw, GridsOfStepsLaw, GridWordsLaw, TurnedGridsLaw, CabledWordsLaw, CabledThirdMoveLaw, CabledSecondMoveLaw, BoxStepsLaw, CabledCurlLaw}
use Rattle.word_networks.specs.Spelling.{Spells}
use Rattle.word_networks.specs.Steps.{Step, letter, pass, join, names_after, points_after, step_nodes, step_sum, mate_pattern, mate_worth}
use Rattle.strand_words.specs.Boxes.{Weighted, box_sum, close_worth}
use Rattle.strand_words.specs.Grids.{crossed, grid}
use Rattle.strand_words.proofs.Bundles.{bundle_second, bundle_third}
use Rattle.strand_words.proofs.Rewriting
use Rattle.strand_words.proofs.WordLaws.{box_curl}
use Rattle.word_networks.specs.PlacedGrids.{Placed, placed_nodes, placed_steps, placed_word, passes, close_steps}
use Rattle.word_networks.proofs.BoxNetworks.{box_pattern_sum}
use Rattle.word_networks.proofs.PlacedGrids.{placed_are, placed_spell, passes_spell, step_sum-append, close_sum}
use Rattle.word_networks.specs.GridNetworks.{grid_nodes, grid_steps}
use Rattle.word_networks.proofs.Grids.{grid_is, grid_follows, grid_spells}
use Rattle.word_networks.proofs.TurnedGrids.{grid_alike, grid_is_turned}
use Rattle.word_networks.proofs.StepNetworks.{step_pattern_sum, pattern_agree}

-- THE SUM OVER THE STATES OF A NETWORK OF STEPS
pub step_sums : StepSumsLaw
step_sums delta free points name mate steps worth are from = step_pattern_sum points name mate steps are from delta free worth

-- sums of steps where worths are one
step_sum-worth : (delta : ℕ) (steps : List Step) (f g : (ℕ → ℕ) → ℕ) → ((mate : ℕ → ℕ) → f mate ≡ g mate) → (mate : ℕ → ℕ) → step_sum delta steps f mate ≡ step_sum delta steps g mate
step_sum-worth delta [] f g h mate = h mate
step_sum-worth delta (letter p q straight hook left right ∷ steps) f g h mate =
    ap₂ (λ x y. straight * x + hook * (loop_worth delta p q mate * y)) (step_sum-worth delta steps f g h mate) (step_sum-worth delta steps f g h (hooked p q mate))
step_sum-worth delta (pass p new ∷ steps) f g h mate = step_sum-worth delta steps f g h mate
step_sum-worth delta (join p q ∷ steps) f g h mate = ap (λ y. loop_worth delta p q mate * y) (step_sum-worth delta steps f g h (hooked p q mate))

-- STEPS THAT ARE ALIKE ARE ALIKE EVERYWHERE
pub same_steps : SameStepsLaw
same_steps m delta free points name mate steps others are from to left agree same =
    let open_names = map (names_after name others) (points_after points others) in
    let names : map (names_after name steps) (points_after points steps) ≡ open_names =
    ap (map (names_after name steps)) left
    ∙ map_agree_on (is_member ◌==◌ (points_after points others)) (names_after name steps) (names_after name others) (points_after points others) (is_member-itself (points_after points others)) agree in
    SameEverywhere-from_worth m delta open_names _ _
    (λ worth.
    let f : (ℕ → ℕ) → ℕ = mate_worth delta free worth (names_after name steps) (points_after points steps) in
    let g : (ℕ → ℕ) → ℕ = mate_worth delta free worth (names_after name others) (points_after points others) in
    let one : (n : ℕ → ℕ) → f n ≡ g n =
    λ n. ap (λ p. delta ^ free * worth p)
    (ap (λ ps. mate_pattern (names_after name steps) ps n) left ∙ pattern_agree (names_after name steps) (names_after name others) n (points_after points others) agree) in
    ap (λ n. n % m) (ap (λ ns. pattern_sum delta record { nodes = step_nodes name steps; free_loops = free } ns worth) (sym names)
    ∙ step_pattern_sum points name mate steps are from delta free worth
    ∙ step_sum-worth delta steps f g one mate)
    ∙ same g
    ∙ sym (ap (λ n. n % m) (step_pattern_sum points name mate others are to delta free worth)))

-- ---- words
pub spelled_points : (points : List ℕ) (word : List Letter) (steps : List Step) → Spells word steps → points_after points steps ≡ points
spelled_points points [] [] s = refl
spelled_points points [] (letter p q straight hook left right ∷ steps) s = absurd s
spelled_points points (first ∷ word) [] s = absurd s
spelled_points points (first ∷ word) (letter p q straight hook left right ∷ steps) s = spelled_points points word steps s.4
spelled_points points [] (pass p new ∷ steps) s = spelled_points points [] steps s
spelled_points points (first ∷ word) (pass p new ∷ steps) s = spelled_points points (first ∷ word) steps s
spelled_points points [] (join p q ∷ steps) s = absurd s
spelled_points points (first ∷ word) (join p q ∷ steps) s = absurd s

pub spelled_sum : (delta : ℕ) (word : List Letter) (steps : List Step) → Spells word steps → (worth : (ℕ → ℕ) → ℕ) (mate : ℕ → ℕ) → step_sum delta steps worth mate ≡ word_sum delta word worth mate
spelled_sum delta [] [] s worth mate = refl
spelled_sum delta [] (letter p q straight hook left right ∷ steps) s worth mate = absurd s
spelled_sum delta (first ∷ word) [] s worth mate = absurd s
spelled_sum delta (first ∷ word) (letter p q straight hook left right ∷ steps) s worth mate =
    rw (s.0, s.1, s.2, s.3)
    (ap₂ (λ x y. first.straight * x + first.hook * (loop_worth delta (first.at + first.at) (first.at + 1 + (first.at + 1)) mate * y))
    (spelled_sum delta word steps s.4 worth mate) (spelled_sum delta word steps s.4 worth (hooked (first.at + first.at) (first.at + 1 + (first.at + 1)) mate)))
spelled_sum delta [] (pass p new ∷ steps) s worth mate = spelled_sum delta [] steps s worth mate
spelled_sum delta (first ∷ word) (pass p new ∷ steps) s worth mate = spelled_sum delta (first ∷ word) steps s worth mate
spelled_sum delta [] (join p q ∷ steps) s worth mate = absurd s
spelled_sum delta (first ∷ word) (join p q ∷ steps) s worth mate = absurd s

-- AND WORDS THAT ARE
pub same_words : SameWordsLaw
same_words m delta free points name mate u v steps others same s t are from to agree =
    let a = spelled_points points u steps s in
    let b = spelled_points points v others t in
    subst (λ ps. SameEverywhere m delta (map (names_after name others) ps) record { nodes = step_nodes name steps; free_loops = free } record { nodes = step_nodes name others; free_loops = free }) b
    (same_steps m delta free points name mate steps others are from to (a ∙ sym b) (λ p k. agree p (ap (λ ps. is_member ◌==◌ ps p) (sym b) ∙ k))
    (λ worth. ap (λ n. n % m) (spelled_sum delta u steps s worth mate) ∙ same.at worth mate are.mating ∙ sym (ap (λ n. n % m) (spelled_sum delta v others t worth mate))))

-- ---- grids
-- A CROSSING OF BUNDLES IS STEPS
pub grids_of_steps : GridsOfStepsLaw
grids_of_steps x y v h name place rows columns f = record { nodes = grid_is x y v h name place 0 rows columns f; names = grid_follows x y v h name place 0 rows columns f }

-- WHICH SPELL ITS WORD
pub grid_words : GridWordsLaw
grid_words a b s v h place rows columns = grid_spells a b s v h place 0 rows columns

-- A CROSSING OF BUNDLES, TURNED BY A QUARTER
pub turned_grids : TurnedGridsLaw
turned_grids m delta free x y rows columns v h turned_v turned_h open_names front back is p q has =
    subst (λ ns. SameEverywhere m delta open_names record { nodes = front ++ (grid_nodes x y v h 0 rows columns ++ back); free_loops = free } record { nodes = front ++ (ns ++ back); free_loops = free })
    (sym (grid_is_turned x y v h turned_v turned_h rows columns is 0 columns (let e : 0 + columns ≡ columns = omega arith in e)))
    ((grid_alike m delta free open_names x y v h rows columns front back p q).same has)

-- ---- cabled crossings
-- CABLED CROSSINGS ON ONE ANOTHER
pub cabled_words : CabledWordsLaw
cabled_words m a b delta free points name mate old new same f g are from to agree =
    subst (λ ns. SameEverywhere m delta (map (names_after name (placed_steps a b new)) points) record { nodes = ns; free_loops = free } record { nodes = placed_nodes a b new; free_loops = free }) (placed_are a b name old f)
    (subst (λ ns. SameEverywhere m delta (map (names_after name (placed_steps a b new)) points) record { nodes = step_nodes name (placed_steps a b old); free_loops = free } record { nodes = ns; free_loops = free }) (placed_are a b name new g)
    (same_words m delta free points name mate (placed_word a b old) (placed_word a b new) (placed_steps a b old) (placed_steps a b new) same (placed_spell a b old) (placed_spell a b new) are from to agree))

-- THE THIRD MOVE
pub cabled_third_move : CabledThirdMoveLaw
cabled_third_move m a b delta free x y z s t u v1 h1 v2 h2 v3 h3 w1 k1 w2 k2 w3 k3 points name mate numbers e f g are from to agree =
    let old : List Placed =
    record { is_over = s; v = v1; h = h1; place = 0; rows = x; columns = y } ∷ record { is_over = t; v = v2; h = h2; place = y; rows = x; columns = z } ∷ record { is_over = u; v = v3; h = h3; place = 0; rows = y; columns = z } ∷ [] in
    let new : List Placed =
    record { is_over = u; v = w1; h = k1; place = x; rows = y; columns = z } ∷ record { is_over = t; v = w2; h = k2; place = 0; rows = x; columns = z } ∷ record { is_over = s; v = w3; h = k3; place = z; rows = x; columns = y } ∷ [] in
    let three : (p q r : List Letter) → p ++ (q ++ (r ++ [])) ≡ p ++ (q ++ r) = λ p q r. ap (λ n. p ++ (q ++ n)) (append-nil r) in
    let zero_add : (k : ℕ) → 0 + k ≡ k = λ k. omega arith in
    let word : SameWord m delta (placed_word a b old) (placed_word a b new) =
    Rewriting.on (Rewriting.same (three (grid a b s 0 x y) (grid a b t y x z) (grid a b u 0 y z)))
    (Rewriting.on (Rewriting.same (ap (λ n. grid a b s 0 x y ++ (grid a b t n x z ++ grid a b u 0 y z)) (sym (zero_add y))))
    (Rewriting.on (bundle_third m a b delta numbers s t u 0 x y z e)
    (Rewriting.on (Rewriting.same (ap₂ (λ n k. grid a b u n y z ++ (grid a b t 0 x z ++ grid a b s k x y)) (zero_add x) (zero_add z)))
    (Rewriting.same (sym (three (grid a b u x y z) (grid a b t 0 x z) (grid a b s z x y))))))) in
    cabled_words m a b delta free points name mate old new word f g are from to agree

-- THE SECOND MOVE
pub cabled_second_move : CabledSecondMoveLaw
cabled_second_move m a b delta free o u s v1 h1 v2 h2 new_name points name mate numbers f are from to agree =
    let old : List Placed = record { is_over = s; v = v1; h = h1; place = 0; rows = o; columns = u } ∷ record { is_over = not s; v = v2; h = h2; place = 0; rows = u; columns = o } ∷ [] in
    let arcs : List Step = passes new_name 0 (o + u) in
    let word : SameWord m delta (placed_word a b old) [] =
    Rewriting.on (Rewriting.same (ap (λ n. grid a b s 0 o u ++ n) (append-nil (grid a b (not s) 0 u o)))) (bundle_second m a b delta numbers s 0 o u) in
    subst (λ ns. SameEverywhere m delta (map (names_after name arcs) points) record { nodes = ns; free_loops = free } record { nodes = step_nodes name arcs; free_loops = free }) (placed_are a b name old f)
    (same_words m delta free points name mate (placed_word a b old) [] (placed_steps a b old) arcs word (placed_spell a b old) (passes_spell new_name 0 (o + u)) are from to agree)

-- ---- boxes
-- A BOX BEFORE STEPS
pub box_steps : BoxStepsLaw
box_steps delta free node box inner points name steps worth ok terms boxed within behind = box_pattern_sum delta free worth node inner points name steps ok behind box terms boxed within

box_sum-same : (box : List Weighted) (f g : (ℕ → ℕ) → ℕ) → ((mate : ℕ → ℕ) → f mate ≡ g mate) → box_sum box f ≡ box_sum box g
box_sum-same [] f g h = refl
box_sum-same (term ∷ box) f g h = ap₂ (λ x y. term.weight * x + y) (h term.mate) (box_sum-same box f g h)

pub word_sum-same : (delta : ℕ) (u : List Letter) (f g : (ℕ → ℕ) → ℕ) → ((mate : ℕ → ℕ) → f mate ≡ g mate) → (mate : ℕ → ℕ) → word_sum delta u f mate ≡ word_sum delta u g mate
word_sum-same delta [] f g h mate = h mate
word_sum-same delta (first ∷ u) f g h mate =
    ap₂ (λ x y. first.straight * x + first.hook * (loop_worth delta (top first.at) (top (first.at + 1)) mate * y)) (word_sum-same delta u f g h mate) (word_sum-same delta u f g h (hooked (top first.at) (top (first.at + 1)) mate))

-- THE CURL
pub cabled_curl : CabledCurlLaw
cabled_curl m a b delta w free n s v h node other box inner left points name worth numbers factor is_box ok terms boxed within behind other_ok other_terms other_boxed other_within other_behind =
    let steps = grid_steps (crossed a b s 0).straight (crossed a b s 0).hook v h 0 0 (n + 1) (n + 1) in
    let closing = close_steps 0 (n + 1) in
    let last : ℕ → ℕ = names_after name (steps ++ closing) in
    let left_points = points_after points (steps ++ closing) in
    let k : (ℕ → ℕ) → ℕ = mate_worth delta free worth last left_points in
    let word = grid a b s 0 (n + 1) (n + 1) in
    let curl_sum : (mate : ℕ → ℕ) → step_sum delta (steps ++ closing) k mate ≡ word_sum delta word (close_worth delta 0 (n + 1) k) mate =
    λ mate.
    step_sum-append delta steps closing k mate
    ∙ spelled_sum delta word steps (grid_spells a b s v h 0 0 (n + 1) (n + 1)) (step_sum delta closing k) mate
    ∙ word_sum-same delta word (step_sum delta closing k) (close_worth delta 0 (n + 1) k) (close_sum delta 0 (n + 1) k) mate in
    ap (λ x. x % m)
    (box_pattern_sum delta free worth node inner points name (steps ++ closing) ok behind box terms boxed within
    ∙ box_sum-same box (step_sum delta (steps ++ closing) k) (word_sum delta word (close_worth delta 0 (n + 1) k)) curl_sum)
    ∙ box_curl m a b delta w 0 n s box k numbers factor is_box
    ∙ sym (ap (λ x. (w ^ (n + 1) * (crossed a b s 0).straight ^ ((n + 1) * n) * x) % m) (box_pattern_sum delta free worth other left left_points last [] other_ok other_behind box other_terms other_boxed other_within))
