-- A piece that counts as a factor times another one does so at any names: the factor stands in the network as a node without ends.
use Rattle.std.proofs.Common.{◌≡◌, ℕ, ◌+◌, ◌*◌, ◌%◌, ◌^◌, List, [], ◌∷◌, ◌++◌, map, length, refl, sym, ap, ◌∙◌, arith, All}
use Rattle.std.proofs.lemmas.List.Elements.{All-cons, All-nil}
use Rattle.std.proofs.lemmas.Nat.{mul-mod_second}
use Rattle.graph_parts.specs.Parts.{part_count}
use Rattle.graph_parts.specs.Patterns.{pattern, closed_parts}
use Rattle.state_sums.specs.LocalSums.{pattern_sum, rename, SameEverywhere}
use Rattle.state_sums.specs.Networks.{Node, Term, IsNode, IsPairing, names_of}
use Rattle.state_sums.specs.StateSums.{value, state_sum}
use Rattle.state_sums.proofs.Coefficients.{SameEverywhere-from_worth}
use Rattle.state_sums.proofs.Sums.{total, total_is}
use Rattle.piece_laws.specs.Pieces.{IsPiece, ArePaired}
use Rattle.piece_laws.proofs.PiecesAnywhere.{piece_anywhere}

-- a node without ends, of the weight w
abbrev pub factor_node : ℕ → Node
factor_node w = record { group = 0; ends = []; terms = record { weight = w; partner = [] } ∷ [] }

factor_ok : (w : ℕ) → IsNode (factor_node w)
factor_ok w =
    All-cons (λ (term : Term). IsPairing term.partner × (length term.partner ≡ 0)) (record { weight = w; partner = [] }) []
    (record { within = λ i l. absurd (omega (arith, l)); apart = λ i l. absurd (omega (arith, l)); back = λ i l. absurd (omega (arith, l)) }, refl)
    (All-nil (λ (term : Term). IsPairing term.partner × (length term.partner ≡ 0)))

factor_total : (w : ℕ) (nodes : List Node) (f : List (ℕ × ℕ) → ℕ) → total (factor_node w ∷ nodes) f ≡ w * total nodes f
factor_total w nodes f = omega arith

factor_pattern : (delta free w : ℕ) (nodes : List Node) (open_names : List ℕ) (worth : List ℕ → ℕ) →
    pattern_sum delta record { nodes = factor_node w ∷ nodes; free_loops = free } open_names worth ≡ w * pattern_sum delta record { nodes = nodes; free_loops = free } open_names worth
unfolding pattern_sum
factor_pattern delta free w nodes open_names worth =
    let f : List (ℕ × ℕ) → ℕ = λ es. delta ^ (closed_parts (names_of nodes) es open_names + free) * worth (pattern (names_of nodes) es open_names) in
    total_is (factor_node w ∷ nodes) f ∙ factor_total w nodes f ∙ ap (λ k. w * k) (sym (total_is nodes f))

factor_value : (m delta free w : ℕ) (nodes : List Node) → value m delta record { nodes = factor_node w ∷ nodes; free_loops = free } ≡ w * value m delta record { nodes = nodes; free_loops = free } % m
unfolding value
factor_value m delta free w nodes =
    let f : List (ℕ × ℕ) → ℕ = λ es. delta ^ (part_count (names_of nodes) es + free) in
    ap (λ k. k % m) (total_is (factor_node w ∷ nodes) f ∙ factor_total w nodes f ∙ ap (λ k. w * k) (sym (total_is nodes f)))
    ∙ sym (mul-mod_second w (state_sum delta record { nodes = nodes; free_loops = free }) m)

-- A FACTOR TIMES ANOTHER PIECE, AT ANY NAMES
pub scaled_anywhere : (m delta free w : ℕ) (r : ℕ → ℕ) (open_names : List ℕ) (old new rest : List Node) → All IsNode old → All IsNode new → All IsNode rest → IsPiece old open_names → IsPiece new open_names →
    ArePaired (map r (names_of old)) (map r (names_of old) ++ names_of rest) → ArePaired (map r (names_of new)) (map r (names_of new) ++ names_of rest) →
    ((worth : List ℕ → ℕ) → pattern_sum delta record { nodes = old; free_loops = 0 } open_names worth % m ≡ (w * pattern_sum delta record { nodes = new; free_loops = 0 } open_names worth) % m) →
    value m delta record { nodes = rename r old ++ rest; free_loops = free } ≡ w * value m delta record { nodes = rename r new ++ rest; free_loops = free } % m
scaled_anywhere m delta free w r open_names old new rest p q k old_piece new_piece old_pairs new_pairs same =
    let nothing : free ≡ 0 + free = omega arith in
    let alike : SameEverywhere m delta open_names record { nodes = old; free_loops = 0 } record { nodes = factor_node w ∷ new; free_loops = 0 } =
    SameEverywhere-from_worth m delta open_names record { nodes = old; free_loops = 0 } record { nodes = factor_node w ∷ new; free_loops = 0 }
    (λ worth. same worth ∙ sym (ap (λ n. n % m) (factor_pattern delta 0 w new open_names worth))) in
    ap (λ j. value m delta record { nodes = rename r old ++ rest; free_loops = j }) nothing
    ∙ piece_anywhere m delta free r open_names record { nodes = old; free_loops = 0 } record { nodes = factor_node w ∷ new; free_loops = 0 } rest
    p (All-cons IsNode (factor_node w) new (factor_ok w) q) k old_piece record { has_open = new_piece.has_open; inner = new_piece.inner } old_pairs new_pairs alike
    ∙ ap (λ j. value m delta record { nodes = factor_node w ∷ (rename r new ++ rest); free_loops = j }) (sym nothing)
    ∙ factor_value m delta free w (rename r new ++ rest)
