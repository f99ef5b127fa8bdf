-- Projectors are boxes that are killed by hooks.
use Rattle.std.specs.List.{All, AllPass, range_with_len}
use Rattle.std.specs.Prelude.{◌≡◌, ℕ, ◌+◌, ◌*◌, ◌%◌, ◌^◌, ◌<◌, ◌≤◌, ◌==◌, Bool, true, List, [], ◌∷◌, ◌++◌, map, length, reverse, pos, negsuc}
use Rattle.std.specs.Set.{is_member}
use Rattle.word_networks.specs.BoxNetworks.{AreStepsBehind}
use Rattle.word_networks.specs.GridNetworks.{grid_steps}
use Rattle.word_networks.specs.PlacedGrids.{close_steps}
use Rattle.word_networks.specs.Steps.{Step, names_after, points_after, step_nodes, AreStepsFrom}
use Rattle.word_networks.specs.Spelling.{Spells}
use Rattle.word_networks.specs.Strands.{strand_of, strand_points}
use Rattle.strand_words.specs.Grids.{crossed}
use Rattle.state_sums.specs.LocalSums.{pattern_sum, SameEverywhere, AreSkeinNumbers}
use Rattle.strand_words.specs.Boxes.{IsBox}
use Rattle.box_laws.specs.Traces.{AreOn, word_trace}
use Rattle.strand_words.specs.Words.{Letter}
use Rattle.state_sums.specs.StateSums.{value}
use Rattle.box_laws.specs.StrandBoxes.{strand_box, IsBoxNode, AreNamedBeside}
use Rattle.state_sums.specs.Networks.{Node, Term, IsNode, names_of}
use Rattle.strand_algebra.specs.Elements.{IsElement, close}
use Rattle.root_quantum.specs.Parameters.{Parameters}
use Rattle.root_quantum.specs.QuantumNumbers.{inverse_root, twist}
use Rattle.strand_algebra.specs.Projectors.{IsProjector}

-- A projector of n strands, with c strands that stand on its left, gives zero with a hook on two of its tops.
abbrev pub ProjectorBoxLaw : Type 0
ProjectorBoxLaw = (m delta n c : ℕ) (f : List Term) → 0 < m → n ≤ 8 → IsProjector m delta n f → IsBox m delta 0 c n (strand_box c n f)

-- The coloured curl with a projector: the cabled crossing of n+1 strands with themselves, closed on the left, beside the projector's
-- node, is w^(n+1) x^(n (n+1)) times that node with the names behind the curl. x is the weight of going straight on, and w is -x^3.
abbrev pub ProjectorCurlLaw : Type 0
ProjectorCurlLaw =
    (m a b delta w free n : ℕ) (s : Bool) (v h : ℕ → ℕ → ℕ) (f : List Term) (node other : Node) (name : ℕ → ℕ) (worth : List ℕ → ℕ) → 0 < m → n + 1 ≤ 8 → AreSkeinNumbers m a b delta →
    (w + (crossed a b s 0).straight * (crossed a b s 0).straight * (crossed a b s 0).straight) % m ≡ 0 % m → IsProjector m delta (n + 1) f →
    let curl : List Step = grid_steps (crossed a b s 0).straight (crossed a b s 0).hook v h 0 0 (n + 1) (n + 1) ++ close_steps 0 (n + 1) in
    let points : List ℕ = strand_points 0 (n + 1 + (n + 1)) in
    let last : ℕ → ℕ = names_after name curl in
    IsBoxNode (n + 1) (n + 1) name f node → AreNamedBeside (n + 1) (n + 1) name → AreStepsBehind node (strand_points (n + 1) (n + 1)) points name curl →
    IsBoxNode (n + 1) (n + 1) last f other → ((p q : ℕ) → is_member ◌==◌ (strand_points (n + 1) (n + 1)) p ≡ true → is_member ◌==◌ (strand_points (n + 1) (n + 1)) q ≡ true → last p ≡ last q → p ≡ q) →
    pattern_sum delta record { nodes = node ∷ step_nodes name curl; free_loops = free } (map last (points_after points curl)) worth % m
    ≡ (w ^ (n + 1) * (crossed a b s 0).straight ^ ((n + 1) * n) * pattern_sum delta record { nodes = other ∷ []; free_loops = free } (map last (points_after points curl)) worth) % m

-- That factor is mu_n of the parameters: with x = A and w = mu_1 it is (-1)^k A^(k^2 + 2k) for k = n+1 strands, and with x = A^-1 and w the
-- inverse of mu_1 it is the inverse of mu_k.
pub record AreCurlFactors (p : Parameters) (n : ℕ) : Type 0 where
  pub positive : (twist p 1 (pos 1) ^ (n + 1) * p.root ^ ((n + 1) * n)) % p.modulus ≡ twist p (n + 1) (pos 1) % p.modulus
  pub negative : (twist p 1 (negsuc 0) ^ (n + 1) * inverse_root p ^ ((n + 1) * n)) % p.modulus ≡ twist p (n + 1) (negsuc 0) % p.modulus

abbrev pub CurlFactorLaw : Type 0
CurlFactorLaw = (p : Parameters) (n : ℕ) → AreCurlFactors p n

-- The value of a closed network of a word on n strands is the word's trace: from the first letter upward, the weight of going
-- straight on times the identity plus the other weight times the hook; and the closure.
abbrev pub WordTracesLaw : Type 0
WordTracesLaw =
    (m delta n : ℕ) (word : List Letter) (steps : List Step) (base : ℕ → ℕ) → 0 < m → AreOn n word → Spells word steps → ((i j : ℕ) → i < n → j < n → base i ≡ base j → i ≡ j) →
    AreStepsFrom (strand_points 0 n) (λ u. base (strand_of u)) (steps ++ close_steps 0 n) →
    value m delta record { nodes = step_nodes (λ u. base (strand_of u)) (steps ++ close_steps 0 n); free_loops = 0 } ≡ word_trace m delta n word

-- The sides of a projector's node may change places, wherever it stands: half a turn of the box.
abbrev pub HalfTurnedBoxLaw : Type 0
HalfTurnedBoxLaw =
    (m delta free n g k : ℕ) (f : List Term) (xs ys : List ℕ) (front back : List Node) (open_names : List ℕ) → 0 < m → n ≤ 8 → IsProjector m delta n f →
    length xs ≡ n → length ys ≡ n → All IsNode front → All IsNode back →
    AllPass (is_member ◌==◌ (names_of (front ++ record { group = g; ends = ys ++ xs; terms = f } ∷ back))) open_names →
    SameEverywhere m delta open_names record { nodes = front ++ record { group = g; ends = ys ++ xs; terms = f } ∷ back; free_loops = free }
    record { nodes = front ++ record { group = k; ends = xs ++ ys; terms = f } ∷ back; free_loops = free }

-- A box closed on itself, strand by strand, is worth the closure of its element.
abbrev pub ClosedBoxLaw : Type 0
ClosedBoxLaw =
    (m delta n group : ℕ) (x : List Term) (base : ℕ → ℕ) → IsElement m n x → ((i j : ℕ) → i < n → j < n → base i ≡ base j → i ≡ j) →
    let names : List ℕ = map base (range_with_len 0 n) in
    value m delta record { nodes = record { group = group; ends = names ++ reverse names; terms = x } ∷ []; free_loops = 0 } ≡ close m delta n x
