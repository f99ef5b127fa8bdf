-- The laws of cabled crossings, at any names.
use Rattle.std.specs.Prelude.{◌≡◌, ℕ, ◌+◌, ◌%◌, ◌<◌, ◌≤◌, List, ◌∷◌, ◌++◌, length, reverse}
use Rattle.std.specs.List.{All, zip}
use Rattle.state_sums.specs.LocalSums.{AreSkeinNumbers}
use Rattle.state_sums.specs.Networks.{Node, IsNode, names_of}
use Rattle.list_lemmas.specs.Times.{times_in}
use Rattle.state_sums.specs.StateSums.{value}
use Rattle.root_quantum.specs.QuantumNumbers.{inverse_root}
use Rattle.piece_laws.specs.Arcs.{arcs_of}
use Rattle.cables.specs.CableNodes.{crossing_cable, through_node}
use Rattle.root_quantum.specs.Parameters.{Parameters}

-- Strands that go straight through are arcs: the i-th end of one side with the i-th last of the other.
abbrev pub ThroughArcsLaw : Type 0
ThroughArcsLaw =
    (group n : ℕ) (xs ys : List ℕ) → length xs ≡ n → length ys ≡ n → (m delta free : ℕ) (rest : List Node) → All IsNode (through_node group xs ys ∷ rest) →
    value m delta record { nodes = through_node group xs ys ∷ rest; free_loops = free } ≡ value m delta record { nodes = arcs_of (zip xs (reverse ys)) ++ rest; free_loops = free }

-- Two cabled crossings that are a bigon count as the strands of both edges, at any names: the edge below has the names A, M and C,
-- the edge above B, N and D; each bundle may be empty.
abbrev pub CabledBigonLaw : Type 0
CabledBigonLaw =
    (p : Parameters) (delta free : ℕ) → AreSkeinNumbers p.modulus p.root (inverse_root p) delta → (g g' k k' u o : ℕ) → u ≤ 8 → o ≤ 8 →
    (M N A B C D : List ℕ) → length M ≡ u → length A ≡ u → length C ≡ u → length N ≡ o → length B ≡ o → length D ≡ o → (rest : List Node) →
    All IsNode (crossing_cable p g k M D C N ++ (crossing_cable p g' k' A B (reverse M) (reverse N) ++ rest)) → All IsNode rest →
    ((z : ℕ) → times_in C z ≤ 1) → ((z : ℕ) → times_in D z ≤ 1) →
    ((z : ℕ) → 1 ≤ times_in (names_of (crossing_cable p g k M D C N ++ (crossing_cable p g' k' A B (reverse M) (reverse N) ++ rest))) z →
    times_in (names_of (crossing_cable p g k M D C N ++ (crossing_cable p g' k' A B (reverse M) (reverse N) ++ rest))) z ≡ 2) →
    value p.modulus delta record { nodes = crossing_cable p g k M D C N ++ (crossing_cable p g' k' A B (reverse M) (reverse N) ++ rest); free_loops = free }
    ≡ value p.modulus delta record { nodes = arcs_of (zip (A ++ B) (reverse C ++ reverse D)) ++ rest; free_loops = free }

-- So they do told from any of their slots, where slot s of the one and slot t of the other begin the bigon: the first has its strands
-- at s and s-1 in common with the other's at t and t+1. The ends s+1 and s+2 are joined with t+3 and t+2.
abbrev pub BigonAtSlotsLaw : Type 0
BigonAtSlotsLaw =
    (p : Parameters) (delta free : ℕ) → AreSkeinNumbers p.modulus p.root (inverse_root p) delta → (g g' k k' s t : ℕ) (here there : ℕ → List ℕ) (rest : List Node) → s < 4 → t < 4 → s % 2 ≡ t % 2 →
    length (here 0) ≡ length (here 2) → length (here 1) ≡ length (here 3) → length (there 0) ≡ length (there 2) → length (there 1) ≡ length (there 3) → length (here s) ≤ 8 → length (here ((s + 3) % 4)) ≤ 8 →
    here s ≡ reverse (there t) → here ((s + 3) % 4) ≡ reverse (there ((t + 1) % 4)) →
    let first : List Node = crossing_cable p g k (here 0) (here 1) (here 2) (here 3) in
    let second : List Node = crossing_cable p g' k' (there 0) (there 1) (there 2) (there 3) in
    All IsNode first → All IsNode second → All IsNode rest → ((z : ℕ) → 1 ≤ times_in (names_of (first ++ (second ++ rest))) z → times_in (names_of (first ++ (second ++ rest))) z ≡ 2) →
    value p.modulus delta record { nodes = first ++ (second ++ rest); free_loops = free }
    ≡ value p.modulus delta record { nodes = arcs_of (zip (here ((s + 1) % 4) ++ here ((s + 2) % 4)) (reverse (there ((t + 3) % 4)) ++ reverse (there ((t + 2) % 4)))) ++ rest; free_loops = free }
