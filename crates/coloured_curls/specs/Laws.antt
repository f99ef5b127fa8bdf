-- The laws of curls of cables, at any names, and of a curl on an edge with a box.
use Rattle.std.specs.Prelude.{◌≡◌, ℕ, suc, ◌+◌, ◌-◌, ◌*◌, ◌^◌, ◌%◌, ◌<◌, ◌≤◌, ◌==◌, Bool, true, false, Some, None, Ok, List, ◌∷◌, ◌++◌, length, reverse, All}
use Rattle.std.specs.List.{AllByRecursion, zip}
use Rattle.std.specs.Set.{is_member}
use Rattle.list_lemmas.specs.Times.{times_in}
use Rattle.state_sums.specs.LocalSums.{crossing, AreSkeinNumbers}
use Rattle.state_sums.specs.Networks.{Node, Term, IsNode, names_of}
use Rattle.state_sums.specs.StateSums.{value}
use Rattle.strand_algebra.specs.Projectors.{IsProjector}
use Rattle.piece_laws.specs.Arcs.{arcs_of}
use Rattle.strand_words.specs.Boxes.{twist}
use Rattle.strand_words.specs.Grids.{crossed}
use Rattle.strand_words.specs.Words.{Letter}
use Rattle.word_networks.specs.GridNetworks.{grid_nodes}
use Rattle.root_quantum.specs.Parameters.{Parameters}
use Rattle.root_quantum.specs.QuantumNumbers as numbers
use Rattle.root_quantum.specs.QuantumNumbers.{loop_value}
use Rattle.pd_reader.specs.declared.item.Item.{Item}
use Rattle.pd_reader.specs.Diagrams.{IsDiagram}
use Rattle.planar_check.specs.declared.sign.Sign.{Sign}
use Rattle.planar_check.specs.declared.sign.Sign.TheVariants as signs
use Rattle.cables.specs.CableNodes.{crossing_cable, box_node}
use Rattle.cables.specs.Nets.{HasProjector}
use Rattle.script_reader.specs.declared.step.Step.TheVariants.{Curl, CurlUndo}
use Rattle.diagram_moves.specs.Anchors.{anchor_inside}
use Rattle.diagram_moves.specs.Moves.{move, curl_of}
use Rattle.diagram_moves.specs.Rewriting.{slot, crossing_at, crossing_labels, fresh}
use Rattle.diagram_moves.specs.Steps.{Moved}
use Rattle.coloured_values.specs.Coloured.{colour_of, is_boxed, coloured}
use Rattle.coloured_values.specs.Laws.{HasColours}
use Rattle.coloured_curls.specs.Boxes.{box_at, behind, letter_nodes, names_behind, arcs_between}

-- A crossing of two neighbouring strands beside a projector's box counts as its weight of going straight on times the box, whose ends have the
-- names behind the crossing. The strands are any that cross there; each name stands twice.
abbrev pub BoxedCrossingLaw : Type 0
BoxedCrossingLaw =
    (m delta x y group n k : ℕ) (f : List Term) → 0 < m → n ≤ 8 → k + 1 < n → IsProjector m delta n f → (bottoms tops : ℕ → ℕ) (left right free : ℕ) (rest : List Node) → All IsNode rest →
    ((z : ℕ) → 1 ≤ times_in (names_of (box_at group n f bottoms tops ∷ crossing x y (tops (k + 1)) right left (tops k) ∷ rest)) z →
    times_in (names_of (box_at group n f bottoms tops ∷ crossing x y (tops (k + 1)) right left (tops k) ∷ rest)) z ≡ 2) →
    value m delta record { nodes = box_at group n f bottoms tops ∷ crossing x y (tops (k + 1)) right left (tops k) ∷ rest; free_loops = free }
    ≡ x * value m delta record { nodes = box_at group n f bottoms (behind tops k left right) ∷ rest; free_loops = free } % m

-- A crossing of two bundles of c+1 strands, read from the south, whose left strands close - the name above at place k is the name of the strand
-- that comes in there - counts as a full twist of the right bundle times a factor for each strand: -x^3, where x is the weight of going straight on.
-- The twist's strands come in as v 0 k, and arcs take them to the names h (c-k) (c+1) behind the crossing; its other names are fresh.
abbrev pub ClosedCrossingLaw : Type 0
ClosedCrossingLaw =
    (m a b delta free f c big : ℕ) (s : Bool) (v h : ℕ → ℕ → ℕ) (rest : List Node) → AreSkeinNumbers m a b delta → suc c ≤ 8 → All IsNode rest →
    let x : ℕ = (crossed a b s 0).straight in
    let y : ℕ = (crossed a b s 0).hook in
    let crossing_at : List Node = grid_nodes x y v h 0 (suc c) (suc c) in
    let turns : List Letter = twist a b s 0 c (suc c) in
    (f + x * x * x) % m ≡ 0 % m → ((k : ℕ) → k < suc c → v (suc c) k ≡ h (c - k) 0) →
    ((i j : ℕ) → i ≤ suc c → j < suc c → v i j < big) → ((i j : ℕ) → i < suc c → j ≤ suc c → h i j < big) → ((z : ℕ) → is_member ◌==◌ (names_of rest) z ≡ true → z < big) →
    ((z : ℕ) → 1 ≤ times_in (names_of (crossing_at ++ rest)) z → times_in (names_of (crossing_at ++ rest)) z ≡ 2) →
    value m delta record { nodes = crossing_at ++ rest; free_loops = free }
    ≡ f ^ suc c * value m delta record { nodes = (letter_nodes turns (v 0) big ++ arcs_of (arcs_between (names_behind turns (v 0) big) (λ k. h (c - k) (suc c)) 0 (suc c))) ++ rest; free_loops = free } % m

-- The cabled crossing of a curl: the strands come in at E, leave at W, and M is the loop.
abbrev pub curl_cable : Parameters → ℕ → ℕ → Sign → List ℕ → List ℕ → List ℕ → List Node
curl_cable p g k signs.Plus E W M = crossing_cable p g k E W M (reverse M)
curl_cable p g k signs.Minus E W M = crossing_cable p g k E M (reverse M) W

-- The cabled crossing of a curl of n = c+1 strands beside a projector's box with the ends F and E, at any names: the strands come in at E, leave at
-- W, and M is the loop. It counts as mu_n to the power of the curl times arcs from E to W.
abbrev pub CurlBesideBoxLaw : Type 0
CurlBesideBoxLaw =
    (p : Parameters) (free g k c : ℕ) (sign : Sign) (E W M F : List ℕ) (group : ℕ) → suc c ≤ 8 → length E ≡ suc c → length W ≡ suc c → length M ≡ suc c → length F ≡ suc c →
    (f : List Term) → IsProjector p.modulus (loop_value p) (suc c) f → (rest : List Node) → All IsNode (curl_cable p g k sign E W M) → All IsNode rest →
    ((z : ℕ) → 1 ≤ times_in (names_of (curl_cable p g k sign E W M ++ (box_node group f F E ∷ rest))) z → times_in (names_of (curl_cable p g k sign E W M ++ (box_node group f F E ∷ rest))) z ≡ 2) →
    value p.modulus (loop_value p) record { nodes = curl_cable p g k sign E W M ++ (box_node group f F E ∷ rest); free_loops = free }
    ≡ numbers.twist p (suc c) (curl_of sign).curl * value p.modulus (loop_value p) record { nodes = arcs_of (zip E (reverse W)) ++ (box_node group f F E ∷ rest); free_loops = free } % p.modulus

-- Curl on the edge that has its component's box, so on the least label of a component of colour n from 2 on, multiplies the coloured value by mu_n
-- to the power of the curl, where each colour has its projector; the other components have any colours.
abbrev pub BoxedEdgeLaw : Type 0
BoxedEdgeLaw =
    (p : Parameters) (items : List Item) (e : ℕ) (sign : Sign) (moved : Moved) (colours : List ℕ) → IsDiagram items → fresh items + 3 ≤ 2000000 → HasColours items colours → AllByRecursion (HasProjector p) colours →
    is_boxed items colours e ≡ true → is_member ◌==◌ (crossing_labels items) e ≡ true → move items (Curl e sign) ≡ Ok moved →
    coloured p moved.items colours ≡ numbers.twist p (colour_of items colours e) moved.factor.curl * coloured p items colours % p.modulus

-- Curl on a Loop of colour n from 2 on multiplies the coloured value by mu_n to the power of the curl, where each colour has its projector; the other
-- components have any colours.
abbrev pub BoxedLoopLaw : Type 0
BoxedLoopLaw =
    (p : Parameters) (items : List Item) (e : ℕ) (sign : Sign) (moved : Moved) (colours : List ℕ) → IsDiagram items → fresh items + 3 ≤ 2000000 → HasColours items colours → AllByRecursion (HasProjector p) colours →
    2 ≤ colour_of items colours e → is_member ◌==◌ (crossing_labels items) e ≡ false → move items (Curl e sign) ≡ Ok moved →
    coloured p moved.items colours ≡ numbers.twist p (colour_of items colours e) moved.factor.curl * coloured p items colours % p.modulus

-- Curl on an edge without a box, of a component of colour n from 2 on, multiplies the coloured value by mu_n to the power of the curl, where each colour
-- has its projector; the other components have any colours.
abbrev pub BoxlessEdgeLaw : Type 0
BoxlessEdgeLaw =
    (p : Parameters) (items : List Item) (e : ℕ) (sign : Sign) (moved : Moved) (colours : List ℕ) → IsDiagram items → fresh items + 3 ≤ 2000000 → HasColours items colours → AllByRecursion (HasProjector p) colours →
    2 ≤ colour_of items colours e → is_boxed items colours e ≡ false → is_member ◌==◌ (crossing_labels items) e ≡ true → move items (Curl e sign) ≡ Ok moved →
    coloured p moved.items colours ≡ numbers.twist p (colour_of items colours e) moved.factor.curl * coloured p items colours % p.modulus

-- Curl on a component of colour n multiplies the coloured value by mu_n to the power of the curl, on any edge or Loop and for all colours, where each
-- colour has its projector.
abbrev pub CurlLaw : Type 0
CurlLaw =
    (p : Parameters) (items : List Item) (e : ℕ) (sign : Sign) (moved : Moved) (colours : List ℕ) → IsDiagram items → fresh items + 3 ≤ 2000000 → HasColours items colours → AllByRecursion (HasProjector p) colours →
    move items (Curl e sign) ≡ Ok moved → coloured p moved.items colours ≡ numbers.twist p (colour_of items colours e) moved.factor.curl * coloured p items colours % p.modulus

-- CurlUndo of a curl on a component of colour n multiplies the coloured value by mu_n to the power of the factor's curl, for all colours, where no box lies
-- inside the curl and each colour has its projector. All edges of the curl's crossing are on one component.
abbrev pub CurlUndoLaw : Type 0
CurlUndoLaw =
    (p : Parameters) (items : List Item) (c : ℕ) (here : List ℕ) (moved : Moved) (colours : List ℕ) → IsDiagram items → HasColours items colours → AllByRecursion (HasProjector p) colours →
    crossing_at items c ≡ Some here → anchor_inside items colours (CurlUndo c) ≡ None → move items (CurlUndo c) ≡ Ok moved →
    coloured p moved.items colours ≡ numbers.twist p (colour_of items colours (slot here 0)) moved.factor.curl * coloured p items colours % p.modulus
