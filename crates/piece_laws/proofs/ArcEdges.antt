-- Arcs as nodes: their names, their edges and their sums. A list of arcs has one state, whose edges are its pairs, both ways round.
--
--     arc_edges pairs      each pair, both ways round
use Rattle.std.proofs.Common.{length, All, ◌<◌, ◌≡◌, ℕ, zero, suc, List, [], ◌∷◌, ◌++◌, Contains, refl, ap, arith, ◌⊎◌, inl, inr, ⊎_elim, All}
use Rattle.graph_parts.proofs.Walks.{Contains-later}
use Rattle.state_sums.specs.LocalSums.{arc}
use Rattle.state_sums.specs.Networks.{Node, IsNode, names_of}
use Rattle.state_sums.proofs.Replacing.{HavePlaces-append}
use Rattle.state_sums.proofs.StateEdges.{HavePlaces, HavePlaces-from_test}
use Rattle.state_sums.proofs.Sums.{total}
use Rattle.piece_laws.specs.Arcs.{arcs_of}
use Rattle.graph_parts.specs.Ends.{ends_of}
use Rattle.state_sums.proofs.WrittenNodes.{IsNode-weighted_arc}
use Rattle.std.proofs.lemmas.List.Elements.{All-cons, All-nil}

-- both directions of each pair
abbrev pub arc_edges : List (ℕ × ℕ) → List (ℕ × ℕ)
arc_edges [] = []
arc_edges (pair ∷ pairs) = (pair.0, pair.1) ∷ (pair.1, pair.0) ∷ arc_edges pairs

pub arc_edges-within : (pairs : List (ℕ × ℕ)) (x y : ℕ) → Contains (arc_edges pairs) (x, y) → Contains pairs (x, y) ⊎ Contains pairs (y, x)
arc_edges-within [] x y h = absurd (omega (arith, h.1))
arc_edges-within (pair ∷ pairs) x y (zero, l, e) = inl (0, omega arith, e)
arc_edges-within (pair ∷ pairs) x y (suc zero, l, e) =
    inr (0, omega arith, ap (λ (f : ℕ × ℕ). let g : ℕ × ℕ = (f.1, f.0) in g) e)
arc_edges-within (pair ∷ pairs) x y (suc (suc k), l, e) =
    ⊎_elim (λ c. inl (Contains-later pair (x, y) pairs c)) (λ c. inr (Contains-later pair (y, x) pairs c)) (arc_edges-within pairs x y (k, omega (arith, l), e))

pub arc_edges-has : (pairs : List (ℕ × ℕ)) (x y : ℕ) → Contains pairs (x, y) → Contains (arc_edges pairs) (x, y)
arc_edges-has [] x y h = absurd (omega (arith, h.1))
arc_edges-has (pair ∷ pairs) x y (zero, l, e) = (0, omega arith, e)
arc_edges-has (pair ∷ pairs) x y (suc k, l, e) =
    let c = arc_edges-has pairs x y (k, omega (arith, l), e) in (suc (suc c.0), omega (arith, c.1), c.2)

pub arc_edges-back : (pairs : List (ℕ × ℕ)) (x y : ℕ) → Contains pairs (x, y) → Contains (arc_edges pairs) (y, x)
arc_edges-back [] x y h = absurd (omega (arith, h.1))
arc_edges-back (pair ∷ pairs) x y (zero, l, e) = (1, omega arith, ap (λ (f : ℕ × ℕ). let g : ℕ × ℕ = (f.1, f.0) in g) e)
arc_edges-back (pair ∷ pairs) x y (suc k, l, e) =
    let c = arc_edges-back pairs x y (k, omega (arith, l), e) in (suc (suc c.0), omega (arith, c.1), c.2)

pub names_of-arcs : (pairs : List (ℕ × ℕ)) (rest : List Node) → names_of (arcs_of pairs ++ rest) ≡ ends_of pairs ++ names_of rest
names_of-arcs [] rest = refl
names_of-arcs (pair ∷ pairs) rest = ap (λ ns. pair.0 ∷ pair.1 ∷ ns) (names_of-arcs pairs rest)

pub HavePlaces-arcs : (pairs : List (ℕ × ℕ)) (rest : List Node) → HavePlaces rest → HavePlaces (arcs_of pairs ++ rest)
HavePlaces-arcs [] rest h = h
HavePlaces-arcs (pair ∷ pairs) rest h =
    HavePlaces-append (arc pair.0 pair.1 ∷ []) (arcs_of pairs ++ rest) (HavePlaces-from_test (arc pair.0 pair.1 ∷ []) refl) (HavePlaces-arcs pairs rest h)

pub HavePlaces-all_arcs : (pairs : List (ℕ × ℕ)) → HavePlaces (arcs_of pairs)
HavePlaces-all_arcs [] = All-nil (λ node. All (λ term. All (λ place. place < length node.ends) term.partner) node.terms)
HavePlaces-all_arcs (pair ∷ pairs) = HavePlaces-append (arc pair.0 pair.1 ∷ []) (arcs_of pairs) (HavePlaces-from_test (arc pair.0 pair.1 ∷ []) refl) (HavePlaces-all_arcs pairs)

pub IsNode-arcs : (pairs : List (ℕ × ℕ)) (rest : List Node) → All IsNode rest → All IsNode (arcs_of pairs ++ rest)
IsNode-arcs [] rest h = h
IsNode-arcs (pair ∷ pairs) rest h = All-cons IsNode (arc pair.0 pair.1) (arcs_of pairs ++ rest) (IsNode-weighted_arc 1 pair.0 pair.1) (IsNode-arcs pairs rest h)

-- THE SUM OVER STATES OF ARCS AND OTHER NODES
pub total-arcs : (pairs : List (ℕ × ℕ)) (rest : List Node) (f : List (ℕ × ℕ) → ℕ) → total (arcs_of pairs ++ rest) f ≡ total rest (λ es. f (arc_edges pairs ++ es))
total-arcs [] rest f = refl
total-arcs (pair ∷ pairs) rest f =
    let ih = total-arcs pairs rest (λ es. f ((pair.0, pair.1) ∷ (pair.1, pair.0) ∷ es)) in omega (arith, ih)
