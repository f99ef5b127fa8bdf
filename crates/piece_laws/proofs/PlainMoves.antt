-- The first and the second move in every network, at any names and for all slots: the crossings are told from their corners, the pieces at
-- written names stand wherever they are, and the arcs' weights are factors.
use Rattle.std.proofs.Common.{append-nil, ◌≡◌, ℕ, zero, suc, ◌+◌, ◌*◌, ◌%◌, true, ◌==◌, List, [], ◌∷◌, ◌++◌, slice_index, refl, sym, ap, ap₂, ◌∙◌, arith, All, ◌⊎◌, inl, inr, ⊎_elim}
use Rattle.std.specs.Set.{is_member}
use Rattle.std.proofs.lemmas.List.Elements.{All-cons, All-nil, All-append}
use Rattle.state_sums.specs.LocalSums.{SameEverywhere, rename, arc, weighted_arc, crossing, AreSkeinNumbers, IsCut}
use Rattle.state_sums.specs.Networks.{Node, IsNode, names_of}
use Rattle.state_sums.specs.StateSums.{value}
use Rattle.state_sums.proofs.NetworkLaws.{replacement}
use Rattle.state_sums.proofs.WrittenNodes.{IsNode-crossing}
use Rattle.piece_laws.specs.Arcs.{arcs_of}
use Rattle.piece_laws.specs.Corners as piece
use Rattle.piece_laws.specs.Corners.{of_nodes, corner, corner_weight}
use Rattle.piece_laws.specs.Laws.{FirstMoveLaw, SecondMoveLaw}
use Rattle.piece_laws.specs.Pieces.{ArePaired}
use Rattle.piece_laws.proofs.Closing.{weight_is_factor}
use Rattle.piece_laws.proofs.CornerPieces.{curl_corner, bigon_corners}
use Rattle.piece_laws.proofs.CrossingTurns.{any_corner}
use Rattle.piece_laws.proofs.PiecesAnywhere.{piece_anywhere}
use Rattle.piece_laws.proofs.SkeinEquations.{exchanged_numbers}
use Rattle.piece_laws.proofs.WrittenPieces.{AreNodes-from_test, IsPiece-from_test, paired_same}

-- ---- at the first slot
module _ (m a b delta : ℕ) (numbers : AreSkeinNumbers m a b delta) (free : ℕ) (rest : List Node) (are : All IsNode rest) where
  abbrev V : List Node → ℕ
  V nodes = value m delta record { nodes = nodes; free_loops = free }

  nothing : free ≡ 0 + free
  nothing = omega arith

  pub curl_anywhere : (w x p q : ℕ) → (w + a * a * a) % m ≡ 0 % m → ArePaired (x ∷ x ∷ p ∷ q ∷ []) ((x ∷ x ∷ p ∷ q ∷ []) ++ names_of rest) →
      V (crossing a b x x p q ∷ rest) ≡ w * V (arcs_of ((x, p) ∷ (x, q) ∷ []) ++ rest) % m
  curl_anywhere w x p q factor pairs =
      let names : ℕ → ℕ = slice_index (p ∷ q ∷ x ∷ []) in
      let open_names : List ℕ = 0 ∷ 1 ∷ [] in
      ap (λ k. value m delta record { nodes = rename names (piece.curl_corner a b) ++ rest; free_loops = k }) nothing
      ∙ piece_anywhere m delta free names open_names (of_nodes (piece.curl_corner a b)) (of_nodes (piece.curl_arcs w)) rest
      (AreNodes-from_test (piece.curl_corner a b) refl) (AreNodes-from_test (piece.curl_arcs w) refl) are
      (IsPiece-from_test (piece.curl_corner a b) open_names refl refl) (IsPiece-from_test (piece.curl_arcs w) open_names refl refl)
      pairs (paired_same (x ∷ x ∷ p ∷ q ∷ []) (x ∷ p ∷ x ∷ q ∷ []) (names_of rest) (λ z. omega arith) pairs)
      (curl_corner m a b delta w numbers factor)
      ∙ sym (ap (λ k. value m delta record { nodes = weighted_arc w x p ∷ arc x q ∷ rest; free_loops = k }) nothing)
      ∙ weight_is_factor m delta free w x p (arc x q ∷ rest)

  pub bigon_anywhere : (x y p q r s : ℕ) → ArePaired (x ∷ y ∷ r ∷ s ∷ y ∷ x ∷ p ∷ q ∷ []) ((x ∷ y ∷ r ∷ s ∷ y ∷ x ∷ p ∷ q ∷ []) ++ names_of rest) →
      V (crossing b a x y r s ∷ crossing a b y x p q ∷ rest) ≡ V (arcs_of ((x, q) ∷ (x, r) ∷ (y, p) ∷ (y, s) ∷ []) ++ rest)
  bigon_anywhere x y p q r s pairs =
      let names : ℕ → ℕ = slice_index (p ∷ q ∷ r ∷ s ∷ x ∷ y ∷ []) in
      let open_names : List ℕ = 0 ∷ 1 ∷ 2 ∷ 3 ∷ [] in
      ap (λ k. value m delta record { nodes = rename names (piece.bigon_corners a b) ++ rest; free_loops = k }) nothing
      ∙ piece_anywhere m delta free names open_names (of_nodes (piece.bigon_corners a b)) (of_nodes piece.bigon_arcs) rest
      (AreNodes-from_test (piece.bigon_corners a b) refl) (AreNodes-from_test piece.bigon_arcs refl) are
      (IsPiece-from_test (piece.bigon_corners a b) open_names refl refl) (IsPiece-from_test piece.bigon_arcs open_names refl refl)
      pairs (paired_same (x ∷ y ∷ r ∷ s ∷ y ∷ x ∷ p ∷ q ∷ []) (x ∷ q ∷ x ∷ r ∷ y ∷ p ∷ y ∷ s ∷ []) (names_of rest) (λ z. omega arith) pairs)
      (bigon_corners m a b delta numbers)
      ∙ sym (ap (λ k. value m delta record { nodes = rename names piece.bigon_arcs ++ rest; free_loops = k }) nothing)

-- ---- for all slots
-- pieces that are the same everywhere have one value as closed networks
pub value_same : (m delta free : ℕ) (old new : List Node) → All IsNode old → All IsNode new →
    SameEverywhere m delta [] record { nodes = old; free_loops = free } record { nodes = new; free_loops = free } →
    value m delta record { nodes = old; free_loops = free } ≡ value m delta record { nodes = new; free_loops = free }
value_same m delta free old new p q same =
    let whole : free ≡ free + 0 = omega arith in
    let closed : (nodes : List Node) → value m delta record { nodes = nodes ++ []; free_loops = free + 0 } ≡ value m delta record { nodes = nodes; free_loops = free } =
    λ nodes. ap (λ k. value m delta record { nodes = nodes ++ []; free_loops = k }) (sym whole) ∙ ap (λ ns. value m delta record { nodes = ns; free_loops = free }) (append-nil nodes) in
    let alone : (nodes : List Node) → IsCut nodes [] [] = λ nodes. record { has_open = All-nil (λ x. is_member ◌==◌ (names_of nodes) x ≡ true); meets = λ x h k. h } in
    sym (closed old)
    ∙ replacement m delta 0 [] record { nodes = old; free_loops = free } record { nodes = new; free_loops = free } [] p q (All-nil IsNode) (alone old) (alone new) same
    ∙ closed new

pub IsNode-corner : (k a b w x y z : ℕ) → IsNode (corner k a b w x y z)
IsNode-corner zero a b w x y z = IsNode-crossing a b w x y z
IsNode-corner (suc k) a b w x y z = IsNode-corner k a b z w x y

-- a crossing of a network is told from a corner
pub value_corner : (m delta k a b w x y z free : ℕ) (front back : List Node) → All IsNode front → All IsNode back →
    value m delta record { nodes = front ++ corner k a b w x y z ∷ back; free_loops = free }
    ≡ value m delta record { nodes = front ++ crossing (corner_weight k a b) (corner_weight (suc k) a b) w x y z ∷ back; free_loops = free }
value_corner m delta k a b w x y z free front back p q =
    let old = corner k a b w x y z in
    let new = crossing (corner_weight k a b) (corner_weight (suc k) a b) w x y z in
    value_same m delta free (front ++ old ∷ back) (front ++ new ∷ back)
    (All-append IsNode front (old ∷ back) p (All-cons IsNode old back (IsNode-corner k a b w x y z) q))
    (All-append IsNode front (new ∷ back) p (All-cons IsNode new back (IsNode-crossing (corner_weight k a b) (corner_weight (suc k) a b) w x y z) q))
    (any_corner m delta k a b w x y z free front back [] p q (All-nil (λ u. is_member ◌==◌ (names_of (front ++ old ∷ back)) u ≡ true)))

pub corner_numbers : (k : ℕ) {m a b delta : ℕ} → AreSkeinNumbers m a b delta → AreSkeinNumbers m (corner_weight k a b) (corner_weight (suc k) a b) delta
corner_numbers zero numbers = numbers
corner_numbers (suc k) {a = a} {b = b} numbers = corner_numbers k {a = b} {b = a} (exchanged_numbers numbers)

-- THE FIRST MOVE
pub first_move : FirstMoveLaw
first_move m a b delta w free k x p q rest numbers factor are pairs =
    value_corner m delta k a b x x p q free [] rest (All-nil IsNode) are
    ∙ curl_anywhere m (corner_weight k a b) (corner_weight (suc k) a b) delta (corner_numbers k numbers) free rest are w x p q factor pairs

-- an even slot has the weight a, an odd one b
pub even_or_odd : (k a b : ℕ) → ((k % 2 ≡ 0) × (corner_weight k a b ≡ a) × (corner_weight (suc k) a b ≡ b)) ⊎ ((k % 2 ≡ 1) × (corner_weight k a b ≡ b) × (corner_weight (suc k) a b ≡ a))
even_or_odd zero a b = inl (refl, refl, refl)
even_or_odd (suc k) a b =
    ⊎_elim (λ e. inr (let t = e.0 in omega (arith, t), e.1, e.2)) (λ e. inl (let t = e.0 in omega (arith, t), e.1, e.2)) (even_or_odd k b a)

-- THE SECOND MOVE
pub second_move : SecondMoveLaw
second_move m a b delta free k l x y p q r s rest numbers odd are pairs =
    let second = corner l a b y x p q in
    let told = value_corner m delta k a b x y r s free [] (second ∷ rest) (All-nil IsNode) (All-cons IsNode second rest (IsNode-corner l a b y x p q) are) in
    let C : ℕ → ℕ → Node = λ c d. crossing c d x y r s in
    let both : (c d e f : ℕ) → corner_weight k a b ≡ c → corner_weight (suc k) a b ≡ d → corner_weight l a b ≡ e → corner_weight (suc l) a b ≡ f →
    value m delta record { nodes = corner k a b x y r s ∷ second ∷ rest; free_loops = free } ≡ value m delta record { nodes = C c d ∷ crossing e f y x p q ∷ rest; free_loops = free } =
    λ c d e f hc hd he hf.
    told
    ∙ ap₂ (λ u v. value m delta record { nodes = C u v ∷ second ∷ rest; free_loops = free }) hc hd
    ∙ value_corner m delta l a b y x p q free (C c d ∷ []) rest (All-cons IsNode (C c d) [] (IsNode-crossing c d x y r s) (All-nil IsNode)) are
    ∙ ap₂ (λ u v. value m delta record { nodes = C c d ∷ crossing u v y x p q ∷ rest; free_loops = free }) he hf in
    ⊎_elim
    (λ e. ⊎_elim
    (λ f. absurd (let t = e.0 in let u = f.0 in omega (arith, t, u, odd)))
    (λ f. both a b b a e.1 e.2 f.1 f.2 ∙ bigon_anywhere m b a delta (exchanged_numbers numbers) free rest are x y p q r s pairs)
    (even_or_odd l a b))
    (λ e. ⊎_elim
    (λ f. both b a a b e.1 e.2 f.1 f.2 ∙ bigon_anywhere m a b delta numbers free rest are x y p q r s pairs)
    (λ f. absurd (let t = e.0 in let u = f.0 in omega (arith, t, u, odd)))
    (even_or_odd l a b))
    (even_or_odd k a b)
