-- The third move in every network, at any names and for all slots: at the corners that are odd, odd and even it is the piece at written names;
-- with the weights exchanged they are even, even and odd, and the three crossings may be begun at each.
use Rattle.std.proofs.Common.{◌≡◌, ℕ, suc, ◌+◌, List, [], ◌∷◌, ◌++◌, slice_index, refl, sym, ap, ◌∙◌, arith, All, ⊎_elim}
use Rattle.std.proofs.lemmas.List.Elements.{All-cons, All-nil}
use Rattle.state_sums.specs.LocalSums.{rename, crossing, AreSkeinNumbers}
use Rattle.state_sums.specs.Networks.{Node, IsNode, names_of}
use Rattle.state_sums.specs.StateSums.{value}
use Rattle.state_sums.proofs.StateEdges.{HavePlaces-from_nodes}
use Rattle.state_sums.proofs.WrittenNodes.{IsNode-crossing}
use Rattle.piece_laws.specs.Corners as piece
use Rattle.piece_laws.specs.Corners.{of_nodes, corner, corner_weight}
use Rattle.piece_laws.specs.Laws.{ThirdMoveLaw}
use Rattle.piece_laws.specs.Pieces.{ArePaired}
use Rattle.piece_laws.proofs.CornerPieces.{triangle_corners}
use Rattle.piece_laws.proofs.MovedRuns.{value_moved}
use Rattle.piece_laws.proofs.PiecesAnywhere.{piece_anywhere}
use Rattle.piece_laws.proofs.PlainMoves.{value_corner, IsNode-corner, even_or_odd}
use Rattle.piece_laws.proofs.SkeinEquations.{exchanged_numbers}
use Rattle.piece_laws.proofs.WrittenPieces.{AreNodes-from_test, IsPiece-from_test, paired_same}

-- the value of three crossings and other nodes
abbrev three : ℕ → ℕ → ℕ → List Node → Node → Node → Node → ℕ
three m delta free rest first second third = value m delta record { nodes = first ∷ second ∷ third ∷ rest; free_loops = free }

module _ (m delta free : ℕ) (rest : List Node) (are : All IsNode rest) where
  -- ---- the crossings begun at the second one
  pub begun_later : (a b c d e f w x y z w' x' y' z' w'' x'' y'' z'' : ℕ) →
      three m delta free rest (crossing a b w x y z) (crossing c d w' x' y' z') (crossing e f w'' x'' y'' z'')
      ≡ three m delta free rest (crossing c d w' x' y' z') (crossing e f w'' x'' y'' z'') (crossing a b w x y z)
  begun_later a b c d e f w x y z w' x' y' z' w'' x'' y'' z'' =
      let one = crossing a b w x y z in
      let others = crossing c d w' x' y' z' ∷ crossing e f w'' x'' y'' z'' ∷ [] in
      value_moved m delta free (one ∷ []) others rest
      (HavePlaces-from_nodes (one ∷ []) (All-cons IsNode one [] (IsNode-crossing a b w x y z) (All-nil IsNode)))
      (HavePlaces-from_nodes others (AreNodes-from_test others refl)) (HavePlaces-from_nodes rest are)

  -- ---- at the first slots
  pub triangle_anywhere : (a b x y z p q r s t u : ℕ) → AreSkeinNumbers m a b delta →
      ArePaired (y ∷ z ∷ t ∷ u ∷ x ∷ y ∷ r ∷ s ∷ z ∷ x ∷ p ∷ q ∷ []) ((y ∷ z ∷ t ∷ u ∷ x ∷ y ∷ r ∷ s ∷ z ∷ x ∷ p ∷ q ∷ []) ++ names_of rest) →
      three m delta free rest (crossing b a y z t u) (crossing b a x y r s) (crossing a b z x p q)
      ≡ three m delta free rest (crossing b a s p y z) (crossing b a q t x y) (crossing a b u r z x)
  triangle_anywhere a b x y z p q r s t u numbers pairs =
      let names : ℕ → ℕ = slice_index (p ∷ q ∷ r ∷ s ∷ t ∷ u ∷ x ∷ y ∷ z ∷ []) in
      let open_names : List ℕ = 0 ∷ 1 ∷ 2 ∷ 3 ∷ 4 ∷ 5 ∷ [] in
      let nothing : free ≡ 0 + free = omega arith in
      ap (λ k. value m delta record { nodes = rename names (piece.triangle_corners a b) ++ rest; free_loops = k }) nothing
      ∙ piece_anywhere m delta free names open_names (of_nodes (piece.triangle_corners a b)) (of_nodes (piece.triangle_moved a b)) rest
      (AreNodes-from_test (piece.triangle_corners a b) refl) (AreNodes-from_test (piece.triangle_moved a b) refl) are
      (IsPiece-from_test (piece.triangle_corners a b) open_names refl refl) (IsPiece-from_test (piece.triangle_moved a b) open_names refl refl)
      pairs (paired_same (y ∷ z ∷ t ∷ u ∷ x ∷ y ∷ r ∷ s ∷ z ∷ x ∷ p ∷ q ∷ []) (s ∷ p ∷ y ∷ z ∷ q ∷ t ∷ x ∷ y ∷ u ∷ r ∷ z ∷ x ∷ []) (names_of rest) (λ v. omega arith) pairs)
      (triangle_corners m a b delta numbers)
      ∙ sym (ap (λ k. value m delta record { nodes = rename names (piece.triangle_moved a b) ++ rest; free_loops = k }) nothing)

  module _ (x y z p q r s t u : ℕ) (pairs : ArePaired (y ∷ z ∷ t ∷ u ∷ x ∷ y ∷ r ∷ s ∷ z ∷ x ∷ p ∷ q ∷ []) ((y ∷ z ∷ t ∷ u ∷ x ∷ y ∷ r ∷ s ∷ z ∷ x ∷ p ∷ q ∷ []) ++ names_of rest)) where
    abbrev listed : List ℕ
    listed = y ∷ z ∷ t ∷ u ∷ x ∷ y ∷ r ∷ s ∷ z ∷ x ∷ p ∷ q ∷ []

    -- the three crossings, and the three that they become, with the weights of each
    abbrev before : ℕ → ℕ → ℕ → ℕ → ℕ → ℕ → ℕ
    before a b c d e f = three m delta free rest (crossing a b y z t u) (crossing c d x y r s) (crossing e f z x p q)

    abbrev after : ℕ → ℕ → ℕ → ℕ → ℕ → ℕ → ℕ
    after a b c d e f = three m delta free rest (crossing a b s p y z) (crossing c d q t x y) (crossing e f u r z x)

    last_even : (a b : ℕ) → AreSkeinNumbers m a b delta → before b a b a a b ≡ after b a b a a b
    last_even a b numbers = triangle_anywhere a b x y z p q r s t u numbers pairs

    -- begun at the second crossing: x, y, z are z, x, y there
    first_even : (a b : ℕ) → AreSkeinNumbers m a b delta → before a b b a b a ≡ after a b b a b a
    first_even a b numbers =
        begun_later a b b a b a y z t u x y r s z x p q
        ∙ triangle_anywhere a b z x y t u p q r s numbers (paired_same listed (x ∷ y ∷ r ∷ s ∷ z ∷ x ∷ p ∷ q ∷ y ∷ z ∷ t ∷ u ∷ []) (names_of rest) (λ v. omega arith) pairs)
        ∙ sym (begun_later a b b a b a s p y z q t x y u r z x)

    -- and at the third
    middle_even : (a b : ℕ) → AreSkeinNumbers m a b delta → before b a a b b a ≡ after b a a b b a
    middle_even a b numbers =
        begun_later b a a b b a y z t u x y r s z x p q ∙ begun_later a b b a b a x y r s z x p q y z t u
        ∙ triangle_anywhere a b y z x r s t u p q numbers (paired_same listed (z ∷ x ∷ p ∷ q ∷ y ∷ z ∷ t ∷ u ∷ x ∷ y ∷ r ∷ s ∷ []) (names_of rest) (λ v. omega arith) pairs)
        ∙ sym (begun_later b a a b b a s p y z q t x y u r z x ∙ begun_later a b b a b a q t x y u r z x s p y z)

    -- three crossings told from their corners
    told : (k l j a b w x y z w' x' y' z' w'' x'' y'' z'' : ℕ) →
        three m delta free rest (corner k a b w x y z) (corner l a b w' x' y' z') (corner j a b w'' x'' y'' z'')
        ≡ three m delta free rest (crossing (corner_weight k a b) (corner_weight (suc k) a b) w x y z) (crossing (corner_weight l a b) (corner_weight (suc l) a b) w' x' y' z')
        (crossing (corner_weight j a b) (corner_weight (suc j) a b) w'' x'' y'' z'')
    told k l j a b w x y z w' x' y' z' w'' x'' y'' z'' =
        let first = crossing (corner_weight k a b) (corner_weight (suc k) a b) w x y z in
        let first_ok = IsNode-crossing (corner_weight k a b) (corner_weight (suc k) a b) w x y z in
        let second = corner l a b w' x' y' z' in
        let crossed = crossing (corner_weight l a b) (corner_weight (suc l) a b) w' x' y' z' in
        let crossed_ok = IsNode-crossing (corner_weight l a b) (corner_weight (suc l) a b) w' x' y' z' in
        let third = corner j a b w'' x'' y'' z'' in
        let third_ok = IsNode-corner j a b w'' x'' y'' z'' in
        value_corner m delta k a b w x y z free [] (second ∷ third ∷ rest) (All-nil IsNode) (All-cons IsNode second (third ∷ rest) (IsNode-corner l a b w' x' y' z') (All-cons IsNode third rest third_ok are))
        ∙ value_corner m delta l a b w' x' y' z' free (first ∷ []) (third ∷ rest) (All-cons IsNode first [] first_ok (All-nil IsNode)) (All-cons IsNode third rest third_ok are)
        ∙ value_corner m delta j a b w'' x'' y'' z'' free (first ∷ crossed ∷ []) rest (All-cons IsNode first (crossed ∷ []) first_ok (All-cons IsNode crossed [] crossed_ok (All-nil IsNode))) are

    -- weights that are told to be these
    pub with_weights : (k l j a b c d e f g h : ℕ) → (corner_weight k a b ≡ c) × (corner_weight (suc k) a b ≡ d) → (corner_weight l a b ≡ e) × (corner_weight (suc l) a b ≡ f) →
        (corner_weight j a b ≡ g) × (corner_weight (suc j) a b ≡ h) → before c d e f g h ≡ after c d e f g h →
        three m delta free rest (corner k a b y z t u) (corner l a b x y r s) (corner j a b z x p q)
        ≡ three m delta free rest (corner k a b s p y z) (corner l a b q t x y) (corner j a b u r z x)
    with_weights k l j a b c d e f g h i1 i2 i3 same =
        let moved : (P : ℕ → ℕ → ℕ → ℕ → ℕ → ℕ → ℕ) →
        P (corner_weight k a b) (corner_weight (suc k) a b) (corner_weight l a b) (corner_weight (suc l) a b) (corner_weight j a b) (corner_weight (suc j) a b) ≡ P c d e f g h =
        λ P. rw (i1.0, i1.1, i2.0, i2.1, i3.0, i3.1) refl in
        told k l j a b y z t u x y r s z x p q ∙ moved before ∙ same ∙ sym (moved after) ∙ sym (told k l j a b s p y z q t x y u r z x)

-- THE THIRD MOVE
pub third_move : ThirdMoveLaw
third_move m a b delta free k l j x y z p q r s t u rest numbers mixed are pairs =
    let other = exchanged_numbers numbers in
    let by : (c d e f g h : ℕ) → (corner_weight k a b ≡ c) × (corner_weight (suc k) a b ≡ d) → (corner_weight l a b ≡ e) × (corner_weight (suc l) a b ≡ f) →
    (corner_weight j a b ≡ g) × (corner_weight (suc j) a b ≡ h) → before m delta free rest are x y z p q r s t u pairs c d e f g h ≡ after m delta free rest are x y z p q r s t u pairs c d e f g h →
    three m delta free rest (corner k a b y z t u) (corner l a b x y r s) (corner j a b z x p q) ≡ three m delta free rest (corner k a b s p y z) (corner l a b q t x y) (corner j a b u r z x) =
    with_weights m delta free rest are x y z p q r s t u pairs k l j a b in
    let last = last_even m delta free rest are x y z p q r s t u pairs in
    let first = first_even m delta free rest are x y z p q r s t u pairs in
    let middle = middle_even m delta free rest are x y z p q r s t u pairs in
    ⊎_elim
    (λ e. ⊎_elim
    (λ f. ⊎_elim
    (λ g. absurd (mixed (e.0 ∙ sym f.0, f.0 ∙ sym g.0)))
    (λ g. by a b a b b a (e.1, e.2) (f.1, f.2) (g.1, g.2) (last b a other))
    (even_or_odd j a b))
    (λ f. ⊎_elim
    (λ g. by a b b a a b (e.1, e.2) (f.1, f.2) (g.1, g.2) (middle b a other))
    (λ g. by a b b a b a (e.1, e.2) (f.1, f.2) (g.1, g.2) (first a b numbers))
    (even_or_odd j a b))
    (even_or_odd l a b))
    (λ e. ⊎_elim
    (λ f. ⊎_elim
    (λ g. by b a a b a b (e.1, e.2) (f.1, f.2) (g.1, g.2) (first b a other))
    (λ g. by b a a b b a (e.1, e.2) (f.1, f.2) (g.1, g.2) (middle a b numbers))
    (even_or_odd j a b))
    (λ f. ⊎_elim
    (λ g. by b a b a a b (e.1, e.2) (f.1, f.2) (g.1, g.2) (last a b numbers))
    (λ g. absurd (mixed (e.0 ∙ sym f.0, f.0 ∙ sym g.0)))
    (even_or_odd j a b))
    (even_or_odd l a b))
    (even_or_odd k a b)
