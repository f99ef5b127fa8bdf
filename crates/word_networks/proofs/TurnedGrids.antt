-- A grid read from the east is the same grid, with the weights exchanged: each node is turned by a quarter, and the columns from
-- the last on are the rows.
use Rattle.std.proofs.Common.{◌≡◌, ℕ, zero, suc, ◌+◌, ◌%◌, true, ◌==◌, List, [], ◌∷◌, ◌++◌, All, refl, sym, ap, ap₂, ◌∙◌, arith, append_assoc}
use Rattle.std.specs.List.{AllPass}
use Rattle.std.specs.Set.{is_member}
use Rattle.std.proofs.lemmas.List.Elements.{All-append, All-weaker, All-cons, All-nil}
use Rattle.state_sums.specs.LocalSums.{crossing, SameEverywhere, coefficient}
use Rattle.state_sums.specs.Networks.{Node, IsNode, names_of}
use Rattle.piece_laws.proofs.CrossingTurns.{quarter_turn, cycled}
use Rattle.piece_laws.proofs.OneNode.{same_between}
use Rattle.state_sums.proofs.WrittenNodes.{IsNode-crossing}
use Rattle.word_networks.specs.GridNetworks.{row_nodes, grid_nodes, turned_column, turned_grid, IsTurned}
use Rattle.piece_laws.proofs.PieceOrder.{runs_exchanged, exchanged_members}

-- pieces with the same names that are the same everywhere, whichever of them are open
pub record Alike (m delta free : ℕ) (open_names : List ℕ) (old new : List Node) : Type 0 where
  pub same : AllPass (is_member ◌==◌ (names_of old)) open_names → SameEverywhere m delta open_names record { nodes = old; free_loops = free } record { nodes = new; free_loops = free }
  pub members : (u : ℕ) → is_member ◌==◌ (names_of old) u ≡ is_member ◌==◌ (names_of new) u

module _ (m delta free : ℕ) (open_names : List ℕ) where
  abbrev Is : List Node → List Node → Type 0
  Is old new = Alike m delta free open_names old new

  itself : (old new : List Node) → old ≡ new → Is old new
  itself old new e = record {
    same = λ has. record { at = λ wanted. ap (λ ns. coefficient delta record { nodes = ns; free_loops = free } open_names wanted % m) e };
    members = λ u. ap (λ ns. is_member ◌==◌ (names_of ns) u) e;
  }

  on : (old between new : List Node) → Is old between → Is between new → Is old new
  on old between new a b = record {
    same = λ has.
        let next = All-weaker (λ u. is_member ◌==◌ (names_of old) u ≡ true) (λ u. is_member ◌==◌ (names_of between) u ≡ true) (λ u k. sym (a.members u) ∙ k) open_names has in
        record { at = λ wanted. (a.same has).at wanted ∙ (b.same next).at wanted };
    members = λ u. a.members u ∙ b.members u;
  }

  exchange : (front one other back : List Node) → All IsNode front → All IsNode one → All IsNode other → All IsNode back → Is (front ++ (one ++ (other ++ back))) (front ++ (other ++ (one ++ back)))
  exchange front one other back p q r s = record {
    same = λ has. runs_exchanged m delta free open_names front one other back p q r s has;
    members = λ u. exchanged_members front one other back u;
  }

  turn : (a b w x y z : ℕ) (front back : List Node) → All IsNode front → All IsNode back → Is (front ++ crossing a b w x y z ∷ back) (front ++ crossing b a x y z w ∷ back)
  turn a b w x y z front back p q = record {
    same = λ has. quarter_turn m delta a b w x y z free front back open_names p q has;
    members = λ u. same_between front (crossing a b w x y z ∷ []) (crossing b a x y z w ∷ []) back (cycled w x y z) u;
  }

  module _ (x y : ℕ) (v h : ℕ → ℕ → ℕ) where
    -- a column as it stands in the grid
    abbrev column : ℕ → ℕ → ℕ → List Node
    column i j zero = []
    column i j (suc count) = crossing x y (v i j) (h i (j + 1)) (v (i + 1) j) (h i j) ∷ column (i + 1) j count

    row_ok : (i j count : ℕ) → All IsNode (row_nodes x y v h i j count)
    row_ok i j zero = All-nil IsNode
    row_ok i j (suc count) = All-cons IsNode (crossing x y (v i j) (h i (j + 1)) (v (i + 1) j) (h i j)) (row_nodes x y v h i (j + 1) count) (IsNode-crossing x y (v i j) (h i (j + 1)) (v (i + 1) j) (h i j)) (row_ok i (j + 1) count)

    pub grid_ok : (i rows columns : ℕ) → All IsNode (grid_nodes x y v h i rows columns)
    grid_ok i zero columns = All-nil IsNode
    grid_ok i (suc rows) columns = All-append IsNode (row_nodes x y v h i 0 columns) (grid_nodes x y v h (i + 1) rows columns) (row_ok i 0 columns) (grid_ok (i + 1) rows columns)

    column_ok : (i j count : ℕ) → All IsNode (column i j count)
    column_ok i j zero = All-nil IsNode
    column_ok i j (suc count) = All-cons IsNode (crossing x y (v i j) (h i (j + 1)) (v (i + 1) j) (h i j)) (column (i + 1) j count) (IsNode-crossing x y (v i j) (h i (j + 1)) (v (i + 1) j) (h i j)) (column_ok (i + 1) j count)

    turned_ok : (i j count : ℕ) → All IsNode (turned_column x y v h i j count)
    turned_ok i j zero = All-nil IsNode
    turned_ok i j (suc count) = All-cons IsNode (crossing y x (h i (j + 1)) (v (i + 1) j) (h i j) (v i j)) (turned_column x y v h (i + 1) j count) (IsNode-crossing y x (h i (j + 1)) (v (i + 1) j) (h i j) (v i j)) (turned_ok (i + 1) j count)

    row_last : (i j count last : ℕ) → last ≡ j + count → row_nodes x y v h i j (suc count) ≡ row_nodes x y v h i j count ++ crossing x y (v i last) (h i (last + 1)) (v (i + 1) last) (h i last) ∷ []
    row_last i j zero last e = ap (λ c. crossing x y (v i c) (h i (c + 1)) (v (i + 1) c) (h i c) ∷ []) (let t : j ≡ last = omega (arith, e) in t)
    row_last i j (suc count) last e = ap (λ ns. crossing x y (v i j) (h i (j + 1)) (v (i + 1) j) (h i j) ∷ ns) (row_last i (j + 1) count last (omega (arith, e)))

    -- the last column comes first
    last_column : (i rows columns : ℕ) (front back : List Node) → All IsNode front → All IsNode back →
        Is (front ++ (grid_nodes x y v h i rows (suc columns) ++ back)) (front ++ (column i columns rows ++ (grid_nodes x y v h i rows columns ++ back)))
    last_column i zero columns front back p q = itself (front ++ back) (front ++ back) refl
    last_column i (suc rows) columns front back p q =
        let first = row_nodes x y v h i 0 columns in
        let corner = crossing x y (v i columns) (h i (columns + 1)) (v (i + 1) columns) (h i columns) in
        let rest = grid_nodes x y v h (i + 1) rows (suc columns) in
        let less = grid_nodes x y v h (i + 1) rows columns in
        let tower = column (i + 1) columns rows in
        let one : front ++ (grid_nodes x y v h i (suc rows) (suc columns) ++ back) ≡ (front ++ (first ++ corner ∷ [])) ++ (rest ++ back) =
        ap (λ ns. front ++ ((ns ++ rest) ++ back)) (row_last i 0 columns columns (omega arith))
        ∙ ap (λ ns. front ++ ns) (append_assoc (first ++ corner ∷ []) rest back) ∙ sym (append_assoc front (first ++ corner ∷ []) (rest ++ back)) in
        let two : (front ++ (first ++ corner ∷ [])) ++ (tower ++ (less ++ back)) ≡ front ++ (first ++ ((corner ∷ tower) ++ (less ++ back))) =
        append_assoc front (first ++ corner ∷ []) (tower ++ (less ++ back)) ∙ ap (λ ns. front ++ ns) (append_assoc first (corner ∷ []) (tower ++ (less ++ back))) in
        let three : front ++ ((corner ∷ tower) ++ (first ++ (less ++ back))) ≡ front ++ ((corner ∷ tower) ++ ((first ++ less) ++ back)) =
        ap (λ ns. front ++ ((corner ∷ tower) ++ ns)) (sym (append_assoc first less back)) in
        on _ _ _ (itself _ _ one)
        (on _ _ _
        (last_column (i + 1) rows columns (front ++ (first ++ corner ∷ [])) back (All-append IsNode front (first ++ corner ∷ []) p (All-append IsNode first (corner ∷ []) (row_ok i 0 columns) (column_ok i columns 1))) q)
        (on _ _ _ (itself _ _ two)
        (on _ _ _
        (exchange front first (corner ∷ tower) (less ++ back) p (row_ok i 0 columns) (column_ok i columns (suc rows)) (All-append IsNode less back (grid_ok (i + 1) rows columns) q))
        (itself _ _ three))))

    -- each node of a column is turned
    column_turned : (i j count : ℕ) (front back : List Node) → All IsNode front → All IsNode back → Is (front ++ (column i j count ++ back)) (front ++ (turned_column x y v h i j count ++ back))
    column_turned i j zero front back p q = itself (front ++ back) (front ++ back) refl
    column_turned i j (suc count) front back p q =
        let turned = crossing y x (h i (j + 1)) (v (i + 1) j) (h i j) (v i j) in
        let one : front ++ turned ∷ (column (i + 1) j count ++ back) ≡ (front ++ turned ∷ []) ++ (column (i + 1) j count ++ back) = sym (append_assoc front (turned ∷ []) (column (i + 1) j count ++ back)) in
        let two : (front ++ turned ∷ []) ++ (turned_column x y v h (i + 1) j count ++ back) ≡ front ++ turned ∷ (turned_column x y v h (i + 1) j count ++ back) = append_assoc front (turned ∷ []) (turned_column x y v h (i + 1) j count ++ back) in
        on _ _ _ (turn x y (v i j) (h i (j + 1)) (v (i + 1) j) (h i j) front (column (i + 1) j count ++ back) p (All-append IsNode (column (i + 1) j count) back (column_ok (i + 1) j count) q))
        (on _ _ _ (itself _ _ one)
        (on _ _ _ (column_turned (i + 1) j count (front ++ turned ∷ []) back (All-append IsNode front (turned ∷ []) p (turned_ok i j 1)) q) (itself _ _ two)))

    -- THE GRID READ FROM THE EAST
    pub grid_alike : (rows columns : ℕ) (front back : List Node) → All IsNode front → All IsNode back →
        Is (front ++ (grid_nodes x y v h 0 rows columns ++ back)) (front ++ (turned_grid x y v h rows columns ++ back))
    grid_alike rows zero front back p q = itself (front ++ (grid_nodes x y v h 0 rows 0 ++ back)) (front ++ back) (ap (λ ns. front ++ (ns ++ back)) (empty rows 0))
      where
        empty : (rows i : ℕ) → grid_nodes x y v h i rows 0 ≡ []
        empty zero i = refl
        empty (suc rows) i = empty rows (i + 1)
    grid_alike rows (suc columns) front back p q =
        let tower = turned_column x y v h 0 columns rows in
        let less = grid_nodes x y v h 0 rows columns in
        let one : front ++ (tower ++ (less ++ back)) ≡ (front ++ tower) ++ (less ++ back) = sym (append_assoc front tower (less ++ back)) in
        let two : (front ++ tower) ++ (turned_grid x y v h rows columns ++ back) ≡ front ++ ((tower ++ turned_grid x y v h rows columns) ++ back) =
        append_assoc front tower (turned_grid x y v h rows columns ++ back) ∙ ap (λ ns. front ++ ns) (sym (append_assoc tower (turned_grid x y v h rows columns) back)) in
        on _ _ _ (last_column 0 rows columns front back p q)
        (on _ _ _ (column_turned 0 columns rows front (less ++ back) p (All-append IsNode less back (grid_ok 0 rows columns) q))
        (on _ _ _ (itself _ _ one)
        (on _ _ _ (grid_alike rows columns (front ++ tower) back (All-append IsNode front tower p (turned_ok 0 columns rows)) q) (itself _ _ two))))

-- ---- the turned grid is a grid
module _ (x y : ℕ) (v h turned_v turned_h : ℕ → ℕ → ℕ) (rows columns : ℕ) (is : IsTurned v h turned_v turned_h rows columns) where
  row_is_column : (i j c count : ℕ) → i + c + 1 ≡ columns → j + count ≡ rows → row_nodes y x turned_v turned_h i j count ≡ turned_column x y v h j c count
  row_is_column i j c zero e f = refl
  row_is_column i j c (suc count) e f =
      let south = is.vertical i j (c + 1) (omega (arith, e)) (omega (arith, f)) in
      let east = is.horizontal i (j + 1) c e (omega (arith, f)) in
      let north = is.vertical (i + 1) j c (omega (arith, e)) (omega (arith, f)) in
      let west = is.horizontal i j c e (omega (arith, f)) in
      let ih = row_is_column i (j + 1) c count e (omega (arith, f)) in
      rw (south, east, north, west, ih)

  -- THE TURNED GRID IS A GRID
  pub grid_is_turned : (i count : ℕ) → i + count ≡ columns → grid_nodes y x turned_v turned_h i count rows ≡ turned_grid x y v h rows count
  grid_is_turned i zero e = refl
  grid_is_turned i (suc count) e = ap₂ (λ ns ms. ns ++ ms) (row_is_column i 0 count rows (omega (arith, e)) (omega arith)) (grid_is_turned (i + 1) count (omega (arith, e)))
