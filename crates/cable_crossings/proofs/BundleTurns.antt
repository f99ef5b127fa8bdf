-- Two bundles that cross and cross back are pulled apart, at any names: both crossings as they stand.
use Rattle.std.proofs.Common.{◌≡◌, ℕ, zero, suc, ◌+◌, ◌-◌, ◌<◌, ◌≤◌, ◌==◌, List, [], ◌∷◌, ◌++◌, refl, sym, ap, ap₂, ◌∙◌, arith, All, append-nil, append_assoc}
use Rattle.std.specs.Set.{is_member}
use Rattle.std.proofs.lemmas.List.Elements.{All-append, All-nil}
use Rattle.std.proofs.lemmas.List.Sums.{AllPass-from_list_all}
use Rattle.state_sums.specs.LocalSums.{SameEverywhere, IsCut, crossing, AreSkeinNumbers}
use Rattle.state_sums.specs.Networks.{Node, IsNode, names_of}
use Rattle.list_lemmas.specs.Times.{times_in}
use Rattle.state_sums.specs.StateSums.{value}
use Rattle.state_sums.proofs.NetworkLaws.{replacement}
use Rattle.state_sums.proofs.StateEdges.{HavePlaces-from_nodes}
use Rattle.piece_laws.proofs.MovedRuns.{value_moved}
use Rattle.piece_laws.specs.Arcs.{arcs_of}
use Rattle.piece_laws.specs.Pieces.{ArePaired}
use Rattle.list_lemmas.proofs.Times.{times_of_member, times_in-cons, times_in-append}
use Rattle.cables.proofs.NameCounts.{at, times_of-append}
use Rattle.word_networks.specs.GridNetworks.{row_nodes, grid_nodes, turned_column, turned_grid, IsTurned}
use Rattle.word_networks.proofs.NetworkLaws.{turned_grids}
use Rattle.word_networks.proofs.TurnedGrids.{grid_ok, grid_is_turned}
use Rattle.cable_crossings.proofs.BundleBigon.{bundle_bigon_turned, turned_v, turned_h, pairs}
use Rattle.cable_crossings.proofs.StepPieces.{member_of_one}

-- ---- how often names stand in a grid that is read from the east
row_last : (x y : ℕ) (v h : ℕ → ℕ → ℕ) (i j count last : ℕ) → last ≡ j + count →
    row_nodes x y v h i j (suc count) ≡ row_nodes x y v h i j count ++ crossing x y (v i last) (h i (last + 1)) (v (i + 1) last) (h i last) ∷ []
row_last x y v h i j zero last e = ap (λ c. crossing x y (v i c) (h i (c + 1)) (v (i + 1) c) (h i c) ∷ []) (let t : j ≡ last = omega (arith, e) in t)
row_last x y v h i j (suc count) last e = ap (λ ns. crossing x y (v i j) (h i (j + 1)) (v (i + 1) j) (h i j) ∷ ns) (row_last x y v h i (j + 1) count last (omega (arith, e)))

four-at : (z b e t w : ℕ) (ns : List ℕ) → times_in (b ∷ e ∷ t ∷ w ∷ ns) z ≡ at z b + at z e + at z t + at z w + times_in ns z
four-at z b e t w ns =
    let k = times_in-cons b (e ∷ t ∷ w ∷ ns) z in
    let l = times_in-cons e (t ∷ w ∷ ns) z in
    let m = times_in-cons t (w ∷ ns) z in
    let n = times_in-cons w ns z in
    omega (arith, k, l, m, n)

column_times : (z x y : ℕ) (v h : ℕ → ℕ → ℕ) (i rows columns : ℕ) →
    times_in (names_of (grid_nodes x y v h i rows (suc columns))) z ≡ times_in (names_of (turned_column x y v h i columns rows)) z + times_in (names_of (grid_nodes x y v h i rows columns)) z
column_times z x y v h i zero columns = omega arith
column_times z x y v h i (suc rows) columns =
    let first = row_nodes x y v h i 0 columns in
    let corner = crossing x y (v i columns) (h i (columns + 1)) (v (i + 1) columns) (h i columns) in
    let rest = grid_nodes x y v h (i + 1) rows (suc columns) in
    let less = grid_nodes x y v h (i + 1) rows columns in
    let tower = turned_column x y v h (i + 1) columns rows in
    let ih = column_times z x y v h (i + 1) rows columns in
    let a = times_of-append z (row_nodes x y v h i 0 (suc columns)) rest in
    let b = ap (λ ns. times_in (names_of ns) z) (row_last x y v h i 0 columns columns (omega arith)) in
    let c = times_of-append z first (corner ∷ []) in
    let d = four-at z (v i columns) (h i (columns + 1)) (v (i + 1) columns) (h i columns) [] in
    let e = four-at z (h i (columns + 1)) (v (i + 1) columns) (h i columns) (v i columns) (names_of tower) in
    let f = times_of-append z first less in
    omega (arith, ih, a, b, c, d, e, f)

turned_grid_times : (z x y : ℕ) (v h : ℕ → ℕ → ℕ) (rows columns : ℕ) → times_in (names_of (grid_nodes x y v h 0 rows columns)) z ≡ times_in (names_of (turned_grid x y v h rows columns)) z
turned_grid_times z x y v h rows zero = ap (λ ns. times_in (names_of ns) z) (empty rows 0)
  where
    empty : (rows i : ℕ) → grid_nodes x y v h i rows 0 ≡ []
    empty zero i = refl
    empty (suc rows) i = empty rows (i + 1)
turned_grid_times z x y v h rows (suc columns) =
    let a = column_times z x y v h 0 rows columns in
    let ih = turned_grid_times z x y v h rows columns in
    let b = times_of-append z (turned_column x y v h 0 columns rows) (turned_grid x y v h rows columns) in
    omega (arith, a, ih, b)

pub turned_times : (z x y : ℕ) (v h tv th : ℕ → ℕ → ℕ) (rows columns : ℕ) → IsTurned v h tv th rows columns →
    times_in (names_of (grid_nodes y x tv th 0 columns rows)) z ≡ times_in (names_of (grid_nodes x y v h 0 rows columns)) z
turned_times z x y v h tv th rows columns is =
    ap (λ ns. times_in (names_of ns) z) (grid_is_turned x y v h tv th rows columns is 0 columns (omega arith)) ∙ sym (turned_grid_times z x y v h rows columns)

-- ---- two runs of nodes change places
pub runs_exchanged : (m delta free : ℕ) (one other rest : List Node) → All IsNode one → All IsNode other → All IsNode rest →
    value m delta record { nodes = one ++ (other ++ rest); free_loops = free } ≡ value m delta record { nodes = other ++ (one ++ rest); free_loops = free }
runs_exchanged m delta free one other rest p q r = value_moved m delta free one other rest (HavePlaces-from_nodes one p) (HavePlaces-from_nodes other q) (HavePlaces-from_nodes rest r)

-- ---- pieces without open names
pub value_of_same : (m delta free : ℕ) (old new : List Node) → All IsNode old → All IsNode new → SameEverywhere m delta [] record { nodes = old; free_loops = 0 } record { nodes = new; free_loops = 0 } →
    value m delta record { nodes = old; free_loops = free } ≡ value m delta record { nodes = new; free_loops = free }
value_of_same m delta free old new p q same =
    let V : List Node → ℕ → ℕ = λ ns k. value m delta record { nodes = ns; free_loops = k } in
    let nothing : free ≡ 0 + free = omega arith in
    let cut : (ns : List Node) → IsCut ns [] [] = λ ns. record { has_open = AllPass-from_list_all (is_member ◌==◌ (names_of ns)) [] refl; meets = λ x m n. absurd (grind (arith, m)) } in
    ap₂ V (sym (append-nil old)) nothing
    ∙ replacement m delta free [] record { nodes = old; free_loops = 0 } record { nodes = new; free_loops = 0 } [] p q (All-nil IsNode) (cut old) (cut new) same
    ∙ sym (ap₂ V (sym (append-nil new)) nothing)

paired_alike : (xs ys names : List ℕ) → ((z : ℕ) → times_in xs z ≡ times_in ys z) → ArePaired xs (xs ++ names) → ArePaired ys (ys ++ names)
paired_alike xs ys names same h z m =
    let one = times_of_member z ys m in
    let e = same z in
    let two = h z (member_of_one z xs (omega (arith, one, e))) in
    let a = times_in-append xs names z in
    let b = times_in-append ys names z in
    omega (arith, two, a, b, e)

module _ (o u : ℕ) (some_o : 0 < o) (some_u : 0 < u) (few_o : o ≤ 8) (few_u : u ≤ 8)
    (v1 h1 v2 h2 : ℕ → ℕ → ℕ) (meet_h : (i : ℕ) → i < o → h1 i 0 ≡ h2 (o - 1 - i) 0) (meet_v : (c : ℕ) → c < u → v1 0 c ≡ v2 o c)
    (m a b delta free : ℕ) (numbers : AreSkeinNumbers m a b delta) (rest : List Node) (ok : All IsNode rest) where
  abbrev g1 : List Node
  g1 = grid_nodes a b v1 h1 0 o u

  abbrev g2 : List Node
  g2 = grid_nodes a b v2 h2 0 o u

  abbrev tv : ℕ → ℕ → ℕ
  tv = turned_v o u some_o some_u few_o few_u v1 h1 v2 h2 meet_h meet_v

  abbrev th : ℕ → ℕ → ℕ
  th = turned_h o u some_o some_u few_o few_u v1 h1 v2 h2 meet_h meet_v

  abbrev turned : List Node
  turned = grid_nodes b a tv th 0 u o

  is_turned : IsTurned v2 h2 tv th o u
  is_turned = record {
    vertical = λ i j c e l. ap (h2 j) (omega (arith, e));
    horizontal = λ i j c e l. ap (v2 j) (omega (arith, e));
  }

  abbrev pub both : List (ℕ × ℕ)
  both = pairs o u some_o some_u few_o few_u v1 h1 v2 h2 meet_h meet_v

  two_times : (z : ℕ) → times_in (names_of (g1 ++ g2)) z ≡ times_in (names_of (turned ++ g1)) z
  two_times z =
      let x = times_of-append z g1 g2 in
      let y = times_of-append z turned g1 in
      let t = turned_times z a b v2 h2 tv th o u is_turned in
      omega (arith, x, y, t)

  -- TWO BUNDLES ARE PULLED APART, AS THEY STAND
  pub bundle_bigon : ArePaired (names_of (g1 ++ g2)) (names_of (g1 ++ g2) ++ names_of rest) → ArePaired (names_of (arcs_of both)) (names_of (arcs_of both) ++ names_of rest) →
      value m delta record { nodes = g1 ++ (g2 ++ rest); free_loops = free } ≡ value m delta record { nodes = arcs_of both ++ rest; free_loops = free }
  bundle_bigon old_pairs new_pairs =
      let ok1 = grid_ok m delta free [] a b v1 h1 0 o u in
      let ok2 = grid_ok m delta free [] a b v2 h2 0 o u in
      let okt = grid_ok m delta free [] b a tv th 0 u o in
      let none : (ns : List Node) → _ = λ ns. AllPass-from_list_all (is_member ◌==◌ (names_of ns)) [] refl in
      let V : List Node → ℕ = λ ns. value m delta record { nodes = ns; free_loops = free } in
      value_of_same m delta free (g1 ++ (g2 ++ rest)) (g1 ++ (turned ++ rest)) (All-append IsNode g1 (g2 ++ rest) ok1 (All-append IsNode g2 rest ok2 ok)) (All-append IsNode g1 (turned ++ rest) ok1 (All-append IsNode turned rest okt ok))
      (turned_grids m delta 0 a b o u v2 h2 tv th [] g1 rest is_turned ok1 ok (none (g1 ++ (g2 ++ rest))))
      ∙ runs_exchanged m delta free g1 turned rest ok1 okt ok
      ∙ ap V (sym (append_assoc turned g1 rest))
      ∙ bundle_bigon_turned o u some_o some_u few_o few_u v1 h1 v2 h2 meet_h meet_v m a b delta free numbers rest ok
      (paired_alike (names_of (g1 ++ g2)) (names_of (turned ++ g1)) (names_of rest) two_times old_pairs) new_pairs
