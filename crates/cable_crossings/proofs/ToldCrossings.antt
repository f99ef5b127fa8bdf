-- A cabled crossing told from any of its slots: a quarter turn makes the second slot the first and exchanges the weights. Each is a
-- crossing of bundles, at names that its four bundles of ends bound.
use Rattle.std.proofs.Common.{◌≡◌, ℕ, zero, suc, ◌+◌, ◌-◌, ◌*◌, ◌^◌, ◌%◌, ◌<◌, ◌==◌, cond, List, [], ◌∷◌, ◌++◌, map, length, reverse, slice_index, refl, sym, ap, ap₂, ◌∙◌, arith, All, subst}
use Rattle.std.specs.List.{range_with_len, zip}
use Rattle.std.specs.Set.{is_member}
use Rattle.std.proofs.lemmas.List.{ext_get_or, get_or-reverse, length-reverse, reverse-reverse}
use Rattle.std.proofs.lemmas.List.Elements.{All-append, All-cons, All-head, All-nil}
use Rattle.std.proofs.lemmas.List.FromFn.{length-map-range_with_len, get_or-map-range_with_len}
use Rattle.std.proofs.lemmas.List.Sums.{AllPass-from_list_all}
use Rattle.state_sums.specs.Networks.{Node, IsNode, names_of}
use Rattle.state_sums.specs.StateSums.{value}
use Rattle.list_lemmas.specs.Times.{times_in}
use Rattle.list_lemmas.proofs.Times.{times_in-append}
use Rattle.root_quantum.specs.Parameters.{Parameters}
use Rattle.root_quantum.specs.QuantumNumbers.{inverse_root}
use Rattle.piece_laws.specs.Arcs.{arcs_of}
use Rattle.piece_laws.specs.TurnedNodes.{without_group}
use Rattle.piece_laws.proofs.Ungrouped.{groups}
use Rattle.cables.specs.CableNodes.{crossing_cable, through_node}
use Rattle.cables.proofs.NameCounts.{times-reverse}
use Rattle.word_networks.specs.GridNetworks.{grid_nodes, IsTurned}
use Rattle.word_networks.proofs.NetworkLaws.{turned_grids}
use Rattle.cable_crossings.proofs.BundleTurns.{value_of_same, turned_times}
use Rattle.cable_crossings.proofs.CabledBigon.{edge_v, edge_h, cabled_as_grid, at_last, names_of_arcs, names_of-ungrouped, ungrouped_twice, zip-times}
use Rattle.cable_crossings.proofs.CabledGrids.{ungrouped-append}
use Rattle.cable_crossings.proofs.CrossingSteps.{long, between, crossing_nodes, crossing_ok}
use Rattle.cable_crossings.proofs.ThroughArcs.{through_arcs, turned_arcs}

-- ---- pairs that are listed from the other end, and turned
pub ranged : (f : ℕ → ℕ) (n k : ℕ) → k < n → slice_index (map f (range_with_len 0 n)) k ≡ f k
ranged f n k l = let z : 0 + k ≡ k = omega arith in get_or-map-range_with_len f 0 n k k 0 l z

reversed_range : (f : ℕ → ℕ) (n : ℕ) → reverse (map f (range_with_len 0 n)) ≡ map (λ i. f (n - 1 - i)) (range_with_len 0 n)
reversed_range f n =
    let xs = map f (range_with_len 0 n) in
    let g : ℕ → ℕ = λ i. f (n - 1 - i) in
    let ys = map g (range_with_len 0 n) in
    let lx = length-map-range_with_len f 0 n in
    let ly = length-map-range_with_len g 0 n in
    let lr = length-reverse xs in
    ext_get_or 0 (reverse xs) ys (lr ∙ lx ∙ sym ly) (λ k b.
    let l : k < n = omega (arith, b, lr, lx) in
    get_or-reverse xs k 0 (omega (arith, l, lx)) ∙ ap (λ i. slice_index xs (i - 1 - k)) lx ∙ ranged f n (n - 1 - k) (omega (arith, l)) ∙ sym (ranged g n k l))

pub listed : (f : ℕ → ℕ) (xs : List ℕ) (n : ℕ) → length xs ≡ n → ((i : ℕ) → i < n → slice_index xs i ≡ f i) → xs ≡ map f (range_with_len 0 n)
listed f xs n l h =
    let ly = length-map-range_with_len f 0 n in
    ext_get_or 0 xs (map f (range_with_len 0 n)) (l ∙ sym ly) (λ k b. (let c : k < n = omega (arith, b, l) in h k c ∙ sym (ranged f n k c)))

turned_between : (m delta free n : ℕ) (f g : ℕ → ℕ) (rest : List Node) → All IsNode rest →
    value m delta record { nodes = arcs_of (between f g n) ++ rest; free_loops = free } ≡ value m delta record { nodes = arcs_of (between (λ i. g (n - 1 - i)) (λ i. f (n - 1 - i)) n) ++ rest; free_loops = free }
turned_between m delta free n f g rest ok =
    let xs = map f (range_with_len 0 n) in
    let ys = map g (range_with_len 0 n) in
    let V : List (ℕ × ℕ) → ℕ = λ es. value m delta record { nodes = arcs_of es ++ rest; free_loops = free } in
    let lx = length-map-range_with_len f 0 n in
    let ly = length-map-range_with_len g 0 n in
    ap (λ us. V (zip xs us)) (sym (reverse-reverse ys))
    ∙ turned_arcs m delta free n xs (reverse ys) rest lx (length-reverse ys ∙ ly) ok
    ∙ ap₂ (λ us vs. V (zip us vs)) (reversed_range g n) (reversed_range f n)

through_times : (group z : ℕ) (xs ys : List ℕ) → times_in (names_of (through_node group xs ys ∷ [])) z ≡ times_in xs z + times_in ys z
through_times group z xs ys = let a = times_in-append (xs ++ ys) [] z in let b = times_in-append xs ys z in omega (arith, a, b)

between_times : (z n : ℕ) (f g : ℕ → ℕ) → times_in (names_of (arcs_of (between f g n))) z ≡ times_in (map f (range_with_len 0 n)) z + times_in (map g (range_with_len 0 n)) z
between_times z n f g =
    ap (λ ns. times_in ns z) (names_of_arcs (between f g n))
    ∙ zip-times z (map f (range_with_len 0 n)) (map g (range_with_len 0 n)) (length-map-range_with_len g 0 n ∙ sym (length-map-range_with_len f 0 n))

reversed_times : (z n : ℕ) (f : ℕ → ℕ) → times_in (map (λ i. f (n - 1 - i)) (range_with_len 0 n)) z ≡ times_in (map f (range_with_len 0 n)) z
reversed_times z n f = ap (λ ns. times_in ns z) (sym (reversed_range f n)) ∙ times-reverse z (map f (range_with_len 0 n))

reversed_by : (z n last : ℕ) (f : ℕ → ℕ) → last ≡ n - 1 → times_in (map (λ i. f (last - i)) (range_with_len 0 n)) z ≡ times_in (map f (range_with_len 0 n)) z
reversed_by z n last f e = ap (λ k. times_in (map (λ i. f (k - i)) (range_with_len 0 n)) z) e ∙ reversed_times z n f

-- The nodes count as a crossing of bundles whose ends are a, b, c and d, counterclockwise from the south.
pub record IsTold (m delta : ℕ) (nodes : List Node) (x y : ℕ) (a b c d : List ℕ) : Type 0 where
  pub v : ℕ → ℕ → ℕ
  pub h : ℕ → ℕ → ℕ
  pub south : (j : ℕ) → j < length a → v 0 j ≡ slice_index a j
  pub north : (j : ℕ) → j < length a → v (long (length b)) j ≡ slice_index c (length a - 1 - j)
  pub west : (i : ℕ) → i < length b → h i 0 ≡ slice_index d (length b - 1 - i)
  pub east : (i : ℕ) → i < length b → h i (long (length a)) ≡ slice_index b i
  pub same : (free : ℕ) (rest : List Node) → All IsNode rest →
      value m delta record { nodes = nodes ++ rest; free_loops = free } ≡ value m delta record { nodes = crossing_nodes x y v h (length b) (length a) ++ rest; free_loops = free }
  pub times : (z : ℕ) → times_in (names_of nodes) z ≡ times_in (names_of (crossing_nodes x y v h (length b) (length a))) z

-- a told crossing whose bundles are written otherwise
pub retold : (m delta : ℕ) (nodes : List Node) (x y : ℕ) (a b c d a' b' c' d' : List ℕ) → a ≡ a' → b ≡ b' → c ≡ c' → d ≡ d' → IsTold m delta nodes x y a b c d → IsTold m delta nodes x y a' b' c' d'
retold m delta nodes x y a b c d a' b' c' d' ea eb ec ed t =
    subst (λ u. IsTold m delta nodes x y u b' c' d') ea (subst (λ u. IsTold m delta nodes x y a u c' d') eb (subst (λ u. IsTold m delta nodes x y a b u d') ec (subst (λ u. IsTold m delta nodes x y a b c u) ed t)))

-- ---- the quarter turn of a crossing of bundles
abbrev turn_v : ℕ → (ℕ → ℕ → ℕ) → ℕ → ℕ → ℕ
turn_v columns h i j = h j (long columns - i)

abbrev turn_h : ℕ → (ℕ → ℕ → ℕ) → ℕ → ℕ → ℕ
turn_h columns v i j = v j (columns - 1 - i)

turned_nodes : (m delta free x y : ℕ) (v h : ℕ → ℕ → ℕ) (rows columns : ℕ) (rest : List Node) → All IsNode rest →
    value m delta record { nodes = crossing_nodes x y v h rows columns ++ rest; free_loops = free }
    ≡ value m delta record { nodes = crossing_nodes y x (turn_v columns h) (turn_h columns v) columns rows ++ rest; free_loops = free }
turned_nodes m delta free x y v h zero zero rest ok = refl
turned_nodes m delta free x y v h zero (suc columns) rest ok =
    let f : ℕ → ℕ → ℕ = λ e k. v e (suc columns - 1 - (columns - k)) in
    let V : List (ℕ × ℕ) → ℕ = λ es. value m delta record { nodes = arcs_of es ++ rest; free_loops = free } in
    let same : (e k : ℕ) → k < suc columns → slice_index (map (v e) (range_with_len 0 (suc columns))) k ≡ f e k =
    λ e k l. ranged (v e) (suc columns) k l ∙ ap (v e) (let t : k ≡ suc columns - 1 - (columns - k) = omega (arith, l) in t) in
    ap₂ (λ us vs. V (zip us vs)) (listed (f 0) (map (v 0) (range_with_len 0 (suc columns))) (suc columns) (length-map-range_with_len (v 0) 0 (suc columns)) (same 0))
    (listed (f 1) (map (v 1) (range_with_len 0 (suc columns))) (suc columns) (length-map-range_with_len (v 1) 0 (suc columns)) (same 1))
turned_nodes m delta free x y v h (suc rows) zero rest ok =
    let n = suc rows in
    let V : List (ℕ × ℕ) → ℕ = λ es. value m delta record { nodes = arcs_of es ++ rest; free_loops = free } in
    let back : (e : ℕ) (i : ℕ) → i < n → slice_index (map (λ i. h (rows - (n - 1 - i)) e) (range_with_len 0 n)) i ≡ h i e =
    λ e i l. ranged (λ i. h (rows - (n - 1 - i)) e) n i l ∙ ap (λ k. h k e) (let t : rows - (n - 1 - i) ≡ i = omega (arith, l) in t) in
    let long_list : (e : ℕ) → length (map (λ i. h (rows - (n - 1 - i)) e) (range_with_len 0 n)) ≡ n = λ e. length-map-range_with_len (λ i. h (rows - (n - 1 - i)) e) 0 n in
    turned_between m delta free n (λ k. h (rows - k) 0) (λ k. h (rows - k) 1) rest ok
    ∙ ap₂ (λ us vs. V (zip us vs)) (listed (λ i. h i 1) (map (λ i. h (rows - (n - 1 - i)) 1) (range_with_len 0 n)) n (long_list 1) (back 1)) (listed (λ i. h i 0) (map (λ i. h (rows - (n - 1 - i)) 0) (range_with_len 0 n)) n (long_list 0) (back 0))
turned_nodes m delta free x y v h (suc rows) (suc columns) rest ok =
    let nodes = crossing_nodes x y v h (suc rows) (suc columns) in
    let others = crossing_nodes y x (turn_v (suc columns) h) (turn_h (suc columns) v) (suc columns) (suc rows) in
    let is : IsTurned v h (turn_v (suc columns) h) (turn_h (suc columns) v) (suc rows) (suc columns) = record {
      vertical = λ i j c e l. ap (h j) (omega (arith, e));
      horizontal = λ i j c e l. ap (v j) (omega (arith, e));
    } in
    value_of_same m delta free (nodes ++ rest) (others ++ rest) (All-append IsNode nodes rest (crossing_ok x y v h (suc rows) (suc columns)) ok)
    (All-append IsNode others rest (crossing_ok y x (turn_v (suc columns) h) (turn_h (suc columns) v) (suc columns) (suc rows)) ok)
    (turned_grids m delta 0 x y (suc rows) (suc columns) v h (turn_v (suc columns) h) (turn_h (suc columns) v) [] [] rest is (All-nil IsNode) ok (AllPass-from_list_all (is_member ◌==◌ (names_of (nodes ++ rest))) [] refl))

turned_nodes_times : (z x y : ℕ) (v h : ℕ → ℕ → ℕ) (rows columns : ℕ) →
    times_in (names_of (crossing_nodes x y v h rows columns)) z ≡ times_in (names_of (crossing_nodes y x (turn_v columns h) (turn_h columns v) columns rows)) z
turned_nodes_times z x y v h zero zero = refl
turned_nodes_times z x y v h zero (suc columns) =
    let n = suc columns in
    let a = between_times z n (v 0) (v 1) in
    let b = between_times z n (λ k. v 0 (n - 1 - (columns - k))) (λ k. v 1 (n - 1 - (columns - k))) in
    let last : columns ≡ n - 1 = omega arith in
    let c = reversed_by z n columns (λ i. v 0 (n - 1 - i)) last ∙ reversed_times z n (v 0) in
    let d = reversed_by z n columns (λ i. v 1 (n - 1 - i)) last ∙ reversed_times z n (v 1) in
    omega (arith, a, b, c, d)
turned_nodes_times z x y v h (suc rows) zero =
    let n = suc rows in
    let a = between_times z n (λ k. h (rows - k) 0) (λ k. h (rows - k) 1) in
    let b = between_times z n (λ i. h i 1) (λ i. h i 0) in
    let last : rows ≡ n - 1 = omega arith in
    let c = reversed_by z n rows (λ i. h i 0) last in
    let d = reversed_by z n rows (λ i. h i 1) last in
    omega (arith, a, b, c, d)
turned_nodes_times z x y v h (suc rows) (suc columns) =
    let is : IsTurned v h (turn_v (suc columns) h) (turn_h (suc columns) v) (suc rows) (suc columns) = record {
      vertical = λ i j c e l. ap (h j) (omega (arith, e));
      horizontal = λ i j c e l. ap (v j) (omega (arith, e));
    } in
    sym (turned_times z x y v h (turn_v (suc columns) h) (turn_h (suc columns) v) (suc rows) (suc columns) is)

-- A QUARTER TURN
pub turned : (m delta : ℕ) (nodes : List Node) (x y : ℕ) (a b c d : List ℕ) → length a ≡ length c → length b ≡ length d → IsTold m delta nodes x y a b c d → IsTold m delta nodes y x b c d a
turned m delta nodes x y a b c d la lb t =
    let rows = length b in
    let columns = length a in
    let tv = turn_v columns t.h in
    let th = turn_h columns t.v in
    let P : ℕ → Type 0 = λ n. (free : ℕ) (rest : List Node) → All IsNode rest →
    value m delta record { nodes = nodes ++ rest; free_loops = free } ≡ value m delta record { nodes = crossing_nodes y x tv th n rows ++ rest; free_loops = free } in
    record {
      v = tv;
      h = th;
      south = λ j l. ap (t.h j) (let e : long columns - 0 ≡ long columns = omega arith in e) ∙ t.east j l;
      north = λ j l. ap (λ n. t.h j (long columns - long n)) (sym la) ∙ ap (t.h j) (let e : long columns - long columns ≡ 0 = omega arith in e) ∙ t.west j l;
      west = λ i l. t.south (columns - 1 - i) (omega (arith, l, la)) ∙ ap (λ n. slice_index a (n - 1 - i)) la;
      east = λ i l. t.north (columns - 1 - i) (omega (arith, l, la)) ∙ ap (slice_index c) (let e : columns - 1 - (columns - 1 - i) ≡ i = omega (arith, l, la) in e);
      same = subst P la (λ free rest ok. t.same free rest ok ∙ turned_nodes m delta free x y t.v t.h rows columns rest ok);
      times = λ z. t.times z ∙ turned_nodes_times z x y t.v t.h rows columns ∙ ap (λ n. times_in (names_of (crossing_nodes y x tv th n rows)) z) la;
    }

-- ---- a cabled crossing
level : (m delta : ℕ) (group : ℕ) (b d : List ℕ) (o : ℕ) → length b ≡ suc o → length d ≡ suc o → (x y : ℕ) → IsNode (through_node group b d) → IsTold m delta (through_node group b d ∷ []) x y [] b [] d
level m delta group b d o lb ld x y node =
    let v : ℕ → ℕ → ℕ = λ i j. 0 in
    let h : ℕ → ℕ → ℕ = λ i j. cond (j == 0) (slice_index d (length b - 1 - i)) (slice_index b i) in
    let n = suc o in
    let from : ℕ → ℕ = λ k. h (o - k) 0 in
    let to : ℕ → ℕ = λ k. h (o - k) 1 in
    let ends_b : reverse b ≡ map to (range_with_len 0 n) =
    listed to (reverse b) n (length-reverse b ∙ lb) (λ i l. get_or-reverse b i 0 (omega (arith, l, lb)) ∙ ap (slice_index b) (let t : length b - 1 - i ≡ o - i = omega (arith, lb) in t)) in
    let ends_d : d ≡ map from (range_with_len 0 n) = listed from d n ld (λ i l. ap (slice_index d) (let t : i ≡ length b - 1 - (o - i) = omega (arith, lb, l) in t)) in
    let P : ℕ → Type 0 = λ k. (free : ℕ) (rest : List Node) → All IsNode rest →
    value m delta record { nodes = through_node group b d ∷ rest; free_loops = free } ≡ value m delta record { nodes = crossing_nodes x y v h k 0 ++ rest; free_loops = free } in
    let Q : ℕ → Type 0 = λ k. (z : ℕ) → times_in (names_of (through_node group b d ∷ [])) z ≡ times_in (names_of (crossing_nodes x y v h k 0)) z in
    record {
      v = v;
      h = h;
      south = λ j l. absurd (omega (arith, l));
      north = λ j l. absurd (omega (arith, l));
      west = λ i l. refl;
      east = λ i l. refl;
      same = subst P (sym lb) (λ free rest ok.
          through_arcs group n b d lb ld m delta free rest (All-cons IsNode (through_node group b d) rest node ok)
          ∙ turned_arcs m delta free n b d rest lb ld ok
          ∙ ap₂ (λ us vs. value m delta record { nodes = arcs_of (zip us vs) ++ rest; free_loops = free }) ends_d ends_b);
      times = subst Q (sym lb) (λ z. (
          let a = through_times group z b d in
          let e = between_times z n from to in
          let f = ap (λ ns. times_in ns z) ends_b in
          let g = ap (λ ns. times_in ns z) ends_d in
          let r = times-reverse z b in
          omega (arith, a, e, f, g, r)));
    }

upright : (m delta : ℕ) (group : ℕ) (a c : List ℕ) (u : ℕ) → length a ≡ suc u → length c ≡ suc u → (x y : ℕ) → IsNode (through_node group a c) → IsTold m delta (through_node group a c ∷ []) x y a [] c []
upright m delta group a c u la lc x y node =
    let h : ℕ → ℕ → ℕ = λ i j. 0 in
    let v : ℕ → ℕ → ℕ = λ i j. cond (i == 0) (slice_index a j) (slice_index c (length a - 1 - j)) in
    let n = suc u in
    let ends_a : a ≡ map (v 0) (range_with_len 0 n) = listed (v 0) a n la (λ i l. refl) in
    let ends_c : reverse c ≡ map (v 1) (range_with_len 0 n) =
    listed (v 1) (reverse c) n (length-reverse c ∙ lc) (λ i l. get_or-reverse c i 0 (omega (arith, l, lc)) ∙ ap (slice_index c) (let t : length c - 1 - i ≡ length a - 1 - i = omega (arith, la, lc) in t)) in
    let P : ℕ → Type 0 = λ k. (free : ℕ) (rest : List Node) → All IsNode rest →
    value m delta record { nodes = through_node group a c ∷ rest; free_loops = free } ≡ value m delta record { nodes = crossing_nodes x y v h 0 k ++ rest; free_loops = free } in
    let Q : ℕ → Type 0 = λ k. (z : ℕ) → times_in (names_of (through_node group a c ∷ [])) z ≡ times_in (names_of (crossing_nodes x y v h 0 k)) z in
    record {
      v = v;
      h = h;
      south = λ j l. refl;
      north = λ j l. refl;
      west = λ i l. absurd (omega (arith, l));
      east = λ i l. absurd (omega (arith, l));
      same = subst P (sym la) (λ free rest ok.
          through_arcs group n a c la lc m delta free rest (All-cons IsNode (through_node group a c) rest node ok)
          ∙ ap₂ (λ us vs. value m delta record { nodes = arcs_of (zip us vs) ++ rest; free_loops = free }) ends_a ends_c);
      times = subst Q (sym la) (λ z. (
          let q = through_times group z a c in
          let e = between_times z n (v 0) (v 1) in
          let f = ap (λ ns. times_in ns z) ends_a in
          let g = ap (λ ns. times_in ns z) ends_c in
          let r = times-reverse z c in
          omega (arith, q, e, f, g, r)));
    }

module _ (p : Parameters) (delta : ℕ) (group k : ℕ) where
  empty : (c d : List ℕ) → length c ≡ 0 → length d ≡ 0 → IsTold p.modulus delta [] p.root (inverse_root p) [] [] c d
  empty c d lc ld = record {
    v = λ i j. 0;
    h = λ i j. 0;
    south = λ j l. absurd (omega (arith, l));
    north = λ j l. absurd (omega (arith, l));
    west = λ i l. absurd (omega (arith, l));
    east = λ i l. absurd (omega (arith, l));
    same = λ free rest ok. refl;
    times = λ z. refl;
  }

  -- A CABLED CROSSING, TOLD FROM ITS FIRST SLOT
  pub told : (a b c d : List ℕ) → length a ≡ length c → length b ≡ length d → All IsNode (crossing_cable p group k a b c d) → IsTold p.modulus delta (crossing_cable p group k a b c d) p.root (inverse_root p) a b c d
  told [] [] c d la lb ok = empty c d (sym la) (sym lb)
  told [] (b ∷ others) [] d la lb ok = level p.modulus delta group (b ∷ others) d (length others) refl (sym lb) p.root (inverse_root p) (All-head IsNode (through_node group (b ∷ others) d) [] ok)
  told [] (b ∷ others) (y ∷ c) d la lb ok = absurd (omega (arith, la))
  told (a ∷ more) [] c [] la lb ok = upright p.modulus delta group (a ∷ more) c (length more) refl (sym la) p.root (inverse_root p) (All-head IsNode (through_node group (a ∷ more) c) [] ok)
  told (a ∷ more) [] c (y ∷ d) la lb ok = absurd (omega (arith, lb))
  told (a ∷ more) (b ∷ others) c d la lb ok =
      let south = a ∷ more in
      let east = b ∷ others in
      let u = length south in
      let o = length east in
      let nodes = crossing_cable p group k south east c d in
      let v = edge_v k o south (reverse c) in
      let h = edge_h k u (reverse d) east in
      let grid = grid_nodes p.root (inverse_root p) v h 0 o u in
      let is : map without_group nodes ≡ grid = cabled_as_grid p group k u o south east c d (omega arith) (omega arith) refl (sym la) refl (sym lb) in
      record {
        v = v;
        h = h;
        south = λ j l. refl;
        north = λ j l. at_last o (slice_index south j) (slice_index (reverse c) j) (2 ^ 25 + 128 * k + 8 * (o - 1) + j) (omega arith) ∙ get_or-reverse c j 0 (omega (arith, l, la)) ∙ ap (λ n. slice_index c (n - 1 - j)) (sym la);
        west = λ i l. get_or-reverse d i 0 (omega (arith, l, lb)) ∙ ap (λ n. slice_index d (n - 1 - i)) (sym lb);
        east = λ i l. at_last u (slice_index (reverse d) i) (slice_index east i) (2 ^ 25 + 128 * k + 64 + 8 * i + (u - 1)) (omega arith);
        same = λ free rest all.
            let same : map without_group (nodes ++ rest) ≡ map without_group (grid ++ rest) =
            ungrouped-append nodes rest ∙ ap (λ ns. ns ++ map without_group rest) (sym (ungrouped_twice nodes) ∙ ap (map without_group) is) ∙ sym (ungrouped-append grid rest) in
            (groups delta free (nodes ++ rest) (grid ++ rest) same).values p.modulus;
        times = λ z. ap (λ ns. times_in ns z) (sym (names_of-ungrouped nodes) ∙ ap names_of is);
      }

-- ---- four slots, from one of them on
pub four_summed : (F : ℕ → ℕ) (k : ℕ) → k < 8 → F 0 + F 1 + F 2 + F 3 ≡ F (k % 4) + F ((k + 1) % 4) + F ((k + 2) % 4) + F ((k + 3) % 4)
four_summed F zero l = refl
four_summed F (suc zero) l = omega arith
four_summed F (suc (suc zero)) l = omega arith
four_summed F (suc (suc (suc zero))) l = omega arith
four_summed F (suc (suc (suc (suc zero)))) l = refl
four_summed F (suc (suc (suc (suc (suc zero))))) l = omega arith
four_summed F (suc (suc (suc (suc (suc (suc zero)))))) l = omega arith
four_summed F (suc (suc (suc (suc (suc (suc (suc zero))))))) l = omega arith
four_summed F (suc (suc (suc (suc (suc (suc (suc (suc k)))))))) l = absurd (omega (arith, l))

-- ---- from each slot
module _ (p : Parameters) (delta group k : ℕ) (at : ℕ → List ℕ) (l0 : length (at 0) ≡ length (at 2)) (l1 : length (at 1) ≡ length (at 3)) (ok : All IsNode (crossing_cable p group k (at 0) (at 1) (at 2) (at 3))) where
  abbrev nodes : List Node
  nodes = crossing_cable p group k (at 0) (at 1) (at 2) (at 3)

  t0 : IsTold p.modulus delta nodes p.root (inverse_root p) (at 0) (at 1) (at 2) (at 3)
  t0 = told p delta group k (at 0) (at 1) (at 2) (at 3) l0 l1 ok

  t1 : IsTold p.modulus delta nodes (inverse_root p) p.root (at 1) (at 2) (at 3) (at 0)
  t1 = turned p.modulus delta nodes p.root (inverse_root p) (at 0) (at 1) (at 2) (at 3) l0 l1 t0

  t2 : IsTold p.modulus delta nodes p.root (inverse_root p) (at 2) (at 3) (at 0) (at 1)
  t2 = turned p.modulus delta nodes (inverse_root p) p.root (at 1) (at 2) (at 3) (at 0) l1 (sym l0) t1

  t3 : IsTold p.modulus delta nodes (inverse_root p) p.root (at 3) (at 0) (at 1) (at 2)
  t3 = turned p.modulus delta nodes p.root (inverse_root p) (at 2) (at 3) (at 0) (at 1) (sym l0) (sym l1) t2

  -- A CABLED CROSSING, TOLD FROM EACH SLOT
  pub told_from : (slot : ℕ) → slot < 8 →
      IsTold p.modulus delta nodes (cond (slot % 2 == 0) p.root (inverse_root p)) (cond (slot % 2 == 0) (inverse_root p) p.root) (at (slot % 4)) (at ((slot + 1) % 4)) (at ((slot + 2) % 4)) (at ((slot + 3) % 4))
  told_from zero l = t0
  told_from (suc zero) l = t1
  told_from (suc (suc zero)) l = t2
  told_from (suc (suc (suc zero))) l = t3
  told_from (suc (suc (suc (suc zero)))) l = t0
  told_from (suc (suc (suc (suc (suc zero))))) l = t1
  told_from (suc (suc (suc (suc (suc (suc zero)))))) l = t2
  told_from (suc (suc (suc (suc (suc (suc (suc zero))))))) l = t3
  told_from (suc (suc (suc (suc (suc (suc (suc (suc slot)))))))) l = absurd (omega (arith, l))
