-- The nodes of a cable are nodes, with weights below m and at most 24 ends, and they are few.
use Rattle.std.proofs.Common.{◌≡◌, ◌≢◌, ℕ, ◌+◌, ◌-◌, ◌*◌, ◌%◌, ◌<◌, ◌≤◌, List, [], ◌∷◌, ◌++◌, length, map, reverse, slice_index, pos, refl, sym, ap, ap₂, ◌∙◌, arith, subst, All, length-append}
use Rattle.std.specs.List.{AllByRecursion, range_with_len}
use Rattle.std.proofs.lemmas.Bool.Decides.{nat_tests}
use Rattle.std.proofs.lemmas.List.{length-reverse, get_or-map}
use Rattle.std.proofs.lemmas.List.Elements.{All-nil, All-cons, All-append}
use Rattle.std.proofs.lemmas.List.FromFn.{length-map-range_with_len, length-range_with_len, get_or-range_with_len}
use Rattle.ring_identities.specs.Powers.{power}
use Rattle.ring_identities.proofs.Congruences.{residue_below}
use Rattle.state_sums.specs.Networks.{Node, Term, IsPairing, IsNode}
use Rattle.state_sums.proofs.WrittenNodes.{IsNode-from_test}
use Rattle.root_quantum.specs.Parameters.{Parameters}
use Rattle.root_quantum.specs.QuantumNumbers.{inverse_root}
use Rattle.pd_reader.specs.declared.item.NetItem.{NetItem}
use Rattle.pd_reader.specs.declared.item.NetItem.TheVariants.{X, Y, Loop}
use Rattle.diagram_brackets.specs.Crossings.{crossing_node, joins_ab_cd, joins_ad_bc}
use Rattle.strand_algebra.specs.StrandPairings.{straight}
use Rattle.strand_algebra.proofs.PairingLaws.{straight_noncrossing}
use Rattle.cables.specs.Strands.{Strands, names_at}
use Rattle.cables.specs.CableNodes.{upright_names, line_names, row, grid, through_node, crossing_cable, vertex_point, vertex_partner, joining, vertex_cable, box_node}
use Rattle.cables.specs.Cables.{Standing, passed, box_nodes, loop_nodes, cable_nodes, Fits, IsAdmissible, AreBoxes}
use Rattle.cables.proofs.PlaceNames.{AreAsMany}
use Rattle.cables.proofs.CableNames.{names_length}

-- a node with weights below m and at most 24 ends
pub record IsGood (m : ℕ) (node : Node) : Type 0 where
  pub is_node : IsNode node
  pub below : All (λ term. term.weight < m) node.terms
  pub few : length node.ends ≤ 24

-- ---- the pairs of a vertex
point_within : (a b c i : ℕ) → i < 2 * (a + b + c) → vertex_point a b c i < 2 * (a + b + c)
point_within a b c i h = grind (arith, nat_tests, h)

point_apart : (a b c i : ℕ) → i < 2 * (a + b + c) → vertex_point a b c i ≢ i
point_apart a b c i h e = grind (arith, nat_tests, h, e)

point_back : (a b c i : ℕ) → i < 2 * (a + b + c) → vertex_point a b c (vertex_point a b c i) ≡ i
point_back a b c i h = grind (arith, nat_tests, h)

module _ (a b c : ℕ) where
  pub vertex_length : length (vertex_partner a b c) ≡ 2 * (a + b + c)
  vertex_length = length-map-range_with_len (vertex_point a b c) 0 (2 * (a + b + c))

  vertex_at : (i : ℕ) → i < 2 * (a + b + c) → slice_index (vertex_partner a b c) i ≡ vertex_point a b c i
  vertex_at i h =
      let n = 2 * (a + b + c) in
      let long = length-range_with_len 0 n in
      let z : 0 + i ≡ i = omega arith in
      get_or-map (vertex_point a b c) (range_with_len 0 n) i 0 0 (omega (arith, h, long)) ∙ ap (vertex_point a b c) (get_or-range_with_len 0 n i 0 h ∙ z)

  pub IsPairing-vertex : IsPairing (vertex_partner a b c)
  IsPairing-vertex = record {
    within = λ i l. let n = vertex_length in let e = vertex_at i (omega (arith, l, n)) in let w = point_within a b c i (omega (arith, l, n)) in omega (arith, e, w, n);
    apart = λ i l s. let n = vertex_length in let e = vertex_at i (omega (arith, l, n)) in point_apart a b c i (omega (arith, l, n)) (sym e ∙ s);
    back = λ i l.
        let n = vertex_length in
        let e = vertex_at i (omega (arith, l, n)) in
        let w = point_within a b c i (omega (arith, l, n)) in
        ap (slice_index (vertex_partner a b c)) e ∙ vertex_at (vertex_point a b c i) w ∙ point_back a b c i (omega (arith, l, n));
  }

-- ---- lists of one node
one_node : (m : ℕ) (node : Node) → IsGood m node → All (IsGood m) (node ∷ [])
one_node m node g = All-cons (IsGood m) node [] g (All-nil (IsGood m))

one_term : (m weight ends : ℕ) (partner : List ℕ) → weight < m → IsPairing partner → length partner ≡ ends →
    All (λ (term : Term). IsPairing term.partner × (length term.partner ≡ ends)) (record { weight = weight; partner = partner } ∷ [])
one_term m weight ends partner h q l =
    All-cons (λ (term : Term). IsPairing term.partner × (length term.partner ≡ ends)) record { weight = weight; partner = partner } [] (q, l) (All-nil (λ (term : Term). IsPairing term.partner × (length term.partner ≡ ends)))

one_weight : (m weight : ℕ) (partner : List ℕ) → weight < m → All (λ (term : Term). term.weight < m) (record { weight = weight; partner = partner } ∷ [])
one_weight m weight partner h = All-cons (λ (term : Term). term.weight < m) record { weight = weight; partner = partner } [] h (All-nil (λ (term : Term). term.weight < m))

inverse_below : (p : Parameters) → inverse_root p < p.modulus
unfolding inverse_root
inverse_below p = residue_below p.modulus (power (pos p.root) (4 * p.level - 1)) (let m = p.meets.modulus.0 in omega (arith, m))

module _ (p : Parameters) where
  m : ℕ
  m = p.modulus

  crossing_good : (group b e t w : ℕ) → IsGood p.modulus (crossing_node p group (b ∷ e ∷ t ∷ w ∷ []))
  crossing_good group b e t w = record {
    is_node = IsNode-from_test (crossing_node p group (b ∷ e ∷ t ∷ w ∷ [])) refl;
    below =
        All-cons (λ (term : Term). term.weight < p.modulus) record { weight = p.root; partner = joins_ab_cd } (record { weight = inverse_root p; partner = joins_ad_bc } ∷ []) p.meets.root.1
        (one_weight p.modulus (inverse_root p) joins_ad_bc (inverse_below p));
    few = omega arith;
  }

  row_good : (group : ℕ) (bottoms line tops : List ℕ) (west : ℕ) → All (IsGood p.modulus) (row p group bottoms west line tops)
  row_good group [] line tops west = All-nil (IsGood p.modulus)
  row_good group (b ∷ bottoms) [] tops west = All-nil (IsGood p.modulus)
  row_good group (b ∷ bottoms) (e ∷ line) [] west = All-nil (IsGood p.modulus)
  row_good group (b ∷ bottoms) (e ∷ line) (t ∷ tops) west =
      All-cons (IsGood p.modulus) (crossing_node p group (b ∷ e ∷ t ∷ west ∷ [])) (row p group bottoms e line tops) (crossing_good group b e t west) (row_good group bottoms line tops e)

  grid_good : (group k u i : ℕ) (bottoms wests easts north : List ℕ) → All (IsGood p.modulus) (grid p group k u i bottoms wests easts north)
  grid_good group k u i bottoms [] easts north = All-nil (IsGood p.modulus)
  grid_good group k u i bottoms (w ∷ []) [] north = All-nil (IsGood p.modulus)
  grid_good group k u i bottoms (w ∷ []) (e ∷ easts) north = row_good group bottoms (line_names k u i ++ e ∷ []) north w
  grid_good group k u i bottoms (w ∷ v ∷ wests) [] north = All-nil (IsGood p.modulus)
  grid_good group k u i bottoms (w ∷ v ∷ wests) (e ∷ easts) north =
      All-append (IsGood p.modulus) (row p group bottoms w (line_names k u i ++ e ∷ []) (upright_names k u i)) (grid p group k u (i + 1) (upright_names k u i) (v ∷ wests) easts north)
      (row_good group bottoms (line_names k u i ++ e ∷ []) (upright_names k u i) w)
      (grid_good group k u (i + 1) (upright_names k u i) (v ∷ wests) easts north)

  one_below : 1 < p.modulus
  one_below = let h = p.meets.modulus.0 in omega (arith, h)

  through_good : (group : ℕ) (xs ys : List ℕ) → length xs ≡ length ys → length xs ≤ 8 → IsGood p.modulus (through_node group xs ys)
  through_good group xs ys same few =
      let s = straight_noncrossing (length xs) in
      let n = length-append xs ys in
      let l = s.pairing.points in
      record {
        is_node = one_term p.modulus 1 (length (xs ++ ys)) (straight (length xs)) one_below s.pairing.is_pairing (omega (arith, l, n, same));
        below = one_weight p.modulus 1 (straight (length xs)) one_below;
        few = omega (arith, n, same, few);
      }

  crossing_nodes_good : (group k : ℕ) (a b c d : List ℕ) → length a ≡ length c → length b ≡ length d → length a ≤ 8 → length b ≤ 8 → All (IsGood p.modulus) (crossing_cable p group k a b c d)
  crossing_nodes_good group k [] [] c d h j u o = All-nil (IsGood p.modulus)
  crossing_nodes_good group k [] (b ∷ others) c d h j u o = one_node p.modulus (through_node group (b ∷ others) d) (through_good group (b ∷ others) d j o)
  crossing_nodes_good group k (a ∷ more) [] c d h j u o = one_node p.modulus (through_node group (a ∷ more) c) (through_good group (a ∷ more) c h u)
  crossing_nodes_good group k (a ∷ more) (b ∷ others) c d h j u o = grid_good group k (length (a ∷ more)) 0 (a ∷ more) (reverse d) (b ∷ others) (reverse c)

  pub joined : (a b c : ℕ) → IsAdmissible a b c → 2 * (joining a b c + joining b c a + joining c a b) ≡ a + b + c
  joined a b c h = let e = h.even in let i = h.first in let j = h.second in let k = h.third in omega (arith, e, i, j, k)

  vertex_node_good : (group : ℕ) (x y z : List ℕ) → IsAdmissible (length x) (length y) (length z) → length x ≤ 8 → length y ≤ 8 → length z ≤ 8 →
      IsGood p.modulus
      record {
        group = group;
        ends = x ++ y ++ z;
        terms =
            record {
              weight = 1;
              partner = vertex_partner (joining (length x) (length y) (length z)) (joining (length y) (length z) (length x)) (joining (length z) (length x) (length y));
            } ∷ [];
      }
  vertex_node_good group x y z fit u v w =
      let ab = joining (length x) (length y) (length z) in
      let bc = joining (length y) (length z) (length x) in
      let ca = joining (length z) (length x) (length y) in
      let n = vertex_length ab bc ca in
      let s = joined (length x) (length y) (length z) fit in
      let l1 = length-append (x ++ y) z in
      let l2 = length-append x y in
      record {
        is_node = one_term p.modulus 1 (length (x ++ y ++ z)) (vertex_partner ab bc ca) one_below (IsPairing-vertex ab bc ca) (omega (arith, n, s, l1, l2));
        below = one_weight p.modulus 1 (vertex_partner ab bc ca) one_below;
        few = omega (arith, l1, l2, u, v, w);
      }

  vertex_good : (group : ℕ) (x y z : List ℕ) → IsAdmissible (length x) (length y) (length z) → length x ≤ 8 → length y ≤ 8 → length z ≤ 8 → All (IsGood p.modulus) (vertex_cable group x y z)
  vertex_good group [] [] [] fit u v w = All-nil (IsGood p.modulus)
  vertex_good group [] [] (c ∷ z) fit u v w = one_node p.modulus _ (vertex_node_good group [] [] (c ∷ z) fit u v w)
  vertex_good group [] (b ∷ y) [] fit u v w = one_node p.modulus _ (vertex_node_good group [] (b ∷ y) [] fit u v w)
  vertex_good group [] (b ∷ y) (c ∷ z) fit u v w = one_node p.modulus _ (vertex_node_good group [] (b ∷ y) (c ∷ z) fit u v w)
  vertex_good group (a ∷ x) [] [] fit u v w = one_node p.modulus _ (vertex_node_good group (a ∷ x) [] [] fit u v w)
  vertex_good group (a ∷ x) [] (c ∷ z) fit u v w = one_node p.modulus _ (vertex_node_good group (a ∷ x) [] (c ∷ z) fit u v w)
  vertex_good group (a ∷ x) (b ∷ y) [] fit u v w = one_node p.modulus _ (vertex_node_good group (a ∷ x) (b ∷ y) [] fit u v w)
  vertex_good group (a ∷ x) (b ∷ y) (c ∷ z) fit u v w = one_node p.modulus _ (vertex_node_good group (a ∷ x) (b ∷ y) (c ∷ z) fit u v w)

  module _ (strands : Strands) (even : AreAsMany strands) (few : (label : ℕ) → length (strands.first label) ≤ 8) (boxes : AreBoxes p.modulus strands.box) where
    box_good : (group : ℕ) (xs ys : List ℕ) → length xs ≡ length ys → length xs ≤ 8 → IsGood p.modulus (box_node group (strands.box (length xs)) xs ys)
    box_good group xs ys same short =
        let n = length-append xs ys in
        let e : length xs + length xs ≡ length (xs ++ ys) = omega (arith, n, same) in
        record {
          is_node = subst (λ k. All (λ term. IsPairing term.partner × (length term.partner ≡ k)) (strands.box (length xs))) e (boxes.pairings (length xs));
          below = boxes.below (length xs);
          few = omega (arith, n, same, short);
        }

    all_boxes : (group : ℕ) (labels : List ℕ) → All (IsGood p.modulus) (map (λ label. box_node group (strands.box (length (strands.first label))) (strands.first label) (strands.second label)) labels)
    all_boxes group [] = All-nil (IsGood p.modulus)
    all_boxes group (l ∷ labels) =
        All-cons (IsGood p.modulus) (box_node group (strands.box (length (strands.first l))) (strands.first l) (strands.second l)) _
        (box_good group (strands.first l) (strands.second l) (sym (even l)) (few l)) (all_boxes group labels)

    loop_good : (group : ℕ) (names : List ℕ) → length names ≤ 8 → All (IsGood p.modulus) (loop_nodes strands group names)
    loop_good group [] short = All-nil (IsGood p.modulus)
    loop_good group (x ∷ []) short = All-nil (IsGood p.modulus)
    loop_good group (x ∷ y ∷ names) short = one_node p.modulus _ (box_good group (x ∷ y ∷ names) (reverse (x ∷ y ∷ names)) (sym (length-reverse (x ∷ y ∷ names))) short)

    -- ALL NODES ARE NODES
    pub cable_good : (items : List NetItem) (standing : Standing) → AllByRecursion (Fits strands) items → All (IsGood p.modulus) (cable_nodes p strands standing items)
    cable_good [] standing fit = All-nil (IsGood p.modulus)
    cable_good (X (a ∷ b ∷ c ∷ d ∷ []) ∷ items) standing fit =
        let slots = a ∷ b ∷ c ∷ d ∷ [] in
        let seen = standing.seen in
        let la = names_length strands even seen a in
        let lb = names_length strands even (a ∷ seen) b in
        let lc = names_length strands even (b ∷ a ∷ seen) c in
        let ld = names_length strands even (c ∷ b ∷ a ∷ seen) d in
        let fa = few a in let fb = few b in
        let crossing = crossing_cable p standing.group standing.index (names_at strands seen a) (names_at strands (a ∷ seen) b) (names_at strands (b ∷ a ∷ seen) c) (names_at strands (c ∷ b ∷ a ∷ seen) d) in
        All-append (IsGood p.modulus) (box_nodes strands standing slots ++ crossing) (cable_nodes p strands (passed standing (X slots)) items)
        (All-append (IsGood p.modulus) (box_nodes strands standing slots) crossing
        (all_boxes standing.group _)
        (crossing_nodes_good standing.group standing.index (names_at strands seen a) (names_at strands (a ∷ seen) b) (names_at strands (b ∷ a ∷ seen) c) (names_at strands (c ∷ b ∷ a ∷ seen) d)
        (la ∙ fit.0.0 ∙ sym lc) (lb ∙ fit.0.1 ∙ sym ld) (omega (arith, la, fa)) (omega (arith, lb, fb))))
        (cable_good items (passed standing (X slots)) fit.1)
    cable_good (X slots ∷ items) standing fit = absurd fit.0
    cable_good (Y (a ∷ b ∷ c ∷ []) ∷ items) standing fit =
        let slots = a ∷ b ∷ c ∷ [] in
        let seen = standing.seen in
        let la = names_length strands even seen a in
        let lb = names_length strands even (a ∷ seen) b in
        let lc = names_length strands even (b ∷ a ∷ seen) c in
        let fa = few a in let fb = few b in let fc = few c in
        let vertex = vertex_cable standing.group (names_at strands seen a) (names_at strands (a ∷ seen) b) (names_at strands (b ∷ a ∷ seen) c) in
        let fit0 = fit.0 in
        let admissible : IsAdmissible (length (names_at strands seen a)) (length (names_at strands (a ∷ seen) b)) (length (names_at strands (b ∷ a ∷ seen) c)) =
        (let e = fit0.even in let i = fit0.first in let j = fit0.second in let k = fit0.third in
        record { even = ap (λ n. n % 2) (ap₂ (λ x y. x + y) (ap₂ (λ x y. x + y) la lb) lc) ∙ e; first = omega (arith, la, lb, lc, i); second = omega (arith, la, lb, lc, j); third = omega (arith, la, lb, lc, k) }) in
        All-append (IsGood p.modulus) (box_nodes strands standing slots ++ vertex) (cable_nodes p strands (passed standing (Y slots)) items)
        (All-append (IsGood p.modulus) (box_nodes strands standing slots) vertex
        (all_boxes standing.group _)
        (vertex_good standing.group (names_at strands seen a) (names_at strands (a ∷ seen) b) (names_at strands (b ∷ a ∷ seen) c) admissible (omega (arith, la, fa)) (omega (arith, lb, fb)) (omega (arith, lc, fc))))
        (cable_good items (passed standing (Y slots)) fit.1)
    cable_good (Y edges ∷ items) standing fit = absurd fit.0
    cable_good (Loop label ∷ items) standing fit =
        All-append (IsGood p.modulus) (loop_nodes strands standing.loop_group (strands.first label)) (cable_nodes p strands (passed standing (Loop label)) items)
        (loop_good standing.loop_group (strands.first label) (few label))
        (cable_good items (passed standing (Loop label)) fit.1)
