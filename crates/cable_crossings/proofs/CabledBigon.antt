-- Two cabled crossings that are a bigon count as the strands of both edges.
use Rattle.std.proofs.Common.{◌≡◌, ℕ, suc, ◌+◌, ◌-◌, ◌*◌, ◌^◌, ◌<◌, ◌≤◌, ◌==◌, ◌⊎◌, inl, inr, ⊎_elim, nat_lt, true, false, cond, List, [], ◌∷◌, ◌++◌, map, length, reverse, slice_index, refl, sym, ap, ap₂, ◌∙◌, arith, All, length-append}
use Rattle.std.specs.List.{zip}
use Rattle.std.proofs.lemmas.Bool.Decides.{nat_tests}
use Rattle.std.proofs.lemmas.List.{get_or-reverse, length-reverse, reverse-reverse}
use Rattle.state_sums.specs.LocalSums.{AreSkeinNumbers}
use Rattle.state_sums.specs.Networks.{Node, IsNode, names_of}
use Rattle.list_lemmas.specs.Times.{times_in}
use Rattle.state_sums.specs.StateSums.{value}
use Rattle.root_quantum.specs.Parameters.{Parameters}
use Rattle.root_quantum.specs.QuantumNumbers.{inverse_root}
use Rattle.piece_laws.specs.Arcs.{arcs_of}
use Rattle.graph_parts.specs.Ends.{ends_of}
use Rattle.piece_laws.specs.Pieces.{ArePaired}
use Rattle.list_lemmas.proofs.Times.{times_of_member, times_in-cons, times_in-append}
use Rattle.cables.specs.CableNodes.{grid, crossing_cable}
use Rattle.piece_laws.specs.TurnedNodes.{without_group}
use Rattle.piece_laws.proofs.Ungrouped.{groups}
use Rattle.cables.proofs.GridNames.{crossing-times}
use Rattle.cables.proofs.NameCounts.{times-reverse, times_of-append}
use Rattle.word_networks.specs.GridNetworks.{grid_nodes}
use Rattle.cable_crossings.proofs.BundleBigon.{arcs_between, from, to}
use Rattle.cable_crossings.proofs.BundleTurns.{bundle_bigon, both}
use Rattle.cable_crossings.proofs.CabledGrids.{ungrouped-append, at_append_low, at_append_high, cabled_grid}

-- ---- lists of arcs
pub zipped : (f g : ℕ → ℕ) (i : ℕ) (xs ys : List ℕ) → length ys ≡ length xs → ((t : ℕ) → t < length xs → slice_index xs t ≡ f (i + t)) → ((t : ℕ) → t < length xs → slice_index ys t ≡ g (i + t)) →
    arcs_between f g i (length xs) ≡ zip xs ys
zipped f g i [] ys l hf hg = refl
zipped f g i (x ∷ xs) [] l hf hg = absurd (omega (arith, l))
zipped f g i (x ∷ xs) (y ∷ ys) l hf hg =
    let z : i + 0 ≡ i = omega arith in
    let a : f i ≡ x = ap f (sym z) ∙ sym (hf 0 (omega arith)) in
    let b : g i ≡ y = ap g (sym z) ∙ sym (hg 0 (omega arith)) in
    let step : (t : ℕ) → i + suc t ≡ i + 1 + t = λ t. omega arith in
    let ih = zipped f g (i + 1) xs ys (omega (arith, l)) (λ t b. hf (suc t) (omega (arith, b)) ∙ ap f (step t)) (λ t b. hg (suc t) (omega (arith, b)) ∙ ap g (step t)) in
    ap₂ (λ (p q : ℕ). (let e : ℕ × ℕ = (p, q) in e) ∷ arcs_between f g (i + 1) (length xs)) a b ∙ ap (λ es. (let e : ℕ × ℕ = (x, y) in e) ∷ es) ih

pub zip-times : (z : ℕ) (xs ys : List ℕ) → length ys ≡ length xs → times_in (ends_of (zip xs ys)) z ≡ times_in xs z + times_in ys z
zip-times z [] [] l = refl
zip-times z [] (y ∷ ys) l = absurd (omega (arith, l))
zip-times z (x ∷ xs) [] l = absurd (omega (arith, l))
zip-times z (x ∷ xs) (y ∷ ys) l =
    let ih = zip-times z xs ys (omega (arith, l)) in
    let a = times_in-cons x (y ∷ ends_of (zip xs ys)) z in
    let b = times_in-cons y (ends_of (zip xs ys)) z in
    let c = times_in-cons x xs z in
    let d = times_in-cons y ys z in
    omega (arith, ih, a, b, c, d)

pub names_of_arcs : (pairs : List (ℕ × ℕ)) → names_of (arcs_of pairs) ≡ ends_of pairs
names_of_arcs [] = refl
names_of_arcs (pair ∷ pairs) = ap (λ ns. pair.0 ∷ pair.1 ∷ ns) (names_of_arcs pairs)

pub names_of-ungrouped : (nodes : List Node) → names_of (map without_group nodes) ≡ names_of nodes
names_of-ungrouped [] = refl
names_of-ungrouped (node ∷ nodes) = ap (λ ns. node.ends ++ ns) (names_of-ungrouped nodes)

pub ungrouped_twice : (nodes : List Node) → map without_group (map without_group nodes) ≡ map without_group nodes
ungrouped_twice [] = refl
ungrouped_twice (node ∷ nodes) = ap (λ ns. without_group node ∷ ns) (ungrouped_twice nodes)

-- ---- a cabled crossing
abbrev pub edge_v : ℕ → ℕ → List ℕ → List ℕ → ℕ → ℕ → ℕ
edge_v k o south north i j = cond (i == 0) (slice_index south j) (cond (i == o) (slice_index north j) (2 ^ 25 + 128 * k + 8 * (i - 1) + j))

abbrev pub edge_h : ℕ → ℕ → List ℕ → List ℕ → ℕ → ℕ → ℕ
edge_h k u west east i j = cond (j == 0) (slice_index west i) (cond (j == u) (slice_index east i) (2 ^ 25 + 128 * k + 64 + 8 * i + (j - 1)))

as_grid : (p : Parameters) (group k : ℕ) (a b c d : List ℕ) → 1 ≤ length a → 1 ≤ length b → crossing_cable p group k a b c d ≡ grid p group k (length a) 0 a (reverse d) b (reverse c)
as_grid p group k [] b c d h l = absurd (omega (arith, h))
as_grid p group k (x ∷ a) [] c d h l = absurd (omega (arith, l))
as_grid p group k (x ∷ a) (y ∷ b) c d h l = refl

at_first : (o : ℕ) (x y z : ℕ) → cond (0 == 0) x (cond (0 == o) y z) ≡ x
at_first o x y z = refl

pub at_last : (o x y z : ℕ) → 1 ≤ o → cond (o == 0) x (cond (o == o) y z) ≡ y
at_last o x y z l = grind (arith, nat_tests, l)

at_inner : (i o x y z : ℕ) → 1 ≤ i → i < o → cond (i == 0) x (cond (i == o) y z) ≡ z
at_inner i o x y z l h = grind (arith, nat_tests, l, h)

pub cabled_as_grid : (p : Parameters) (group k u o : ℕ) (a b c d : List ℕ) → 1 ≤ u → 1 ≤ o → length a ≡ u → length c ≡ u → length b ≡ o → length d ≡ o →
    map without_group (crossing_cable p group k a b c d) ≡ grid_nodes p.root (inverse_root p) (edge_v k o a (reverse c)) (edge_h k u (reverse d) b) 0 o u
cabled_as_grid p group k u o a b c d some_u some_o la lc lb ld =
    let v = edge_v k o a (reverse c) in
    let h = edge_h k u (reverse d) b in
    let z : (t : ℕ) → t ≡ 0 + t = λ t. omega arith in
    ap (map without_group) (as_grid p group k a b c d (omega (arith, la, some_u)) (omega (arith, lb, some_o)) ∙ ap (λ n. grid p group k n 0 a (reverse d) b (reverse c)) la)
    ∙ cabled_grid p group v h k u o some_u
    (λ i j l m.
    at_inner (i + 1) o (slice_index a j) (slice_index (reverse c) j) (2 ^ 25 + 128 * k + 8 * (i + 1 - 1) + j) (omega arith) l
    ∙ (let e : i + 1 - 1 ≡ i = omega arith in ap (λ t. 2 ^ 25 + 128 * k + 8 * t + j) e))
    (λ i j l m.
    at_inner (j + 1) u (slice_index (reverse d) i) (slice_index b i) (2 ^ 25 + 128 * k + 64 + 8 * i + (j + 1 - 1)) (omega arith) m
    ∙ (let e : j + 1 - 1 ≡ j = omega arith in ap (λ t. 2 ^ 25 + 128 * k + 64 + 8 * i + t) e))
    0 a (reverse d) b (reverse c) (omega (arith, lb)) la (length-reverse c ∙ lc) (length-reverse d ∙ ld ∙ sym lb) (omega (arith, lb, some_o))
    (λ t l. refl)
    (λ t l. sym (at_last o (slice_index a t) (slice_index (reverse c) t) (2 ^ 25 + 128 * k + 8 * (o - 1) + t) some_o))
    (λ t l. ap (slice_index (reverse d)) (z t))
    (λ t l. ap (slice_index b) (z t) ∙ sym (at_last u (slice_index (reverse d) (0 + t)) (slice_index b (0 + t)) (2 ^ 25 + 128 * k + 64 + 8 * (0 + t) + (u - 1)) some_u))
    ∙ ap (λ n. grid_nodes p.root (inverse_root p) v h 0 n u) lb

module _ (p : Parameters) (delta free : ℕ) (numbers : AreSkeinNumbers p.modulus p.root (inverse_root p) delta) (g g' k k' u o : ℕ) (some_u : 1 ≤ u) (some_o : 1 ≤ o) (few_u : u ≤ 8) (few_o : o ≤ 8)
    (M N A B C D : List ℕ) (lM : length M ≡ u) (lA : length A ≡ u) (lC : length C ≡ u) (lN : length N ≡ o) (lB : length B ≡ o) (lD : length D ≡ o) (rest : List Node) (ok : All IsNode rest) where
  abbrev first : List Node
  first = crossing_cable p g k M D C N

  abbrev second : List Node
  second = crossing_cable p g' k' A B (reverse M) (reverse N)

  abbrev before : List ℕ
  before = A ++ B

  abbrev behind : List ℕ
  behind = reverse C ++ reverse D

  abbrev v1 : ℕ → ℕ → ℕ
  v1 = edge_v k o M (reverse C)

  abbrev h1 : ℕ → ℕ → ℕ
  h1 = edge_h k u (reverse N) D

  abbrev v2 : ℕ → ℕ → ℕ
  v2 = edge_v k' o A (reverse (reverse M))

  abbrev h2 : ℕ → ℕ → ℕ
  h2 = edge_h k' u (reverse (reverse N)) B

  meet_h : (i : ℕ) → i < o → h1 i 0 ≡ h2 (o - 1 - i) 0
  meet_h i l = get_or-reverse N i 0 (omega (arith, l, lN)) ∙ ap (λ n. slice_index N (n - 1 - i)) lN ∙ sym (ap (λ xs. slice_index xs (o - 1 - i)) (reverse-reverse N))

  meet_v : (c : ℕ) → c < u → v1 0 c ≡ v2 o c
  meet_v c l = sym (at_last o (slice_index A c) (slice_index (reverse (reverse M)) c) (2 ^ 25 + 128 * k' + 8 * (o - 1) + c) some_o ∙ ap (λ xs. slice_index xs c) (reverse-reverse M))

  first_is : map without_group first ≡ grid_nodes p.root (inverse_root p) v1 h1 0 o u
  first_is = cabled_as_grid p g k u o M D C N some_u some_o lM lC lD lN

  second_is : map without_group second ≡ grid_nodes p.root (inverse_root p) v2 h2 0 o u
  second_is = cabled_as_grid p g' k' u o A B (reverse M) (reverse N) some_u some_o lA (length-reverse M ∙ lM) lB (length-reverse N ∙ lN)

  lbefore : length before ≡ u + o
  lbefore = let e = length-append A B in omega (arith, e, lA, lB)

  lbehind : length behind ≡ u + o
  lbehind = let e = length-append (reverse C) (reverse D) in let a = length-reverse C in let b = length-reverse D in omega (arith, e, a, b, lC, lD)

  cases : {P : Type 0} → (t : ℕ) → (t < u → P) → (u ≤ t → P) → P
  cases t low high = ⊎_elim low high (plain t u)
    where
      plain : (t u : ℕ) → (t < u) ⊎ (u ≤ t)
      plain t u = elim (nat_lt t u) as (λ b. nat_lt t u ≡ b → (t < u) ⊎ (u ≤ t)) [ true ↦ (λ e. inl (grind (arith, nat_tests, e))) | false ↦ (λ e. inr (grind (arith, nat_tests, e))) ] refl

  below : (t x y : ℕ) → t < u → cond (nat_lt t u) x y ≡ x
  below t x y l = plain t u x y l
    where
      plain : (t u x y : ℕ) → t < u → cond (nat_lt t u) x y ≡ x
      plain t u x y l = grind (arith, nat_tests, l)

  above : (t x y : ℕ) → u ≤ t → cond (nat_lt t u) x y ≡ y
  above t x y l = plain t u x y l
    where
      plain : (t u x y : ℕ) → u ≤ t → cond (nat_lt t u) x y ≡ y
      plain t u x y l = grind (arith, nat_tests, l)

  abbrev arcs : List (ℕ × ℕ)
  arcs = both o u some_o some_u few_o few_u v1 h1 v2 h2 meet_h meet_v p.modulus p.root (inverse_root p) delta free numbers rest ok

  arcs_are : arcs ≡ zip before behind
  arcs_are =
      let f : ℕ → ℕ = from o u some_o some_u few_o few_u v1 h1 v2 h2 meet_h meet_v in
      let g : ℕ → ℕ = to o u some_o some_u few_o few_u v1 h1 v2 h2 meet_h meet_v in
      let z : (t : ℕ) → t ≡ 0 + t = λ t. omega arith in
      ap (arcs_between f g 0) (sym lbefore)
      ∙ zipped f g 0 before behind (lbehind ∙ sym lbefore)
      (λ t l. cases t
      (λ s. at_append_low A B t (omega (arith, s, lA)) ∙ sym (below t (v2 0 t) (h2 (t - u) u) s) ∙ ap f (z t))
      (λ s. at_append_high A B t (t - u) (omega (arith, s, lA)) ∙ sym (at_last u (slice_index (reverse (reverse N)) (t - u)) (slice_index B (t - u)) (2 ^ 25 + 128 * k' + 64 + 8 * (t - u) + (u - 1)) some_u)
      ∙ sym (above t (v2 0 t) (h2 (t - u) u) s) ∙ ap f (z t)))
      (λ t l. cases t
      (λ s. (let a = length-reverse C in at_append_low (reverse C) (reverse D) t (omega (arith, s, lC, a)))
      ∙ sym (at_last o (slice_index M t) (slice_index (reverse C) t) (2 ^ 25 + 128 * k + 8 * (o - 1) + t) some_o) ∙ sym (below t (v1 o t) (h1 (o - 1 - (t - u)) u) s) ∙ ap g (z t))
      (λ s. (let a = length-reverse C in at_append_high (reverse C) (reverse D) t (t - u) (omega (arith, s, lC, a)))
      ∙ get_or-reverse D (t - u) 0 (omega (arith, s, l, lbefore, lD)) ∙ ap (λ n. slice_index D (n - 1 - (t - u))) lD
      ∙ sym (at_last u (slice_index (reverse N) (o - 1 - (t - u))) (slice_index D (o - 1 - (t - u))) (2 ^ 25 + 128 * k + 64 + 8 * (o - 1 - (t - u)) + (u - 1)) some_u)
      ∙ sym (above t (v1 o t) (h1 (o - 1 - (t - u)) u) s) ∙ ap g (z t)))

  all_times : (z : ℕ) → times_in (names_of (first ++ (second ++ rest))) z ≡ times_in (names_of first) z + times_in (names_of second) z + times_in (names_of rest) z
  all_times z = let a = times_of-append z first (second ++ rest) in let b = times_of-append z second rest in omega (arith, a, b)

  -- the ends of the strands stand twice
  pub strands_twice : ((z : ℕ) → 1 ≤ times_in (names_of (first ++ (second ++ rest))) z → times_in (names_of (first ++ (second ++ rest))) z ≡ 2) →
      (z : ℕ) → 1 ≤ times_in before z + times_in behind z → times_in before z + times_in behind z + times_in (names_of rest) z ≡ 2
  strands_twice twice z one =
      let x1 = times_in-append A B z in
      let x2 = times_in-append (reverse C) (reverse D) z in
      let rC = times-reverse z C in let rD = times-reverse z D in let rM = times-reverse z M in let rN = times-reverse z N in
      let c1 = crossing-times p g k z M D C N (lM ∙ sym lC) (lD ∙ sym lN) in
      let c2 = crossing-times p g' k' z A B (reverse M) (reverse N) (lA ∙ sym (length-reverse M ∙ lM)) (lB ∙ sym (length-reverse N ∙ lN)) in
      let c = all_times z in
      let two = twice z (omega (arith, one, x1, x2, rC, rD, c1, c2, c)) in
      omega (arith, one, x1, x2, rC, rD, rM, rN, c1, c2, c, two)

  -- A CABLED BIGON IS STRANDS
  pub cabled_bigon : ((z : ℕ) → 1 ≤ times_in (names_of (first ++ (second ++ rest))) z → times_in (names_of (first ++ (second ++ rest))) z ≡ 2) →
      value p.modulus delta record { nodes = first ++ (second ++ rest); free_loops = free } ≡ value p.modulus delta record { nodes = arcs_of (zip before behind) ++ rest; free_loops = free }
  cabled_bigon twice =
      let G1 = grid_nodes p.root (inverse_root p) v1 h1 0 o u in
      let G2 = grid_nodes p.root (inverse_root p) v2 h2 0 o u in
      let n1 : names_of G1 ≡ names_of first = ap names_of (sym first_is) ∙ names_of-ungrouped first in
      let n2 : names_of G2 ≡ names_of second = ap names_of (sym second_is) ∙ names_of-ungrouped second in
      let same : map without_group (first ++ (second ++ rest)) ≡ map without_group (G1 ++ (G2 ++ rest)) =
      ungrouped-append first (second ++ rest) ∙ ap (λ ns. map without_group first ++ ns) (ungrouped-append second rest)
      ∙ sym (ungrouped-append G1 (G2 ++ rest) ∙ ap (λ ns. map without_group G1 ++ ns) (ungrouped-append G2 rest)
      ∙ ap₂ (λ xs ys. xs ++ (ys ++ map without_group rest)) (ap (map without_group) (sym first_is) ∙ ungrouped_twice first) (ap (map without_group) (sym second_is) ∙ ungrouped_twice second)) in
      let old_pairs : ArePaired (names_of (G1 ++ G2)) (names_of (G1 ++ G2) ++ names_of rest) =
      λ z m. (
      let one = times_of_member z (names_of (G1 ++ G2)) m in
      let a = times_of-append z G1 G2 in
      let b = times_in-append (names_of (G1 ++ G2)) (names_of rest) z in
      let c = all_times z in
      let d = ap (λ ns. times_in ns z) n1 in
      let e = ap (λ ns. times_in ns z) n2 in
      let two = twice z (omega (arith, one, a, c, d, e)) in
      omega (arith, a, b, c, d, e, two)) in
      let ends : (z : ℕ) → times_in (names_of (arcs_of arcs)) z ≡ times_in before z + times_in behind z =
      λ z. ap (λ es. times_in es z) (names_of_arcs arcs) ∙ ap (λ es. times_in (ends_of es) z) arcs_are ∙ zip-times z before behind (lbehind ∙ sym lbefore) in
      let new_pairs : ArePaired (names_of (arcs_of arcs)) (names_of (arcs_of arcs) ++ names_of rest) =
      λ z m. (
      let one = times_of_member z (names_of (arcs_of arcs)) m in
      let e = ends z in
      let x1 = times_in-append A B z in
      let x2 = times_in-append (reverse C) (reverse D) z in
      let rC = times-reverse z C in let rD = times-reverse z D in let rM = times-reverse z M in let rN = times-reverse z N in
      let c1 = crossing-times p g k z M D C N (lM ∙ sym lC) (lD ∙ sym lN) in
      let c2 = crossing-times p g' k' z A B (reverse M) (reverse N) (lA ∙ sym (length-reverse M ∙ lM)) (lB ∙ sym (length-reverse N ∙ lN)) in
      let c = all_times z in
      let two = twice z (omega (arith, one, e, x1, x2, rC, rD, c1, c2, c)) in
      let b = times_in-append (names_of (arcs_of arcs)) (names_of rest) z in
      omega (arith, one, e, x1, x2, rC, rD, rM, rN, c1, c2, c, two, b)) in
      (groups delta free (first ++ (second ++ rest)) (G1 ++ (G2 ++ rest)) same).values p.modulus
      ∙ bundle_bigon o u some_o some_u few_o few_u v1 h1 v2 h2 meet_h meet_v p.modulus p.root (inverse_root p) delta free numbers rest ok old_pairs new_pairs
      ∙ ap (λ es. value p.modulus delta record { nodes = arcs_of es ++ rest; free_loops = free }) arcs_are
