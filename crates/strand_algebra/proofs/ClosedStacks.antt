-- The closure of a product is the ring of both pairings, and a ring may be turned: so two pairings close alike in either order.
use Rattle.std.proofs.Common.{◌≡◌, ℕ, ◌+◌, ◌-◌, ◌<◌, true, nat_lt, ◌==◌, if◌then◌else◌, List, [], ◌∷◌, ◌++◌, map, refl, sym, ap, ap₂, ◌∙◌, arith, Contains, ⊎_elim}
use Rattle.std.proofs.lemmas.Bool.{or_left, or_cases}
use Rattle.std.proofs.lemmas.Bool.Decides.{nat_tests}
use Rattle.std.proofs.lemmas.List.{map-append}
use Rattle.std.proofs.lemmas.List.Elements.{Contains-append_left, Contains-append_right, Contains-append_cases}
use Rattle.std.specs.List.{range_with_len}
use Rattle.std.specs.Set.{is_member}
use Rattle.list_lemmas.proofs.Ranges.{is_member-range}
use Rattle.graph_parts.proofs.Agreement.{label_count-agree, to_All}
use Rattle.graph_parts.proofs.Distinct.{is_member-append}
use Rattle.graph_parts.proofs.Ends.{EndsAre-append}
use Rattle.graph_parts.proofs.Renaming.{map_map}
use Rattle.graph_parts.specs.Ends.{EndsAre}
use Rattle.graph_parts.specs.Labels.{label_of, label_count}
use Rattle.graph_parts.specs.Renaming.{renamed}
use Rattle.strand_algebra.proofs.Contractions.{map-named, below_range, in_map, out_map, label_count-members, EndsAre-range, EndsAre-named, EndsAre-stack, label_count-names, es, ps, names, open_names, contract_count}
use Rattle.strand_algebra.proofs.LabelProducts.{closed_edges, label_parts, pairs, label_stack, outer, label_product, label_loops, label_closed_loops, IsPairingOf}
use Rattle.strand_algebra.proofs.OneSide.{named_same, map_range}
use Rattle.strand_algebra.proofs.Stacks.{outer_below, IsPairingOf-product, inner, inner_outer}
use Rattle.strand_algebra.proofs.Walking.{Agree-same_edges}
use Rattle.strand_algebra.specs.StrandPairings.{seams}

abbrev pub closing : ℕ → List (ℕ × ℕ)
closing n = map (λ i. (i, n + n + (n + n - 1 - i))) (range_with_len 0 n)

-- q's names first, then p's; the seam, and the closing strands
abbrev pub ring : ℕ → List ℕ → List ℕ → List (ℕ × ℕ)
ring n p q = label_stack n p q ++ closing n

map_same : (xs : List (ℕ × ℕ)) → map (renamed (λ x. x)) xs ≡ xs
map_same [] = refl
map_same (x ∷ xs) = ap (λ ys. x ∷ ys) (map_same xs)

map_id : (xs : List ℕ) → map (λ x. x) xs ≡ xs
map_id [] = refl
map_id (x ∷ xs) = ap (λ ys. x ∷ ys) (map_id xs)

outer_low : (n i : ℕ) → i < n → outer n i ≡ i
outer_low n i b = grind (arith, nat_tests)

outer_high : (n i : ℕ) → i < n → outer n (n + n - 1 - i) ≡ n + n + (n + n - 1 - i)
outer_high n i b = grind (arith, nat_tests)

module _ (n : ℕ) (p q : List ℕ) (hp : IsPairingOf (n + n) p) (hq : IsPairingOf (n + n) q) where
  abbrev same : (u v : ℕ) → u ≡ v → u ≡ v
  same u v e = e

  abbrev opens : List ℕ
  opens = open_names n p q hp hq (λ x. x) same

  abbrev pq : List ℕ
  pq = label_product n p q

  hpq : IsPairingOf (n + n) pq
  hpq = IsPairingOf-product n p q hp hq

  in_opens : (i : ℕ) → i < n + n → is_member ◌==◌ opens (outer n i) ≡ true
  in_opens i b = in_map (λ k. outer n k) (n + n) i b

  ends_closing : EndsAre (is_member ◌==◌ opens) (closing n)
  ends_closing =
      EndsAre-range (is_member ◌==◌ opens) (λ i. i) (λ i. n + n + (n + n - 1 - i)) 0 n
      (λ i x y. ap (is_member ◌==◌ opens) (sym (outer_low n i (omega arith))) ∙ in_opens i (omega arith))
      (λ i x y. ap (is_member ◌==◌ opens) (sym (outer_high n i (omega arith))) ∙ in_opens (n + n - 1 - i) (omega arith))

  ends_closed : EndsAre (is_member ◌==◌ (range_with_len 0 (n + n))) (closed_edges n pq)
  ends_closed =
      EndsAre-append (is_member ◌==◌ (range_with_len 0 (n + n))) (pairs 0 pq) (map (λ i. (i, n + n - 1 - i)) (range_with_len 0 n))
      (EndsAre-named (is_member ◌==◌ (range_with_len 0 (n + n))) (λ i. 0 + i) (n + n) pq hpq (λ i b. is_member-range 0 (n + n) (0 + i) (omega arith) (omega arith)))
      (EndsAre-range (is_member ◌==◌ (range_with_len 0 (n + n))) (λ i. i) (λ i. n + n - 1 - i) 0 n (λ i x y. is_member-range 0 (n + n) i (omega arith) (omega arith)) (λ i x y. is_member-range 0 (n + n) (n + n - 1 - i) (omega arith) (omega arith)))

  closed_named : map (renamed (outer n)) (closed_edges n pq) ≡ ps n p q hp hq (λ x. x) same ++ closing n
  closed_named =
      map-append (renamed (outer n)) (pairs 0 pq) (map (λ i. (i, n + n - 1 - i)) (range_with_len 0 n))
      ∙ ap₂ (λ x y. x ++ y)
      (map-named (outer n) (λ i. 0 + i) pq ∙ named_same (λ i. outer n (0 + i)) (λ i. outer n i) (n + n) pq hpq (λ i b. let z : 0 + i ≡ i = omega arith in ap (outer n) z))
      (map_map (renamed (outer n)) (λ i. (i, n + n - 1 - i)) (range_with_len 0 n) ∙ map_range _ _ 0 n (λ i x y. ap₂ (λ u v. (u, v)) (outer_low n i (omega arith)) (outer_high n i (omega arith))))

  -- THE RING OF TWO PAIRINGS
  pub ring_count : label_parts (ring n p q) (range_with_len 0 (n + n + (n + n))) ≡ label_loops n p q + label_closed_loops n (label_product n p q)
  ring_count =
      let all = range_with_len 0 (n + n + (n + n)) in
      let c = contract_count n p q hp hq (λ x. x) same (closing n) opens ends_closing (λ x m k. m) in
      let edges : es n p q hp hq (λ x. x) same ++ closing n ≡ ring n p q = ap (λ t. t ++ closing n) (map_same (label_stack n p q)) in
      let wide = label_count-members (label_of (ring n p q)) all (names n p q hp hq (λ x. x) same ++ opens)
      (λ x m. is_member-append (names n p q hp hq (λ x. x) same) opens x ∙ or_left (is_member ◌==◌ (names n p q hp hq (λ x. x) same) x) (is_member ◌==◌ opens x) (ap (λ ys. is_member ◌==◌ ys x) (map_id all) ∙ m))
      (λ x m. ⊎_elim (λ k. sym (ap (λ ys. is_member ◌==◌ ys x) (map_id all)) ∙ k)
      (λ k. let t = out_map (λ i. outer n i) (n + n) x k in let b = outer_below n t.0 t.1.0 in let e = t.1.1 in is_member-range 0 (n + n + (n + n)) x (omega arith) (omega (arith, b, e)))
      (or_cases (is_member ◌==◌ (names n p q hp hq (λ x. x) same) x) (is_member ◌==◌ opens x) (sym (is_member-append (names n p q hp hq (λ x. x) same) opens x) ∙ m))) in
      let closed : label_parts (ps n p q hp hq (λ x. x) same ++ closing n) (opens ++ opens) ≡ label_closed_loops n pq =
      label_count-members (label_of (ps n p q hp hq (λ x. x) same ++ closing n)) (opens ++ opens) opens
      (λ x m. ⊎_elim (λ k. k) (λ k. k) (or_cases (is_member ◌==◌ opens x) (is_member ◌==◌ opens x) (sym (is_member-append opens opens x) ∙ m)))
      (λ x m. is_member-append opens opens x ∙ or_left (is_member ◌==◌ opens x) (is_member ◌==◌ opens x) m)
      ∙ sym (ap (λ t. label_count (label_of t) opens) closed_named)
      ∙ label_count-names (outer n) (range_with_len 0 (n + n)) (closed_edges n pq) (range_with_len 0 (n + n)) (λ u v a b e. sym (inner_outer n u) ∙ ap (inner n) e ∙ inner_outer n v) ends_closed (to_All (is_member ◌==◌ (range_with_len 0 (n + n))) (range_with_len 0 (n + n)) (λ x m. m)) in
      wide ∙ sym (ap (λ t. label_count (label_of t) (names n p q hp hq (λ x. x) same ++ opens)) edges) ∙ c ∙ ap (λ t. label_loops n p q + t) closed

-- ---- a ring turned by one piece
abbrev turned : ℕ → ℕ → ℕ
turned n x = if nat_lt x (n + n) then n + n + x else x - (n + n)

turned_low : (n x : ℕ) → x < n + n → turned n x ≡ n + n + x
turned_low n x b = grind (arith, nat_tests)

turned_high : (n x : ℕ) → turned n (n + n + x) ≡ x
turned_high n x = grind (arith, nat_tests)

turned_one : (n u v : ℕ) → u < n + n + (n + n) → v < n + n + (n + n) → turned n u ≡ turned n v → u ≡ v
turned_one n u v a b e = grind (arith, nat_tests, e)

turned_below : (n x : ℕ) → x < n + n + (n + n) → turned n x < n + n + (n + n)
turned_below n x b = grind (arith, nat_tests)

turned_twice : (n x : ℕ) → x < n + n + (n + n) → turned n (turned n x) ≡ x
turned_twice n x b = grind (arith, nat_tests)

exchange : (a b s c : List (ℕ × ℕ)) (e : ℕ × ℕ) → Contains ((a ++ (b ++ s)) ++ c) e → Contains ((b ++ (a ++ c)) ++ s) e
exchange a b s c e h =
    ⊎_elim
    (λ x. ⊎_elim (λ y. Contains-append_left (b ++ (a ++ c)) s e (Contains-append_right b (a ++ c) e (Contains-append_left a c e y)))
    (λ y. ⊎_elim (λ z. Contains-append_left (b ++ (a ++ c)) s e (Contains-append_left b (a ++ c) e z)) (λ z. Contains-append_right (b ++ (a ++ c)) s e z) (Contains-append_cases b s e y))
    (Contains-append_cases a (b ++ s) e x))
    (λ x. Contains-append_left (b ++ (a ++ c)) s e (Contains-append_right b (a ++ c) e (Contains-append_right a c e x)))
    (Contains-append_cases (a ++ (b ++ s)) c e h)

module _ (n : ℕ) (p q : List ℕ) (hp : IsPairingOf (n + n) p) (hq : IsPairingOf (n + n) q) where
  abbrev all : List ℕ
  all = range_with_len 0 (n + n + (n + n))

  ends_ring : EndsAre (is_member ◌==◌ all) (ring n p q)
  ends_ring =
      EndsAre-append (is_member ◌==◌ all) (label_stack n p q) (closing n) (EndsAre-stack n p q hp hq)
      (EndsAre-range (is_member ◌==◌ all) (λ i. i) (λ i. n + n + (n + n - 1 - i)) 0 n (λ i x y. is_member-range 0 (n + n + (n + n)) i (omega arith) (omega arith)) (λ i x y. is_member-range 0 (n + n + (n + n)) (n + n + (n + n - 1 - i)) (omega arith) (omega arith)))

  turned_ring : map (renamed (turned n)) (ring n p q) ≡ (pairs (n + n) q ++ (pairs 0 p ++ closing n)) ++ seams n
  turned_ring =
      map-append (renamed (turned n)) (label_stack n p q) (closing n)
      ∙ ap₂ (λ x y. x ++ y)
      (map-append (renamed (turned n)) (pairs 0 q) (pairs (n + n) p ++ seams n)
      ∙ ap₂ (λ x y. x ++ y)
      (map-named (turned n) (λ i. 0 + i) q ∙ named_same (λ i. turned n (0 + i)) (λ i. n + n + i) (n + n) q hq (λ i b. let z : 0 + i ≡ i = omega arith in ap (turned n) z ∙ turned_low n i b))
      (map-append (renamed (turned n)) (pairs (n + n) p) (seams n)
      ∙ ap₂ (λ x y. x ++ y)
      (map-named (turned n) (λ i. n + n + i) p ∙ named_same (λ i. turned n (n + n + i)) (λ i. 0 + i) (n + n) p hp (λ i b. let z : 0 + i ≡ i = omega arith in turned_high n i ∙ sym z))
      (map_map (renamed (turned n)) (λ i. (n + n + i, n + n - 1 - i)) (range_with_len 0 n) ∙ map_range _ _ 0 n (λ i x y. ap₂ (λ u v. (u, v)) (turned_high n i) (turned_low n (n + n - 1 - i) (omega arith))))))
      (map_map (renamed (turned n)) (λ i. (i, n + n + (n + n - 1 - i))) (range_with_len 0 n) ∙ map_range _ _ 0 n (λ i x y. ap₂ (λ u v. (u, v)) (turned_low n i (omega arith)) (turned_high n (n + n - 1 - i))))

  ring_turned : label_parts (ring n p q) all ≡ label_parts (ring n q p) all
  ring_turned =
      sym (label_count-names (turned n) all (ring n p q) all
      (λ u v a b e. turned_one n u v (let c = below_range 0 (n + n + (n + n)) u a in omega (arith, c)) (let c = below_range 0 (n + n + (n + n)) v b in omega (arith, c)) e) ends_ring (to_All (is_member ◌==◌ all) all (λ x m. m)))
      ∙ ap (λ t. label_count (label_of t) (map (turned n) all)) turned_ring
      ∙ label_count-agree (λ x. true) _ (label_of (ring n q p)) (map (turned n) all)
      (Agree-same_edges (λ x. true) ((pairs (n + n) q ++ (pairs 0 p ++ closing n)) ++ seams n) (ring n q p) (exchange (pairs (n + n) q) (pairs 0 p) (closing n) (seams n)) (exchange (pairs 0 p) (pairs (n + n) q) (seams n) (closing n)))
      (to_All (λ x. true) (map (turned n) all) (λ x m. refl))
      ∙ label_count-members (label_of (ring n q p)) (map (turned n) all) all
      (λ x m. let t = out_map (turned n) (n + n + (n + n)) x m in let b = turned_below n t.0 t.1.0 in let e = t.1.1 in is_member-range 0 (n + n + (n + n)) x (omega arith) (omega (arith, b, e)))
      (λ x m. let c = below_range 0 (n + n + (n + n)) x m in let b : x < n + n + (n + n) = omega (arith, c) in
      ap (is_member ◌==◌ (map (turned n) all)) (sym (turned_twice n x b)) ∙ in_map (turned n) (n + n + (n + n)) (turned n x) (turned_below n x b))

  -- THE CLOSURE OF A PRODUCT DOES NOT DEPEND ON THE ORDER
  pub trace : label_loops n p q + label_closed_loops n (label_product n p q) ≡ label_loops n q p + label_closed_loops n (label_product n q p)
  trace = sym (ring_count n p q hp hq) ∙ ring_turned ∙ ring_count n q p hq hp
