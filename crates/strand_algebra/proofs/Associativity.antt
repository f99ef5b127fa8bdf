-- The product of pairings is associative, with its loops: on both sides the product stands in for a stack, and what arises is
-- the stack of three, with its edges in another order.
use Rattle.std.proofs.Common.{◌≡◌, ℕ, ◌+◌, ◌-◌, ◌<◌, ◌≤◌, true, false, not, nat_lt, ◌&&◌, ◌||◌, ◌==◌, if◌then◌else◌, List, [], ◌∷◌, ◌++◌, map, refl, sym, ap, ap₂, ◌∙◌, arith, Contains, ⊎_elim}
use Rattle.std.proofs.lemmas.List.Elements.{Contains-append_left, Contains-append_right, Contains-append_cases}
use Rattle.std.proofs.lemmas.Bool.{cases_Bool, or_left, or_right, or_cases}
use Rattle.std.proofs.lemmas.Bool.Decides.{nat_tests}
use Rattle.std.proofs.lemmas.List.{map-append}
use Rattle.std.specs.List.{range_with_len}
use Rattle.std.specs.Set.{is_member}
use Rattle.list_lemmas.proofs.Ranges.{is_member-range}
use Rattle.graph_parts.proofs.Agreement.{label_count-agree, to_All}
use Rattle.graph_parts.proofs.Distinct.{is_member-append}
use Rattle.graph_parts.proofs.Ends.{EndsAre-append}
use Rattle.graph_parts.proofs.Renaming.{map_map}
use Rattle.graph_parts.proofs.Through.{is_outer}
use Rattle.graph_parts.specs.Ends.{EndsAre}
use Rattle.graph_parts.specs.Labels.{label_of, label_count, Agree}
use Rattle.graph_parts.specs.Renaming.{renamed}
use Rattle.strand_algebra.proofs.Contractions.{named, map-named, below_range, in_map, out_map, label_count-members, EndsAre-range, EndsAre-named, EndsAre-stack, es, ps, names, open_names}
use Rattle.strand_algebra.proofs.LabelProducts.{label_parts, pairs, label_stack, outer, other, label_product, label_loops, IsPairingOf}
use Rattle.strand_algebra.proofs.OneSide.{named_same, map_range, side_tells, side_count}
use Rattle.strand_algebra.proofs.Stacks.{outer_below, IsPairingOf-product}
use Rattle.strand_algebra.proofs.Walking.{Agree-same_edges}
use Rattle.strand_algebra.specs.StrandPairings.{seams}

-- ---- edges in another order
module _ (a b c s t : List (ℕ × ℕ)) where
  in_first : (e : ℕ × ℕ) → Contains (a ++ (b ++ s)) e → Contains ((a ++ (b ++ s)) ++ (c ++ t)) e
  in_first e h = Contains-append_left (a ++ (b ++ s)) (c ++ t) e h

  left_order : (e : ℕ × ℕ) → Contains ((b ++ (c ++ t)) ++ (a ++ s)) e → Contains ((a ++ (b ++ s)) ++ (c ++ t)) e
  left_order e h =
      ⊎_elim
      (λ x. ⊎_elim (λ y. in_first e (Contains-append_right a (b ++ s) e (Contains-append_left b s e y))) (λ y. Contains-append_right (a ++ (b ++ s)) (c ++ t) e y) (Contains-append_cases b (c ++ t) e x))
      (λ x. ⊎_elim (λ y. in_first e (Contains-append_left a (b ++ s) e y)) (λ y. in_first e (Contains-append_right a (b ++ s) e (Contains-append_right b s e y))) (Contains-append_cases a s e x))
      (Contains-append_cases (b ++ (c ++ t)) (a ++ s) e h)

  right_order : (e : ℕ × ℕ) → Contains ((a ++ (b ++ s)) ++ (c ++ t)) e → Contains ((b ++ (c ++ t)) ++ (a ++ s)) e
  right_order e h =
      ⊎_elim
      (λ x. ⊎_elim (λ y. Contains-append_right (b ++ (c ++ t)) (a ++ s) e (Contains-append_left a s e y))
      (λ y. ⊎_elim (λ z. Contains-append_left (b ++ (c ++ t)) (a ++ s) e (Contains-append_left b (c ++ t) e z)) (λ z. Contains-append_right (b ++ (c ++ t)) (a ++ s) e (Contains-append_right a s e z)) (Contains-append_cases b s e y))
      (Contains-append_cases a (b ++ s) e x))
      (λ x. Contains-append_left (b ++ (c ++ t)) (a ++ s) e (Contains-append_right b (c ++ t) e x))
      (Contains-append_cases (a ++ (b ++ s)) (c ++ t) e h)

pub swap_front : (a b c : List (ℕ × ℕ)) (e : ℕ × ℕ) → Contains (a ++ (b ++ c)) e → Contains (b ++ (a ++ c)) e
swap_front a b c e h =
    ⊎_elim
    (λ x. Contains-append_right b (a ++ c) e (Contains-append_left a c e x))
    (λ x. ⊎_elim (λ y. Contains-append_left b (a ++ c) e y) (λ y. Contains-append_right b (a ++ c) e (Contains-append_right a c e y)) (Contains-append_cases b c e x))
    (Contains-append_cases a (b ++ c) e h)

-- ---- the names of the three: r, q and p from 0, 2n and 4n on
abbrev first_names : ℕ → ℕ → ℕ
first_names n x = if nat_lt x (n + n) then x else n + n + outer n (x - (n + n))

abbrev second_names : ℕ → ℕ → ℕ
second_names n x = if nat_lt x (n + n) then outer n x else n + n + x

abbrev outer_three : ℕ → ℕ → ℕ
outer_three n i = if nat_lt i n then i else n + n + (n + n + i)

-- two labels that tell the points alike give one partner
pub other_alike : (l k : ℕ → ℕ) (points : List ℕ) (x : ℕ) → ((y : ℕ) → is_member ◌==◌ points y ≡ true → (l x == l y) ≡ (k x == k y)) → other l points x ≡ other k points x
other_alike l k [] x h = refl
other_alike l k (y ∷ points) x h =
    ap₂ (λ s t. if s && not (x == y) then y else t) (h y (or_left (y == y) (is_member ◌==◌ points y) (grind (arith, nat_tests))))
    (other_alike l k points x (λ z m. h z (or_right (z == y) (is_member ◌==◌ points z) m)))

module _ (n : ℕ) (p q r : List ℕ) (hp : IsPairingOf (n + n) p) (hq : IsPairingOf (n + n) q) (hr : IsPairingOf (n + n) r) where
  abbrev up : ℕ → ℕ
  up x = n + n + x

  abbrev stay : ℕ → ℕ
  stay x = x

  up_one : (u v : ℕ) → up u ≡ up v → u ≡ v
  up_one u v e = omega arith

  abbrev A : List (ℕ × ℕ)
  A = named (λ i. i) r

  abbrev B : List (ℕ × ℕ)
  B = named up q

  abbrev C : List (ℕ × ℕ)
  C = named (λ i. n + n + (n + n + i)) p

  abbrev T : List (ℕ × ℕ)
  T = map (λ i. (n + n + (n + n + i), n + n + (n + n - 1 - i))) (range_with_len 0 n)

  abbrev pq : List ℕ
  pq = label_product n p q

  abbrev qr : List ℕ
  qr = label_product n q r

  hpq : IsPairingOf (n + n) pq
  hpq = IsPairingOf-product n p q hp hq

  hqr : IsPairingOf (n + n) qr
  hqr = IsPairingOf-product n q r hq hr

  -- the edges of each side
  pub zero_names : (x : List ℕ) → IsPairingOf (n + n) x → (f : ℕ → ℕ) → named (λ i. f (0 + i)) x ≡ named f x
  zero_names x hx f = named_same (λ i. f (0 + i)) f (n + n) x hx (λ i b. let z : 0 + i ≡ i = omega arith in ap f z)

  first_edges : es n p q hp hq up up_one ++ (A ++ seams n) ≡ (B ++ (C ++ T)) ++ (A ++ seams n)
  first_edges =
      ap (λ k. k ++ (A ++ seams n))
      (map-append (renamed up) (pairs 0 q) (pairs (n + n) p ++ seams n)
      ∙ ap₂ (λ x y. x ++ y) (map-named up (λ i. 0 + i) q ∙ zero_names q hq up)
      (map-append (renamed up) (pairs (n + n) p) (seams n) ∙ ap₂ (λ x y. x ++ y) (map-named up (λ i. n + n + i) p) (map_map (renamed up) (λ i. (n + n + i, n + n - 1 - i)) (range_with_len 0 n))))

  second_edges : es n q r hq hr stay (λ u v e. e) ++ (C ++ T) ≡ (A ++ (B ++ seams n)) ++ (C ++ T)
  second_edges =
      ap (λ k. k ++ (C ++ T))
      (map-append (renamed stay) (pairs 0 r) (pairs (n + n) q ++ seams n)
      ∙ ap₂ (λ x y. x ++ y) (map-named stay (λ i. 0 + i) r ∙ zero_names r hr stay)
      (map-append (renamed stay) (pairs (n + n) q) (seams n) ∙ ap₂ (λ x y. x ++ y) (map-named stay (λ i. n + n + i) q) (map_map (renamed stay) (λ i. (n + n + i, n + n - 1 - i)) (range_with_len 0 n))))

  first_outer : map (renamed (first_names n)) (label_stack n pq r) ≡ A ++ (ps n p q hp hq up up_one ++ seams n)
  first_outer =
      map-append (renamed (first_names n)) (pairs 0 r) (pairs (n + n) pq ++ seams n)
      ∙ ap₂ (λ x y. x ++ y) (map-named (first_names n) (λ i. 0 + i) r ∙ named_same _ _ (n + n) r hr (λ i b. grind (arith, nat_tests)))
      (map-append (renamed (first_names n)) (pairs (n + n) pq) (seams n)
      ∙ ap₂ (λ x y. x ++ y) (map-named (first_names n) (λ i. n + n + i) pq ∙ named_same _ _ (n + n) pq hpq (λ i b. let z : n + n + i - (n + n) ≡ i = omega arith in let t : nat_lt (n + n + i) (n + n) ≡ false = grind (arith, nat_tests) in rw (t, z)))
      (map_map (renamed (first_names n)) (λ i. (n + n + i, n + n - 1 - i)) (range_with_len 0 n)
      ∙ map_range _ _ 0 n (λ i x y. ap₂ (λ u v. (u, v)) (grind (arith, nat_tests)) (grind (arith, nat_tests)))))

  second_outer : map (renamed (second_names n)) (label_stack n p qr) ≡ ps n q r hq hr stay (λ u v e. e) ++ (C ++ T)
  second_outer =
      map-append (renamed (second_names n)) (pairs 0 qr) (pairs (n + n) p ++ seams n)
      ∙ ap₂ (λ x y. x ++ y) (map-named (second_names n) (λ i. 0 + i) qr ∙ named_same _ _ (n + n) qr hqr (λ i b. grind (arith, nat_tests)))
      (map-append (renamed (second_names n)) (pairs (n + n) p) (seams n)
      ∙ ap₂ (λ x y. x ++ y) (map-named (second_names n) (λ i. n + n + i) p ∙ named_same _ _ (n + n) p hp (λ i b. grind (arith, nat_tests)))
      (map_map (renamed (second_names n)) (λ i. (n + n + i, n + n - 1 - i)) (range_with_len 0 n)
      ∙ map_range _ _ 0 n (λ i x y. ap₂ (λ u v. (u, v)) (grind (arith, nat_tests)) (grind (arith, nat_tests)))))

  abbrev open_1 : List ℕ
  open_1 = open_names n p q hp hq up up_one

  abbrev names_1 : List ℕ
  names_1 = names n p q hp hq up up_one

  abbrev others_1 : List ℕ
  others_1 = range_with_len 0 (n + n) ++ open_1

  abbrev open_2 : List ℕ
  open_2 = open_names n q r hq hr stay (λ u v e. e)

  abbrev names_2 : List ℕ
  names_2 = names n q r hq hr stay (λ u v e. e)

  abbrev others_2 : List ℕ
  others_2 = map (λ i. n + n + (n + n + i)) (range_with_len 0 (n + n)) ++ open_2

  -- members of the lists of names
  low_1 : (x : ℕ) → x < n + n → is_member ◌==◌ others_1 x ≡ true
  low_1 x b = is_member-append (range_with_len 0 (n + n)) open_1 x ∙ or_left (is_member ◌==◌ (range_with_len 0 (n + n)) x) (is_member ◌==◌ open_1 x) (is_member-range 0 (n + n) x (omega arith) (omega arith))

  in_open_1 : (i : ℕ) → i < n + n → is_member ◌==◌ open_1 (up (outer n i)) ≡ true
  in_open_1 i b = in_map (λ k. up (outer n k)) (n + n) i b

  high_1 : (x : ℕ) → is_member ◌==◌ open_1 x ≡ true → is_member ◌==◌ others_1 x ≡ true
  high_1 x m = is_member-append (range_with_len 0 (n + n)) open_1 x ∙ or_right (is_member ◌==◌ (range_with_len 0 (n + n)) x) (is_member ◌==◌ open_1 x) m

  in_open_2 : (i : ℕ) → i < n + n → is_member ◌==◌ open_2 (outer n i) ≡ true
  in_open_2 i b = in_map (λ k. outer n k) (n + n) i b

  low_2 : (x : ℕ) → is_member ◌==◌ open_2 x ≡ true → is_member ◌==◌ others_2 x ≡ true
  low_2 x m = is_member-append (map (λ i. n + n + (n + n + i)) (range_with_len 0 (n + n))) open_2 x ∙ or_right (is_member ◌==◌ (map (λ i. n + n + (n + n + i)) (range_with_len 0 (n + n))) x) (is_member ◌==◌ open_2 x) m

  high_2 : (i : ℕ) → i < n + n → is_member ◌==◌ others_2 (n + n + (n + n + i)) ≡ true
  high_2 i b =
      is_member-append (map (λ k. n + n + (n + n + k)) (range_with_len 0 (n + n))) open_2 (n + n + (n + n + i))
      ∙ or_left (is_member ◌==◌ (map (λ k. n + n + (n + n + k)) (range_with_len 0 (n + n))) (n + n + (n + n + i))) (is_member ◌==◌ open_2 (n + n + (n + n + i))) (in_map (λ k. n + n + (n + n + k)) (n + n) i b)

  -- the sides' rest
  ends_1 : EndsAre (is_member ◌==◌ others_1) (A ++ seams n)
  ends_1 =
      EndsAre-append (is_member ◌==◌ others_1) A (seams n)
      (EndsAre-named (is_member ◌==◌ others_1) (λ i. i) (n + n) r hr low_1)
      (EndsAre-range (is_member ◌==◌ others_1) (λ i. n + n + i) (λ i. n + n - 1 - i) 0 n
      (λ i x y. let s : outer n i ≡ i = grind (arith, nat_tests) in rw s at (high_1 (up (outer n i)) (in_open_1 i (omega arith))))
      (λ i x y. low_1 (n + n - 1 - i) (omega arith)))

  ends_2 : EndsAre (is_member ◌==◌ others_2) (C ++ T)
  ends_2 =
      EndsAre-append (is_member ◌==◌ others_2) C T
      (EndsAre-named (is_member ◌==◌ others_2) (λ i. n + n + (n + n + i)) (n + n) p hp high_2)
      (EndsAre-range (is_member ◌==◌ others_2) (λ i. n + n + (n + n + i)) (λ i. n + n + (n + n - 1 - i)) 0 n
      (λ i x y. high_2 i (omega arith))
      (λ i x y. let s : outer n (n + n - 1 - i) ≡ n + n + (n + n - 1 - i) = grind (arith, nat_tests) in ap (is_member ◌==◌ others_2) (sym s) ∙ low_2 (outer n (n + n - 1 - i)) (in_open_2 (n + n - 1 - i) (omega arith))))

  meets_1 : (x : ℕ) → is_member ◌==◌ others_1 x ≡ true → is_member ◌==◌ names_1 x ≡ true → is_member ◌==◌ open_1 x ≡ true
  meets_1 x m k =
      ⊎_elim
      (λ l. absurd (let b = below_range 0 (n + n) x l in let t = out_map up (n + n + (n + n)) x k in let e = t.1.1 in omega (arith, b, e)))
      (λ o. o)
      (or_cases (is_member ◌==◌ (range_with_len 0 (n + n)) x) (is_member ◌==◌ open_1 x) (sym (is_member-append (range_with_len 0 (n + n)) open_1 x) ∙ m))

  meets_2 : (x : ℕ) → is_member ◌==◌ others_2 x ≡ true → is_member ◌==◌ names_2 x ≡ true → is_member ◌==◌ open_2 x ≡ true
  meets_2 x m k =
      ⊎_elim
      (λ l. absurd (let s = out_map (λ i. n + n + (n + n + i)) (n + n) x l in let t = out_map stay (n + n + (n + n)) x k in let e = s.1.1 in let f = t.1.1 in let b = t.1.0 in omega (arith, b, e, f)))
      (λ o. o)
      (or_cases (is_member ◌==◌ (map (λ i. n + n + (n + n + i)) (range_with_len 0 (n + n))) x) (is_member ◌==◌ open_2 x) (sym (is_member-append (map (λ i. n + n + (n + n + i)) (range_with_len 0 (n + n))) open_2 x) ∙ m))

  same_1 : Agree (λ x. true) (label_of (map (renamed (first_names n)) (label_stack n pq r))) (label_of (ps n p q hp hq up up_one ++ (A ++ seams n)))
  same_1 u v a b =
      ap (λ k. label_of k u == label_of k v) first_outer
      ∙ Agree-same_edges (λ x. true) (A ++ (ps n p q hp hq up up_one ++ seams n)) (ps n p q hp hq up up_one ++ (A ++ seams n)) (swap_front A (ps n p q hp hq up up_one) (seams n)) (swap_front (ps n p q hp hq up up_one) A (seams n)) u v a b

  same_2 : Agree (λ x. true) (label_of (map (renamed (second_names n)) (label_stack n p qr))) (label_of (ps n q r hq hr stay (λ u v e. e) ++ (C ++ T)))
  same_2 u v a b = ap (λ k. label_of k u == label_of k v) second_outer

  one_1 : (u v : ℕ) → first_names n u ≡ first_names n v → u ≡ v
  one_1 u v e = grind (arith, nat_tests, e)

  one_2 : (u v : ℕ) → second_names n u ≡ second_names n v → u ≡ v
  one_2 u v e = grind (arith, nat_tests, e)

  at_1 : (i : ℕ) → i < n + n → first_names n (outer n i) ≡ outer_three n i
  at_1 i b = grind (arith, nat_tests)

  at_2 : (i : ℕ) → i < n + n → second_names n (outer n i) ≡ outer_three n i
  at_2 i b = grind (arith, nat_tests)

  first_high : (i : ℕ) → first_names n (n + n + i) ≡ up (outer n i)
  first_high i = let z : n + n + i - (n + n) ≡ i = omega arith in let t : nat_lt (n + n + i) (n + n) ≡ false = grind (arith, nat_tests) in rw (t, z)

  first_low : (x : ℕ) → x < n + n → first_names n x ≡ x
  first_low x b = grind (arith, nat_tests)

  second_low : (x : ℕ) → x < n + n → second_names n x ≡ outer n x
  second_low x b = grind (arith, nat_tests)

  second_high : (i : ℕ) → second_names n (n + n + i) ≡ n + n + (n + n + i)
  second_high i = grind (arith, nat_tests)

  r_outer_1 : (i : ℕ) → i < n + n → is_outer names_1 open_1 (first_names n (outer n i)) ≡ true
  r_outer_1 i b =
      ⊎_elim
      (λ l. let s : first_names n (outer n i) ≡ i = grind (arith, nat_tests, l) in
      ap (is_outer names_1 open_1) s
      ∙ or_right (is_member ◌==◌ open_1 i) (not (is_member ◌==◌ names_1 i))
      (⊎_elim (λ k. absurd (let t = out_map up (n + n + (n + n)) i k in let e = t.1.1 in omega (arith, e))) (λ f. ap not f) (cases_Bool (is_member ◌==◌ names_1 i))))
      (λ h. let s : first_names n (outer n i) ≡ up (outer n i) = grind (arith, nat_tests, h) in
      ap (is_outer names_1 open_1) s ∙ or_left (is_member ◌==◌ open_1 (up (outer n i))) (not (is_member ◌==◌ names_1 (up (outer n i)))) (in_open_1 i b))
      (cases_Bool (nat_lt i n))

  r_outer_2 : (i : ℕ) → i < n + n → is_outer names_2 open_2 (second_names n (outer n i)) ≡ true
  r_outer_2 i b =
      ⊎_elim
      (λ l. let s : second_names n (outer n i) ≡ outer n i = grind (arith, nat_tests, l) in
      ap (is_outer names_2 open_2) s ∙ or_left (is_member ◌==◌ open_2 (outer n i)) (not (is_member ◌==◌ names_2 (outer n i))) (in_open_2 i b))
      (λ h. let s : second_names n (outer n i) ≡ n + n + (n + n + i) = grind (arith, nat_tests, h) in
      ap (is_outer names_2 open_2) s
      ∙ or_right (is_member ◌==◌ open_2 (n + n + (n + n + i))) (not (is_member ◌==◌ names_2 (n + n + (n + n + i))))
      (⊎_elim (λ k. absurd (let t = out_map stay (n + n + (n + n)) (n + n + (n + n + i)) k in let e = t.1.1 in let c = t.1.0 in omega (arith, e, c))) (λ f. ap not f) (cases_Bool (is_member ◌==◌ names_2 (n + n + (n + n + i))))))
      (cases_Bool (nat_lt i n))

  r_in_1 : (x : ℕ) → x < n + n + (n + n) → is_member ◌==◌ (others_1 ++ open_1) (first_names n x) ≡ true
  r_in_1 x b =
      is_member-append others_1 open_1 (first_names n x)
      ∙ ⊎_elim
      (λ l. let lt : x < n + n = grind (arith, nat_tests, l) in
      or_left (is_member ◌==◌ others_1 (first_names n x)) (is_member ◌==◌ open_1 (first_names n x)) (ap (is_member ◌==◌ others_1) (first_low x lt) ∙ low_1 x lt))
      (λ h. let ge : n + n ≤ x = grind (arith, nat_tests, h) in let z : n + n + (x - (n + n)) ≡ x = omega arith in
      or_right (is_member ◌==◌ others_1 (first_names n x)) (is_member ◌==◌ open_1 (first_names n x))
      (ap (λ k. is_member ◌==◌ open_1 (first_names n k)) (sym z) ∙ ap (is_member ◌==◌ open_1) (first_high (x - (n + n))) ∙ in_open_1 (x - (n + n)) (omega arith)))
      (cases_Bool (nat_lt x (n + n)))

  r_in_2 : (x : ℕ) → x < n + n + (n + n) → is_member ◌==◌ (others_2 ++ open_2) (second_names n x) ≡ true
  r_in_2 x b =
      is_member-append others_2 open_2 (second_names n x)
      ∙ or_left (is_member ◌==◌ others_2 (second_names n x)) (is_member ◌==◌ open_2 (second_names n x))
      (⊎_elim
      (λ l. let lt : x < n + n = grind (arith, nat_tests, l) in ap (is_member ◌==◌ others_2) (second_low x lt) ∙ low_2 (outer n x) (in_open_2 x lt))
      (λ h. let ge : n + n ≤ x = grind (arith, nat_tests, h) in let z : n + n + (x - (n + n)) ≡ x = omega arith in
      ap (λ k. is_member ◌==◌ others_2 (second_names n k)) (sym z) ∙ ap (is_member ◌==◌ others_2) (second_high (x - (n + n))) ∙ high_2 (x - (n + n)) (omega arith))
      (cases_Bool (nat_lt x (n + n))))

  onto : (f : ℕ → ℕ) (y x : ℕ) → x < n + n + (n + n) → y ≡ f x → is_member ◌==◌ (map f (range_with_len 0 (n + n + (n + n)))) y ≡ true
  onto f y x b e = ap (is_member ◌==◌ (map f (range_with_len 0 (n + n + (n + n))))) e ∙ in_map f (n + n + (n + n)) x b

  onto_open_1 : (y : ℕ) → is_member ◌==◌ open_1 y ≡ true → is_member ◌==◌ (map (first_names n) (range_with_len 0 (n + n + (n + n)))) y ≡ true
  onto_open_1 y o = let t = out_map (λ k. up (outer n k)) (n + n) y o in let c = t.1.0 in onto (first_names n) y (n + n + t.0) (omega (arith, c)) (t.1.1 ∙ sym (first_high t.0))

  r_onto_1 : (y : ℕ) → is_member ◌==◌ (others_1 ++ open_1) y ≡ true → is_member ◌==◌ (map (first_names n) (range_with_len 0 (n + n + (n + n)))) y ≡ true
  r_onto_1 y m =
      ⊎_elim
      (λ o. ⊎_elim (λ l. let lt = below_range 0 (n + n) y l in onto (first_names n) y y (omega (arith, lt)) (sym (first_low y (omega (arith, lt))))) (onto_open_1 y)
      (or_cases (is_member ◌==◌ (range_with_len 0 (n + n)) y) (is_member ◌==◌ open_1 y) (sym (is_member-append (range_with_len 0 (n + n)) open_1 y) ∙ o)))
      (onto_open_1 y)
      (or_cases (is_member ◌==◌ others_1 y) (is_member ◌==◌ open_1 y) (sym (is_member-append others_1 open_1 y) ∙ m))

  onto_open_2 : (y : ℕ) → is_member ◌==◌ open_2 y ≡ true → is_member ◌==◌ (map (second_names n) (range_with_len 0 (n + n + (n + n)))) y ≡ true
  onto_open_2 y o = let t = out_map (λ k. outer n k) (n + n) y o in let c = t.1.0 in onto (second_names n) y t.0 (omega (arith, c)) (t.1.1 ∙ sym (second_low t.0 c))

  r_onto_2 : (y : ℕ) → is_member ◌==◌ (others_2 ++ open_2) y ≡ true → is_member ◌==◌ (map (second_names n) (range_with_len 0 (n + n + (n + n)))) y ≡ true
  r_onto_2 y m =
      ⊎_elim
      (λ o. ⊎_elim
      (λ l. let t = out_map (λ i. n + n + (n + n + i)) (n + n) y l in let c = t.1.0 in onto (second_names n) y (n + n + t.0) (omega (arith, c)) (t.1.1 ∙ sym (second_high t.0)))
      (onto_open_2 y)
      (or_cases (is_member ◌==◌ (map (λ i. n + n + (n + n + i)) (range_with_len 0 (n + n))) y) (is_member ◌==◌ open_2 y) (sym (is_member-append (map (λ i. n + n + (n + n + i)) (range_with_len 0 (n + n))) open_2 y) ∙ o)))
      (onto_open_2 y)
      (or_cases (is_member ◌==◌ others_2 y) (is_member ◌==◌ open_2 y) (sym (is_member-append others_2 open_2 y) ∙ m))

  abbrev whole_1 : List (ℕ × ℕ)
  whole_1 = es n p q hp hq up up_one ++ (A ++ seams n)

  abbrev whole_2 : List (ℕ × ℕ)
  whole_2 = es n q r hq hr stay (λ u v e. e) ++ (C ++ T)

  whole_same : Agree (λ x. true) (label_of whole_1) (label_of whole_2)
  whole_same u v a b =
      ap (λ k. label_of k u == label_of k v) first_edges
      ∙ Agree-same_edges (λ x. true) ((B ++ (C ++ T)) ++ (A ++ seams n)) ((A ++ (B ++ seams n)) ++ (C ++ T)) (left_order A B C (seams n) T) (right_order A B C (seams n) T) u v a b
      ∙ sym (ap (λ k. label_of k u == label_of k v) second_edges)

  tells_1 : (i j : ℕ) → i < n + n → j < n + n → (label_of (label_stack n pq r) (outer n i) == label_of (label_stack n pq r) (outer n j)) ≡ (label_of whole_1 (first_names n (outer n i)) == label_of whole_1 (first_names n (outer n j)))
  tells_1 = side_tells n p q hp hq up up_one (A ++ seams n) others_1 ends_1 meets_1 (label_stack n pq r) (EndsAre-stack n pq r hpq hr) (first_names n) one_1 same_1 r_outer_1 r_in_1 r_onto_1

  tells_2 : (i j : ℕ) → i < n + n → j < n + n → (label_of (label_stack n p qr) (outer n i) == label_of (label_stack n p qr) (outer n j)) ≡ (label_of whole_2 (second_names n (outer n i)) == label_of whole_2 (second_names n (outer n j)))
  tells_2 = side_tells n q r hq hr stay (λ u v e. e) (C ++ T) others_2 ends_2 meets_2 (label_stack n p qr) (EndsAre-stack n p qr hp hqr) (second_names n) one_2 same_2 r_outer_2 r_in_2 r_onto_2

  both_tell : (i j : ℕ) → i < n + n → j < n + n → (label_of (label_stack n pq r) (outer n i) == label_of (label_stack n pq r) (outer n j)) ≡ (label_of (label_stack n p qr) (outer n i) == label_of (label_stack n p qr) (outer n j))
  both_tell i j bi bj =
      tells_1 i j bi bj
      ∙ ap₂ (λ x y. label_of whole_1 x == label_of whole_1 y) (at_1 i bi ∙ sym (at_2 i bi)) (at_1 j bj ∙ sym (at_2 j bj))
      ∙ whole_same (second_names n (outer n i)) (second_names n (outer n j)) refl refl
      ∙ sym (tells_2 i j bi bj)

  -- THE PRODUCT IS ASSOCIATIVE
  pub product_assoc : label_product n (label_product n p q) r ≡ label_product n p (label_product n q r)
  product_assoc =
      map_range _ _ 0 (n + n)
      (λ i x y. other_alike (λ k. label_of (label_stack n pq r) (outer n k)) (λ k. label_of (label_stack n p qr) (outer n k)) (range_with_len 0 (n + n)) i
      (λ j m. both_tell i j (omega arith) (let b = below_range 0 (n + n) j m in omega (arith, b))))

  in_three : (x : ℕ) → x < n + n + (n + n) + (n + n) → (is_member ◌==◌ names_2 x || is_member ◌==◌ others_2 x) ≡ true
  in_three x b =
      ⊎_elim
      (λ l. or_left (is_member ◌==◌ names_2 x) (is_member ◌==◌ others_2 x) (in_map stay (n + n + (n + n)) x (grind (arith, nat_tests, l))))
      (λ h. let ge : n + n + (n + n) ≤ x = grind (arith, nat_tests, h) in let z : n + n + (n + n + (x - (n + n + (n + n)))) ≡ x = omega arith in
      or_right (is_member ◌==◌ names_2 x) (is_member ◌==◌ others_2 x) (ap (is_member ◌==◌ others_2) (sym z) ∙ high_2 (x - (n + n + (n + n))) (omega arith)))
      (cases_Bool (nat_lt x (n + n + (n + n))))

  in_three_1 : (x : ℕ) → x < n + n + (n + n) + (n + n) → (is_member ◌==◌ names_1 x || is_member ◌==◌ others_1 x) ≡ true
  in_three_1 x b =
      ⊎_elim
      (λ l. or_right (is_member ◌==◌ names_1 x) (is_member ◌==◌ others_1 x) (low_1 x (grind (arith, nat_tests, l))))
      (λ h. let ge : n + n ≤ x = grind (arith, nat_tests, h) in let z : n + n + (x - (n + n)) ≡ x = omega arith in
      or_left (is_member ◌==◌ names_1 x) (is_member ◌==◌ others_1 x) (ap (is_member ◌==◌ names_1) (sym z) ∙ in_map up (n + n + (n + n)) (x - (n + n)) (omega arith)))
      (cases_Bool (nat_lt x (n + n)))

  all_members : (x : ℕ) → is_member ◌==◌ (names_1 ++ others_1) x ≡ true → is_member ◌==◌ (names_2 ++ others_2) x ≡ true
  all_members x m =
      is_member-append names_2 others_2 x
      ∙ ⊎_elim
      (λ k. let t = out_map up (n + n + (n + n)) x k in let e = t.1.1 in let b = t.1.0 in in_three x (omega (arith, e, b)))
      (λ k. ⊎_elim (λ l. let b = below_range 0 (n + n) x l in in_three x (omega (arith, b)))
      (λ o. let t = out_map (λ i. up (outer n i)) (n + n) x o in let e = t.1.1 in let b = t.1.0 in in_three x (let c = outer_below n t.0 b in omega (arith, e, c)))
      (or_cases (is_member ◌==◌ (range_with_len 0 (n + n)) x) (is_member ◌==◌ open_1 x) (sym (is_member-append (range_with_len 0 (n + n)) open_1 x) ∙ k)))
      (or_cases (is_member ◌==◌ names_1 x) (is_member ◌==◌ others_1 x) (sym (is_member-append names_1 others_1 x) ∙ m))

  all_members_back : (x : ℕ) → is_member ◌==◌ (names_2 ++ others_2) x ≡ true → is_member ◌==◌ (names_1 ++ others_1) x ≡ true
  all_members_back x m =
      is_member-append names_1 others_1 x
      ∙ ⊎_elim
      (λ k. let t = out_map stay (n + n + (n + n)) x k in let e = t.1.1 in let b = t.1.0 in in_three_1 x (omega (arith, e, b)))
      (λ k. ⊎_elim (λ l. let t = out_map (λ i. n + n + (n + n + i)) (n + n) x l in let e = t.1.1 in let b = t.1.0 in in_three_1 x (omega (arith, e, b)))
      (λ o. let t = out_map (λ i. outer n i) (n + n) x o in let e = t.1.1 in let b = t.1.0 in in_three_1 x (let c = outer_below n t.0 b in omega (arith, e, c)))
      (or_cases (is_member ◌==◌ (map (λ i. n + n + (n + n + i)) (range_with_len 0 (n + n))) x) (is_member ◌==◌ open_2 x) (sym (is_member-append (map (λ i. n + n + (n + n + i)) (range_with_len 0 (n + n))) open_2 x) ∙ k)))
      (or_cases (is_member ◌==◌ names_2 x) (is_member ◌==◌ others_2 x) (sym (is_member-append names_2 others_2 x) ∙ m))

  count_1 : label_loops n p q + label_loops n pq r ≡ label_parts whole_1 (names_1 ++ others_1) - label_count (label_of whole_1) (map (λ i. first_names n (outer n i)) (range_with_len 0 (n + n)))
  count_1 = side_count n p q hp hq up up_one (A ++ seams n) others_1 ends_1 meets_1 (label_stack n pq r) (EndsAre-stack n pq r hpq hr) (first_names n) one_1 same_1 r_outer_1 r_in_1 r_onto_1

  count_2 : label_loops n q r + label_loops n p qr ≡ label_parts whole_2 (names_2 ++ others_2) - label_count (label_of whole_2) (map (λ i. second_names n (outer n i)) (range_with_len 0 (n + n)))
  count_2 = side_count n q r hq hr stay (λ u v e. e) (C ++ T) others_2 ends_2 meets_2 (label_stack n p qr) (EndsAre-stack n p qr hp hqr) (second_names n) one_2 same_2 r_outer_2 r_in_2 r_onto_2

  -- AND SO ARE ITS LOOPS
  pub loops_assoc : label_loops n p q + label_loops n (label_product n p q) r ≡ label_loops n q r + label_loops n p (label_product n q r)
  loops_assoc =
      count_1
      ∙ ap₂ (λ x y. x - y)
      (label_count-agree (λ x. true) (label_of whole_1) (label_of whole_2) (names_1 ++ others_1) whole_same (to_All (λ x. true) (names_1 ++ others_1) (λ x m. refl))
      ∙ label_count-members (label_of whole_2) (names_1 ++ others_1) (names_2 ++ others_2) all_members all_members_back)
      (ap (label_count (label_of whole_1)) (map_range _ _ 0 (n + n) (λ i x y. at_1 i (omega arith) ∙ sym (at_2 i (omega arith))))
      ∙ label_count-agree (λ x. true) (label_of whole_1) (label_of whole_2) (map (λ i. second_names n (outer n i)) (range_with_len 0 (n + n))) whole_same (to_All (λ x. true) (map (λ i. second_names n (outer n i)) (range_with_len 0 (n + n))) (λ x m. refl)))
      ∙ sym count_2
