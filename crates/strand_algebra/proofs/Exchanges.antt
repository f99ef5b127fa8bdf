-- Points exchanged between bottom and top: products turn about, and loops stay. Top for bottom is one such exchange, half a
-- turn another.
use Rattle.std.proofs.Common.{◌≡◌, ℕ, ◌+◌, ◌-◌, ◌<◌, ◌≤◌, true, false, cond, nat_lt, ◌==◌, if◌then◌else◌, List, ◌++◌, map, slice_index, refl, sym, ap, ap₂, ◌∙◌, arith, All, ⊎_elim}
use Rattle.std.proofs.lemmas.List.Elements.{All-append, All-map}
use Rattle.std.proofs.lemmas.Bool.{cases_Bool, eqb-true, eq-eqb, or_right}
use Rattle.std.proofs.lemmas.Bool.Decides.{nat_tests}
use Rattle.std.proofs.lemmas.List.FromFn.{length-map-range_with_len, get_or-map-range_with_len}
use Rattle.std.specs.List.{range_with_len}
use Rattle.std.specs.Set.{is_member, distinct_count}
use Rattle.graph_parts.proofs.Through.{keeps_Joined}
use Rattle.list_lemmas.proofs.Ranges.{All-range, is_member-range}
use Rattle.graph_parts.proofs.Agreement.{eqb_from_iff, to_All, label_count-agree}
use Rattle.graph_parts.proofs.Counting.{is_member-map}
use Rattle.graph_parts.proofs.Renaming.{map_map}
use Rattle.graph_parts.proofs.Walks.{Joined-from_labels}
use Rattle.graph_parts.specs.Labels.{label_of, label_count}
use Rattle.strand_algebra.proofs.Contractions.{below_range, in_map, out_map, member_map, label_count-members}
use Rattle.strand_algebra.proofs.LabelProducts.{pairs, label_stack, outer, label_product, label_loops, IsPairingOf}
use Rattle.strand_algebra.proofs.Stacks.{not_below, outer_below, below_is, is_below, All-pairs, Matches-product, IsPairingOf-product}
use Rattle.strand_algebra.proofs.StraightStrands.{same_list, product_is, low_edge, high_edge, seam_edge}
use Rattle.strand_algebra.specs.StrandPairings.{seams, exchanged}

-- An exchange of the points with themselves, of bottom with top, that keeps strands.
pub record IsExchange (n : ℕ) (t : ℕ → ℕ) : Type 0 where
  pub below : (i : ℕ) → i < n + n → t i < n + n
  pub twice : (i : ℕ) → i < n + n → t (t i) ≡ i
  pub up : (i : ℕ) → i < n → n ≤ t i
  pub down : (i : ℕ) → n ≤ i → i < n + n → t i < n
  pub across : (i : ℕ) → i < n → t (n + n - 1 - i) ≡ n + n - 1 - t i

-- top for bottom
pub mirror_exchange : (n : ℕ) → IsExchange n (λ i. n + n - 1 - i)
mirror_exchange n = record { below = λ i b. omega arith; twice = λ i b. omega arith; up = λ i b. omega arith; down = λ i a b. omega arith; across = λ i b. omega arith }

-- half a turn
pub half_exchange : (n : ℕ) → IsExchange n (λ i. if nat_lt i n then i + n else i - n)
half_exchange n = record {
  below = λ i b. grind (arith, nat_tests);
  twice = λ i b. grind (arith, nat_tests);
  up = λ i b. grind (arith, nat_tests);
  down = λ i a b. grind (arith, nat_tests);
  across = λ i b. grind (arith, nat_tests);
}

not_is_below : (k x : ℕ) → k ≤ x → nat_lt x k ≡ false
not_is_below k x h = grind (arith, nat_tests)

outer_low : (n i : ℕ) → nat_lt i n ≡ true → outer n i ≡ i
outer_low n i h = grind (arith, nat_tests, h)

outer_high : (n i : ℕ) → nat_lt i n ≡ false → outer n i ≡ n + n + i
outer_high n i h = grind (arith, nat_tests, h)

module _ (n : ℕ) (t : ℕ → ℕ) (h : IsExchange n t) where
  pub turned_at : (p : List ℕ) (i : ℕ) → i < n + n → slice_index (exchanged n t p) i ≡ t (slice_index p (t i))
  turned_at p i b = get_or-map-range_with_len (λ k. t (slice_index p (t k))) 0 (n + n) i i 0 b (omega arith)

  turned_to : (p : List ℕ) (i : ℕ) → i < n + n → slice_index (exchanged n t p) (t i) ≡ t (slice_index p i)
  turned_to p i b = turned_at p (t i) (h.below i b) ∙ ap (λ k. t (slice_index p k)) (h.twice i b)

  pub IsPairingOf-turned : (p : List ℕ) → IsPairingOf (n + n) p → IsPairingOf (n + n) (exchanged n t p)
  IsPairingOf-turned p hp = record {
    length_is = length-map-range_with_len (λ k. t (slice_index p (t k))) 0 (n + n);
    stays = λ i b. let e = turned_at p i b in let f = h.below (slice_index p (t i)) (hp.stays (t i) (h.below i b)) in omega (arith, e, f);
    turns = λ i b. ap (slice_index (exchanged n t p)) (turned_at p i b) ∙ turned_to p (slice_index p (t i)) (hp.stays (t i) (h.below i b)) ∙ ap t (hp.turns (t i) (h.below i b)) ∙ h.twice i b;
    moves = λ i b e. hp.moves (t i) (h.below i b) (sym (h.twice (slice_index p (t i)) (hp.stays (t i) (h.below i b))) ∙ ap t (sym (turned_at p i b) ∙ e));
  }

  pub turned_twice : (p : List ℕ) → IsPairingOf (n + n) p → exchanged n t (exchanged n t p) ≡ p
  turned_twice p hp =
      same_list (n + n) (exchanged n t (exchanged n t p)) p (length-map-range_with_len (λ k. t (slice_index (exchanged n t p) (t k))) 0 (n + n)) hp.length_is
      (λ i b. turned_at (exchanged n t p) i b ∙ ap t (turned_to p i b) ∙ h.twice (slice_index p i) (hp.stays i b))

  abbrev name : ℕ → ℕ
  name x = if nat_lt x (n + n) then n + n + t x else t (x - (n + n))

  name_low : (x : ℕ) → x < n + n → name x ≡ n + n + t x
  name_low x b = ap (λ c. cond c (n + n + t x) (t (x - (n + n)))) (is_below (n + n) x b)

  name_high : (i : ℕ) → name (n + n + i) ≡ t i
  name_high i = let z : n + n + i - (n + n) ≡ i = omega arith in let s : nat_lt (n + n + i) (n + n) ≡ false = grind (arith, nat_tests) in ap₂ (λ c k. cond c (n + n + t (n + n + i)) (t k)) s z

  name_twice : (x : ℕ) → x < n + n + (n + n) → name (name x) ≡ x
  name_twice x b =
      ⊎_elim
      (λ c. let lt = below_is (n + n) x c in ap name (name_low x lt) ∙ name_high (t x) ∙ h.twice x lt)
      (λ c. let ge = not_below (n + n) x c in let z : n + n + (x - (n + n)) ≡ x = omega (arith, ge) in
      ap (λ k. name (name k)) (sym z) ∙ ap name (name_high (x - (n + n))) ∙ name_low (t (x - (n + n))) (h.below (x - (n + n)) (omega (arith, ge, b))) ∙ ap (λ k. n + n + k) (h.twice (x - (n + n)) (omega (arith, ge, b))) ∙ z)
      (cases_Bool (nat_lt x (n + n)))

  name_below : (x : ℕ) → x < n + n + (n + n) → name x < n + n + (n + n)
  name_below x b =
      ⊎_elim
      (λ c. let lt = below_is (n + n) x c in let e = name_low x lt in let f = h.below x lt in omega (arith, e, f))
      (λ c. let ge = not_below (n + n) x c in let z : n + n + (x - (n + n)) ≡ x = omega (arith, ge) in
      let e = ap name (sym z) ∙ name_high (x - (n + n)) in let f = h.below (x - (n + n)) (omega (arith, ge, b)) in omega (arith, e, f))
      (cases_Bool (nat_lt x (n + n)))

  name_outer : (i : ℕ) → i < n + n → name (outer n i) ≡ outer n (t i)
  name_outer i b =
      ⊎_elim
      (λ c. let lt = below_is n i c in let u = h.up i lt in ap name (outer_low n i c) ∙ name_low i b ∙ sym (outer_high n (t i) (not_is_below n (t i) u)))
      (λ c. let ge = not_below n i c in ap name (outer_high n i c) ∙ name_high i ∙ sym (outer_low n (t i) (is_below n (t i) (h.down i ge b))))
      (cases_Bool (nat_lt i n))

  module _ (p q : List ℕ) (hp : IsPairingOf (n + n) p) (hq : IsPairingOf (n + n) q) where
    abbrev K : ℕ → ℕ
    K = label_of (label_stack n (exchanged n t q) (exchanged n t p))

    kept : All (λ e. K (name e.0) ≡ K (name e.1)) (label_stack n p q)
    kept =
        let hP = IsPairingOf-turned p hp in let hQ = IsPairingOf-turned q hq in
        let P = exchanged n t p in let Q = exchanged n t q in
        All-append (λ e. K (name e.0) ≡ K (name e.1)) (pairs 0 q) (pairs (n + n) p ++ seams n)
        (All-pairs (λ e. K (name e.0) ≡ K (name e.1)) 0 q (λ i a.
        let b : i < n + n = let s = hq.length_is in omega (arith, s) in
        let y : 0 + i ≡ i = omega arith in let z : 0 + slice_index q i ≡ slice_index q i = omega arith in
        ap K (ap name y ∙ name_low i b) ∙ high_edge n Q P hQ hP (t i) (h.below i b) ∙ ap (λ k. K (n + n + k)) (turned_to q i b) ∙ sym (ap K (ap name z ∙ name_low (slice_index q i) (hq.stays i b)))))
        (All-append (λ e. K (name e.0) ≡ K (name e.1)) (pairs (n + n) p) (seams n)
        (All-pairs (λ e. K (name e.0) ≡ K (name e.1)) (n + n) p (λ i a.
        let b : i < n + n = let s = hp.length_is in omega (arith, s) in
        ap K (name_high i) ∙ low_edge n Q P hQ hP (t i) (h.below i b) ∙ ap K (turned_to p i b) ∙ sym (ap K (name_high (slice_index p i)))))
        (All-map (λ e. K (name e.0) ≡ K (name e.1)) (λ i. (n + n + i, n + n - 1 - i)) (range_with_len 0 n) (All-range (λ i. K (name (n + n + i)) ≡ K (name (n + n - 1 - i))) 0 n (λ i x y.
        let j = t (n + n - 1 - i) in
        let c = h.across i (omega arith) in
        let low : j < n = h.down (n + n - 1 - i) (omega arith) (omega arith) in
        let s : n + n - 1 - j ≡ t i = let f = h.below i (omega arith) in omega (arith, c, f) in
        ap K (name_high i) ∙ sym (seam_edge n Q P hQ hP j low ∙ ap K s) ∙ sym (ap K (name_low (n + n - 1 - i) (omega arith)))))))

    joined : (x y : ℕ) → label_of (label_stack n p q) x ≡ label_of (label_stack n p q) y → K (name x) ≡ K (name y)
    joined x y e = keeps_Joined (λ k. K (name k)) (label_stack n p q) kept (Joined-from_labels (label_stack n p q) x y e)

    -- PRODUCTS TURN ABOUT
    pub product_turned : label_product n (exchanged n t q) (exchanged n t p) ≡ exchanged n t (label_product n p q)
    product_turned =
        let own = IsPairingOf-product n p q hp hq in
        let tells = Matches-product n p q hp hq in
        product_is n (exchanged n t q) (exchanged n t p) (IsPairingOf-turned q hq) (IsPairingOf-turned p hp) (exchanged n t (label_product n p q)) (IsPairingOf-turned (label_product n p q) own)
        (λ j b.
        let i = t j in let bi = h.below j b in
        let c = own.stays i bi in
        let same : label_of (label_stack n p q) (outer n i) ≡ label_of (label_stack n p q) (outer n (slice_index (label_product n p q) i)) =
        eqb-true _ _ (tells.tells i (slice_index (label_product n p q) i) (is_below (n + n) i bi) (is_below (n + n) _ c) ∙ or_right (i == slice_index (label_product n p q) i) _ (eq-eqb _ _ refl)) in
        sym (ap K (name_outer i bi ∙ ap (outer n) (h.twice j b))) ∙ joined (outer n i) (outer n (slice_index (label_product n p q) i)) same ∙ ap K (name_outer (slice_index (label_product n p q) i) c)
        ∙ sym (ap (λ k. K (outer n k)) (turned_at (label_product n p q) j b)))

  module _ (p q : List ℕ) (hp : IsPairingOf (n + n) p) (hq : IsPairingOf (n + n) q) where
    told : (x y : ℕ) → x < n + n + (n + n) → y < n + n + (n + n) → (K p q hp hq (name x) == K p q hp hq (name y)) ≡ (label_of (label_stack n p q) x == label_of (label_stack n p q) y)
    told x y a b =
        let L = label_of (label_stack n p q) in
        let same : label_of (label_stack n (exchanged n t (exchanged n t p)) (exchanged n t (exchanged n t q))) ≡ L = ap₂ (λ r s. label_of (label_stack n r s)) (turned_twice p hp) (turned_twice q hq) in
        eqb_from_iff (K p q hp hq (name x)) (K p q hp hq (name y)) (L x) (L y)
        (λ e. sym (ap₂ (λ l k. l k) same (name_twice x a)) ∙ joined (exchanged n t q) (exchanged n t p) (IsPairingOf-turned q hq) (IsPairingOf-turned p hp) (name x) (name y) e ∙ ap₂ (λ l k. l k) same (name_twice y b))
        (joined p q hp hq x y)

    count : (xs : List ℕ) → ((x : ℕ) → is_member ◌==◌ xs x ≡ true → x < n + n + (n + n)) → label_count (K p q hp hq) (map name xs) ≡ label_count (label_of (label_stack n p q)) xs
    count xs b =
        ap (distinct_count ◌==◌) (map_map (K p q hp hq) name xs)
        ∙ label_count-agree (λ x. nat_lt x (n + n + (n + n))) (λ x. K p q hp hq (name x)) (label_of (label_stack n p q)) xs (λ u v a c. told u v (below_is (n + n + (n + n)) u a) (below_is (n + n + (n + n)) v c)) (to_All (λ x. nat_lt x (n + n + (n + n))) xs (λ x m. is_below (n + n + (n + n)) x (b x m)))

    -- AND LOOPS STAY
    pub loops_turned : label_loops n (exchanged n t q) (exchanged n t p) ≡ label_loops n p q
    loops_turned =
        let all = range_with_len 0 (n + n + (n + n)) in
        let outers = map (outer n) (range_with_len 0 (n + n)) in
        ap₂ (λ a b. a - b)
        (label_count-members (K p q hp hq) all (map name all)
        (λ x m. let c = below_range 0 (n + n + (n + n)) x m in let b : x < n + n + (n + n) = omega (arith, c) in ap (is_member ◌==◌ (map name all)) (sym (name_twice x b)) ∙ in_map name (n + n + (n + n)) (name x) (name_below x b))
        (λ x m. let s = out_map name (n + n + (n + n)) x m in let b = name_below s.0 s.1.0 in let e = s.1.1 in is_member-range 0 (n + n + (n + n)) x (omega arith) (omega (arith, b, e)))
        ∙ count all (λ x m. let c = below_range 0 (n + n + (n + n)) x m in omega (arith, c)))
        (label_count-members (K p q hp hq) outers (map name outers)
        (λ x m. let s = out_map (outer n) (n + n) x m in
        ap (is_member ◌==◌ (map name outers)) (s.1.1 ∙ ap (outer n) (sym (h.twice s.0 s.1.0)) ∙ sym (name_outer (t s.0) (h.below s.0 s.1.0))) ∙ is_member-map name outers (outer n (t s.0)) (in_map (outer n) (n + n) (t s.0) (h.below s.0 s.1.0)))
        (λ x m. let u = member_map name outers x m in let s = out_map (outer n) (n + n) u.0 u.1.0 in
        ap (is_member ◌==◌ outers) (u.1.1 ∙ ap name s.1.1 ∙ name_outer s.0 s.1.0) ∙ in_map (outer n) (n + n) (t s.0) (h.below s.0 s.1.0))
        ∙ count outers (λ x m. let s = out_map (outer n) (n + n) x m in let b = outer_below n s.0 s.1.0 in let e = s.1.1 in omega (arith, b, e)))
