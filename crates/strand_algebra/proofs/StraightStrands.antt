-- A product is the pairing whose points the stack joins, so it is enough to show one pairing joined; and straight strands
-- change nothing on either side and close no loop.
use Rattle.std.proofs.Common.{◌≡◌, ℕ, ◌+◌, ◌-◌, ◌<◌, ◌≤◌, ◌≢◌, true, nat_lt, ◌||◌, ◌==◌, List, ◌++◌, map, length, slice_index, refl, sym, ap, ◌∙◌, arith, ⊎_elim}
use Rattle.std.proofs.lemmas.List.Elements.{All-map, Contains-append_left, Contains-append_right}
use Rattle.std.proofs.lemmas.Bool.{cases_Bool, eq-eqb}
use Rattle.std.proofs.lemmas.Bool.Decides.{nat_tests}
use Rattle.std.proofs.lemmas.List.FromFn.{length-map-range_with_len, get_or-map-range_with_len, fill_by_all}
use Rattle.std.specs.List.{range_with_len}
use Rattle.std.specs.Set.{is_member}
use Rattle.list_lemmas.proofs.Ranges.{is_member-range}
use Rattle.graph_parts.proofs.Agreement.{to_All}
use Rattle.graph_parts.proofs.Counting.{is_member-map}
use Rattle.graph_parts.proofs.Distinct.{distinct_count-le_from_within}
use Rattle.graph_parts.proofs.Walks.{labels-from_Joined}
use Rattle.graph_parts.specs.Labels.{label_of}
use Rattle.graph_parts.specs.Walks.{along}
use Rattle.strand_algebra.proofs.Contractions.{below_range}
use Rattle.strand_algebra.proofs.LabelProducts.{pairs, label_stack, outer, label_product, label_loops, IsPairingOf}
use Rattle.strand_algebra.proofs.Stacks.{is_below, Contains-range, Contains-pairs, Matches-product, IsPairingOf-product}
use Rattle.strand_algebra.specs.StrandPairings.{seams, straight}

pub same_list : (size : ℕ) (p q : List ℕ) → length p ≡ size → length q ≡ size → ((i : ℕ) → i < size → slice_index p i ≡ slice_index q i) → p ≡ q
same_list size p q a b h = fill_by_all (slice_index q) p size 0 a h ∙ sym (fill_by_all (slice_index q) q size 0 b (λ k x. refl))

chosen : (i s w : ℕ) → (i == s || w == s) ≡ true → s ≢ i → w ≡ s
chosen i s w h d = grind (arith, nat_tests, h, d)

module _ (n : ℕ) (p q : List ℕ) (hp : IsPairingOf (n + n) p) (hq : IsPairingOf (n + n) q) where
  abbrev pub L : ℕ → ℕ
  L = label_of (label_stack n p q)

  -- A PAIRING WHOSE POINTS THE STACK JOINS IS THE PRODUCT
  pub product_is : (s : List ℕ) → IsPairingOf (n + n) s → ((i : ℕ) → i < n + n → L (outer n i) ≡ L (outer n (slice_index s i))) → label_product n p q ≡ s
  product_is s hs h =
      let own = IsPairingOf-product n p q hp hq in
      let tells = Matches-product n p q hp hq in
      same_list (n + n) (label_product n p q) s own.length_is hs.length_is
      (λ i b. chosen i (slice_index s i) (slice_index (label_product n p q) i)
      (sym (tells.tells i (slice_index s i) (is_below (n + n) i b) (is_below (n + n) _ (hs.stays i b))) ∙ eq-eqb _ _ (h i b)) (hs.moves i b))

  -- no loop where each name is joined with an outer one
  pub loops_none : ((x : ℕ) → x < n + n + (n + n) → (i : ℕ) × ((i < n + n) × (L x ≡ L (outer n i)))) → label_loops n p q ≡ 0
  loops_none h =
      let all = range_with_len 0 (n + n + (n + n)) in
      let outers = map (outer n) (range_with_len 0 (n + n)) in
      let le = distinct_count-le_from_within (map L all) (map L outers)
      (All-map (λ z. is_member ◌==◌ (map L outers) z ≡ true) L all (to_All (λ x. is_member ◌==◌ (map L outers) (L x)) all
      (λ x m. let b = below_range 0 (n + n + (n + n)) x m in let t = h x (omega (arith, b)) in
      ap (is_member ◌==◌ (map L outers)) t.1.1 ∙ is_member-map L outers (outer n t.0) (is_member-map (outer n) (range_with_len 0 (n + n)) t.0 (is_member-range 0 (n + n) t.0 (omega arith) (let c = t.1.0 in omega (arith, c))))))) in
      omega (arith, le)

  -- the edges of the stack
  pub low_edge : (i : ℕ) → i < n + n → L i ≡ L (slice_index q i)
  low_edge i b =
      labels-from_Joined (label_stack n p q)
      (along (Contains-append_left (pairs 0 q) (pairs (n + n) p ++ seams n) (i, slice_index q i)
      (Contains-pairs 0 q i (slice_index q i) (omega arith) (let s = hq.length_is in omega (arith, s)) (let z : i - 0 ≡ i = omega arith in rw z (omega arith)))))

  pub high_edge : (i : ℕ) → i < n + n → L (n + n + i) ≡ L (n + n + slice_index p i)
  high_edge i b =
      labels-from_Joined (label_stack n p q)
      (along (Contains-append_right (pairs 0 q) (pairs (n + n) p ++ seams n) (n + n + i, n + n + slice_index p i)
      (Contains-append_left (pairs (n + n) p) (seams n) (n + n + i, n + n + slice_index p i)
      (Contains-pairs (n + n) p (n + n + i) (n + n + slice_index p i) (omega arith) (let s = hp.length_is in omega (arith, s)) (let z : n + n + i - (n + n) ≡ i = omega arith in rw z)))))

  pub seam_edge : (i : ℕ) → i < n → L (n + n + i) ≡ L (n + n - 1 - i)
  seam_edge i b =
      labels-from_Joined (label_stack n p q)
      (along (Contains-append_right (pairs 0 q) (pairs (n + n) p ++ seams n) (n + n + i, n + n - 1 - i)
      (Contains-append_right (pairs (n + n) p) (seams n) (n + n + i, n + n - 1 - i) (Contains-range (λ k. (n + n + k, n + n - 1 - k)) 0 n i (omega arith) (omega arith)))))

pub straight_at : (n i : ℕ) → i < n + n → slice_index (straight n) i ≡ n + n - 1 - i
straight_at n i b = get_or-map-range_with_len (λ k. n + n - 1 - k) 0 (n + n) i i 0 b (omega arith)

pub IsPairingOf-straight : (n : ℕ) → IsPairingOf (n + n) (straight n)
IsPairingOf-straight n = record {
  length_is = length-map-range_with_len (λ k. n + n - 1 - k) 0 (n + n);
  stays = λ i b. let e = straight_at n i b in omega (arith, e);
  turns = λ i b. ap (slice_index (straight n)) (straight_at n i b) ∙ straight_at n (n + n - 1 - i) (omega arith) ∙ omega arith;
  moves = λ i b e. let f = straight_at n i b in omega (arith, e, f);
}

module _ (n : ℕ) (q : List ℕ) (hq : IsPairingOf (n + n) q) where
  abbrev hs : IsPairingOf (n + n) (straight n)
  hs = IsPairingOf-straight n

  -- the straight pairing above: the name i of q is joined with the outer point i
  above : (i : ℕ) → i < n + n → label_of (label_stack n (straight n) q) i ≡ label_of (label_stack n (straight n) q) (outer n i)
  above i b =
      let K = L n (straight n) q hs hq in
      ⊎_elim
      (λ l. let s : outer n i ≡ i = grind (arith, nat_tests, l) in ap K (sym s))
      (λ h. let ge : n ≤ i = grind (arith, nat_tests, h) in
      let s : outer n i ≡ n + n + i = grind (arith, nat_tests, h) in
      let j : n + n - 1 - (n + n - 1 - i) ≡ i = omega arith in
      let e : K (n + n + (n + n - 1 - i)) ≡ K (n + n - 1 - (n + n - 1 - i)) = seam_edge n (straight n) q hs hq (n + n - 1 - i) (omega arith) in
      let f : K (n + n + i) ≡ K (n + n + slice_index (straight n) i) = high_edge n (straight n) q hs hq i b in
      sym (ap K s ∙ f ∙ ap (λ k. K (n + n + k)) (straight_at n i b) ∙ e ∙ ap K j))
      (cases_Bool (nat_lt i n))

  pub straight_product : label_product n (straight n) q ≡ q
  straight_product =
      product_is n (straight n) q hs hq q hq
      (λ i b. sym (above i b) ∙ low_edge n (straight n) q hs hq i b ∙ above (slice_index q i) (hq.stays i b))

  pub straight_loops : label_loops n (straight n) q ≡ 0
  straight_loops =
      loops_none n (straight n) q hs hq
      (λ x b. ⊎_elim
      (λ l. let lt : x < n + n = grind (arith, nat_tests, l) in (x, (lt, above x lt)))
      (λ h. let ge : n + n ≤ x = grind (arith, nat_tests, h) in
      ⊎_elim
      (λ k. let z : n + n + (x - (n + n)) ≡ x = omega arith in
      let lt : x - (n + n) < n = grind (arith, nat_tests, k) in
      (n + n - 1 - (x - (n + n)), (omega arith, ap (label_of (label_stack n (straight n) q)) (sym z) ∙ seam_edge n (straight n) q hs hq (x - (n + n)) lt ∙ above (n + n - 1 - (x - (n + n))) (omega arith))))
      (λ k. let s : outer n (x - (n + n)) ≡ x = grind (arith, nat_tests, k) in (x - (n + n), (omega arith, ap (label_of (label_stack n (straight n) q)) (sym s))))
      (cases_Bool (nat_lt (x - (n + n)) n)))
      (cases_Bool (nat_lt x (n + n))))

  -- and below
  below : (i : ℕ) → i < n + n → label_of (label_stack n q (straight n)) (n + n + i) ≡ label_of (label_stack n q (straight n)) (outer n i)
  below i b =
      let K = L n q (straight n) hq hs in
      ⊎_elim
      (λ l. let lt : i < n = grind (arith, nat_tests, l) in
      let s : outer n i ≡ i = grind (arith, nat_tests, l) in
      let e : K (n + n + i) ≡ K (n + n - 1 - i) = seam_edge n q (straight n) hq hs i lt in
      let f : K i ≡ K (slice_index (straight n) i) = low_edge n q (straight n) hq hs i b in
      e ∙ sym (f ∙ ap K (straight_at n i b)) ∙ ap K (sym s))
      (λ h. let s : outer n i ≡ n + n + i = grind (arith, nat_tests, h) in ap K (sym s))
      (cases_Bool (nat_lt i n))

  pub product_straight : label_product n q (straight n) ≡ q
  product_straight =
      product_is n q (straight n) hq hs q hq
      (λ i b. sym (below i b) ∙ high_edge n q (straight n) hq hs i b ∙ below (slice_index q i) (hq.stays i b))

  pub loops_straight : label_loops n q (straight n) ≡ 0
  loops_straight =
      loops_none n q (straight n) hq hs
      (λ x b. ⊎_elim
      (λ l. let lt : x < n + n = grind (arith, nat_tests, l) in
      ⊎_elim
      (λ k. let s : outer n x ≡ x = grind (arith, nat_tests, k) in (x, (lt, ap (label_of (label_stack n q (straight n))) (sym s))))
      (λ k. let ge : n ≤ x = grind (arith, nat_tests, k) in
      let z : n + n - 1 - (n + n - 1 - x) ≡ x = omega arith in
      (n + n - 1 - x, (omega arith, sym (seam_edge n q (straight n) hq hs (n + n - 1 - x) (omega arith) ∙ ap (label_of (label_stack n q (straight n))) z) ∙ below (n + n - 1 - x) (omega arith))))
      (cases_Bool (nat_lt x n)))
      (λ h. let ge : n + n ≤ x = grind (arith, nat_tests, h) in
      let z : n + n + (x - (n + n)) ≡ x = omega arith in
      (x - (n + n), (omega arith, ap (label_of (label_stack n q (straight n))) (sym z) ∙ below (x - (n + n)) (omega arith))))
      (cases_Bool (nat_lt x (n + n))))
