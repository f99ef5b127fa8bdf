-- A product is a gluing: what the stack joins, its names joined when the ends of each seam are made one name. Labels of the
-- stack are labels of the gluing at the new names, and the other way round.
--
--     glued_name n x      the name in the gluing of a point of the stack
--
use Rattle.std.proofs.Common.{◌≡◌, ℕ, ◌+◌, ◌-◌, ◌<◌, ◌≤◌, true, false, ◌==◌, nat_lt, if◌then◌else◌, List, [], ◌++◌, map, length, length-append, slice_index, zip, refl, sym, ap, ap₂, ◌∙◌, arith, subst, All, ⊎_elim}
use Rattle.std.specs.List.{range_with_len, AllPass}
use Rattle.std.specs.Set.{is_member, distinct_count}
use Rattle.std.proofs.lemmas.Bool.{cases_Bool, eqb-true, eq-eqb, or_right}
use Rattle.std.proofs.lemmas.Bool.Decides.{nat_tests}
use Rattle.std.proofs.lemmas.List.{get_or_append_left, get_or-append_right, get_or-map, length-map}
use Rattle.std.proofs.lemmas.List.Elements.{All-append, All-map, Contains-append_left, Contains-append_right}
use Rattle.std.proofs.lemmas.List.FromFn.{fill_by_all, length-map-range_with_len, get_or-map-range_with_len, length-range_with_len, get_or-range_with_len}
use Rattle.std.proofs.lemmas.Slice.Zip.{get_or-zip, length-zip}
use Rattle.graph_parts.proofs.Through.{keeps_Joined}
use Rattle.list_lemmas.proofs.Ranges.{All-range, is_member-range}
use Rattle.graph_parts.specs.Ends.{AreAmong}
use Rattle.graph_parts.specs.Labels.{label_of, label_count}
use Rattle.graph_parts.specs.Parts.{part_count}
use Rattle.graph_parts.specs.Patterns.{closed_parts}
use Rattle.graph_parts.specs.Walks.{along}
use Rattle.graph_parts.proofs.Agreement.{to_All, eqb_from_iff, label_count-agree}
use Rattle.graph_parts.proofs.Distinct.{is_member-append}
use Rattle.graph_parts.proofs.Ends.{EndsAre-append}
use Rattle.graph_parts.proofs.LeastNames.{part_count-labels}
use Rattle.graph_parts.proofs.PartLaws.{label_count-same_names}
use Rattle.graph_parts.proofs.PatternLabels.{closed_parts-labels}
use Rattle.graph_parts.proofs.Renaming.{map_map}
use Rattle.graph_parts.proofs.Walks.{Joined-from_labels, labels-from_Joined}
use Rattle.arc_gluing.specs.Mates.{IsPairedLabels}
use Rattle.arc_gluing.specs.Pairings.{pair_edges, partners_of}
use Rattle.arc_gluing.proofs.ByParts.{partners_of-labels}
use Rattle.arc_gluing.proofs.Places.{AreOnce, label_partners-is}
use Rattle.strand_algebra.specs.GluedProducts.{above_name, below_names, above_names, left_names, glued_pairs, ProductByGluing, ClosureByGluing}
use Rattle.strand_algebra.specs.StrandPairings.{seams, stack_names, straight, product, product_loops, closure_loops}
use Rattle.strand_algebra.proofs.ByLabels.{chosen, IsPairingOf-from_points, IsPairingOn-from_points, pair_edges-pairs, product-labels, product_loops-labels, closure_loops-labels}
use Rattle.strand_algebra.proofs.Contractions.{named, EndsAre-named, below_range, out_map, in_map}
use Rattle.strand_algebra.proofs.LabelProducts.{closed_edges, IsPairingOf, pairs, label_stack, outer, label_product}
use Rattle.strand_algebra.proofs.Stacks.{outer_below, is_below, Contains-pairs, Contains-range, Matches-product, IsPairingOf-product}
use Rattle.strand_algebra.proofs.StraightStrands.{low_edge, high_edge, seam_edge, IsPairingOf-straight, straight_at}
use Rattle.strand_algebra.proofs.WiderClosures.{pair_edge, closing_edge}

-- the name in the gluing of a point of the stack
abbrev pub glued_name : ℕ → ℕ → ℕ
glued_name n x = if nat_lt x (n + n) then x else above_name n (x - (n + n))

-- a point of the stack with that name
abbrev pub stacked_name : ℕ → ℕ → ℕ
stacked_name n y = if nat_lt y (n + n) then y else y + n

glued_low : (n x : ℕ) → x < n + n → glued_name n x ≡ x
glued_low n x b = grind (arith, nat_tests)

glued_high : (n i : ℕ) → glued_name n (n + n + i) ≡ above_name n i
glued_high n i = let z : n + n + i - (n + n) ≡ i = omega arith in let t : nat_lt (n + n + i) (n + n) ≡ false = grind (arith, nat_tests) in rw (t, z)

glued_seam : (n i : ℕ) → i < n → above_name n i ≡ n + n - 1 - i
glued_seam n i b = grind (arith, nat_tests)

above_top : (n i : ℕ) → n ≤ i → above_name n i ≡ n + i
above_top n i b = grind (arith, nat_tests)

stacked_low : (n y : ℕ) → y < n + n → stacked_name n y ≡ y
stacked_low n y b = grind (arith, nat_tests)

stacked_top : (n i : ℕ) → n ≤ i → stacked_name n (n + i) ≡ n + n + i
stacked_top n i b = grind (arith, nat_tests)

-- ---- the pairs by names
pub pair_edges-named : (name : ℕ → ℕ) (size : ℕ) (p : List ℕ) → IsPairingOf size p → pair_edges (map name (range_with_len 0 size)) p ≡ named name p
pair_edges-named name size p h =
    let names = map name (range_with_len 0 size) in
    let partners = map (λ place. slice_index names place) p in
    let s = h.length_is in
    let l = length-map-range_with_len name 0 size in
    let k = length-map p (λ place. slice_index names place) in
    fill_by_all (λ i. (name i, name (slice_index p i))) (zip names partners) (length p) (0, 0) (length-zip names partners ∙ omega (arith, l, k, s))
    (λ i b. let c : i < size = omega (arith, s, b) in
    get_or-zip names partners i (0, 0) (omega (arith, l, c)) (omega (arith, k, b))
    ∙ (λ t. (
      get_or-map-range_with_len name 0 size i i 0 c (omega arith) t,
      (get_or-map (λ place. slice_index names place) p i 0 0 b ∙ get_or-map-range_with_len name 0 size (slice_index p i) (slice_index p i) 0 (h.stays i c) (omega arith)) t,
    )))

All-named : (P : ℕ × ℕ → Type 0) (name : ℕ → ℕ) (size : ℕ) (p : List ℕ) → IsPairingOf size p → ((i : ℕ) → i < size → P (name i, name (slice_index p i))) → All P (named name p)
All-named P name size p hp h =
    All-map P (λ i. (name i, name (slice_index p i))) (range_with_len 0 (length p)) (All-range (λ i. P (name i, name (slice_index p i))) 0 (length p) (λ i a b. let s = hp.length_is in h i (omega (arith, s, b))))

-- ---- the names
left_is : (n : ℕ) → left_names n ≡ map (λ i. glued_name n (outer n i)) (range_with_len 0 (n + n))
left_is n =
    let low = range_with_len 0 n in
    let high = range_with_len (n + n) n in
    let l = length-range_with_len 0 n in
    let k = length-range_with_len (n + n) n in
    fill_by_all (λ i. glued_name n (outer n i)) (left_names n) (n + n) 0 (length-append low high ∙ omega (arith, l, k))
    (λ i b. ⊎_elim
    (λ t. let c : i < n = grind (arith, nat_tests, t) in
    get_or_append_left low high 0 i (omega (arith, l, c)) ∙ get_or-range_with_len 0 n i 0 c ∙ grind (arith, nat_tests, t))
    (λ f. let c : n ≤ i = grind (arith, nat_tests, f) in
    get_or-append_right low high n i 0 l c ∙ get_or-range_with_len (n + n) n (i - n) 0 (omega (arith, b, c)) ∙ grind (arith, nat_tests, f, c, b))
    (cases_Bool (nat_lt i n)))

all_is : (n : ℕ) → below_names n ++ above_names n ≡ map (glued_name n) (stack_names n)
all_is n =
    let low = below_names n in
    let high = above_names n in
    let l = length-range_with_len 0 (n + n) in
    let k = length-map-range_with_len (above_name n) 0 (n + n) in
    fill_by_all (glued_name n) (low ++ high) (n + n + (n + n)) 0 (length-append low high ∙ omega (arith, l, k))
    (λ i b. ⊎_elim
    (λ t. let c : i < n + n = grind (arith, nat_tests, t) in
    get_or_append_left low high 0 i (omega (arith, l, c)) ∙ get_or-range_with_len 0 (n + n) i 0 c ∙ (let z : 0 + i ≡ i = omega arith in z) ∙ sym (glued_low n i c))
    (λ f. let c : n + n ≤ i = grind (arith, nat_tests, f) in
    get_or-append_right low high (n + n) i 0 l c
    ∙ get_or-map-range_with_len (above_name n) 0 (n + n) (i - (n + n)) (i - (n + n)) 0 (omega (arith, b, c)) (omega arith)
    ∙ sym (glued_high n (i - (n + n))) ∙ (let z : n + n + (i - (n + n)) ≡ i = omega (arith, c) in ap (glued_name n) z))
    (cases_Bool (nat_lt i (n + n))))

pub left_at : (n i : ℕ) → i < n + n → slice_index (left_names n) i ≡ glued_name n (outer n i)
left_at n i b = ap (λ xs. slice_index xs i) (left_is n) ∙ get_or-map-range_with_len (λ i. glued_name n (outer n i)) 0 (n + n) i i 0 b (omega arith)

pub left_length : (n : ℕ) → length (left_names n) ≡ n + n
left_length n = ap length (left_is n) ∙ length-map-range_with_len (λ i. glued_name n (outer n i)) 0 (n + n)

left_apart : (n i j : ℕ) → i < n + n → j < n + n → glued_name n (outer n i) ≡ glued_name n (outer n j) → i ≡ j
left_apart n i j a b e = grind (arith, nat_tests, e)

module _ (n : ℕ) (p q : List ℕ) (hp : IsPairingOf (n + n) p) (hq : IsPairingOf (n + n) q) where
  abbrev G : List (ℕ × ℕ)
  G = pairs 0 q ++ named (above_name n) p

  abbrev S : List (ℕ × ℕ)
  S = label_stack n p q

  glued_is : glued_pairs n p q ≡ G
  glued_is = ap₂ (λ es fs. es ++ fs) (pair_edges-pairs 0 (n + n) q hq) (pair_edges-named (above_name n) (n + n) p hp)

  -- the edges of the gluing
  low_glued : (i : ℕ) → i < n + n → label_of G i ≡ label_of G (slice_index q i)
  low_glued i b =
      labels-from_Joined G
      (along (Contains-append_left (pairs 0 q) (named (above_name n) p) (i, slice_index q i)
      (Contains-pairs 0 q i (slice_index q i) (omega arith) (let s = hq.length_is in omega (arith, s, b)) (let z : i - 0 ≡ i = omega arith in rw z (omega arith)))))

  high_glued : (i : ℕ) → i < n + n → label_of G (above_name n i) ≡ label_of G (above_name n (slice_index p i))
  high_glued i b =
      labels-from_Joined G
      (along (Contains-append_right (pairs 0 q) (named (above_name n) p) (above_name n i, above_name n (slice_index p i))
      (Contains-range (λ k. (above_name n k, above_name n (slice_index p k))) 0 (length p) i (omega arith) (let s = hp.length_is in omega (arith, s, b)))))

  -- what the stack joins is glued
  kept : All (λ e. label_of G (glued_name n e.0) ≡ label_of G (glued_name n e.1)) S
  kept =
      let P : ℕ × ℕ → Type 0 = λ e. label_of G (glued_name n e.0) ≡ label_of G (glued_name n e.1) in
      All-append P (pairs 0 q) (pairs (n + n) p ++ seams n)
      (All-named P (λ i. 0 + i) (n + n) q hq (λ i b.
      let y : 0 + i ≡ i = omega arith in let z : 0 + slice_index q i ≡ slice_index q i = omega arith in
      ap (λ k. label_of G (glued_name n k)) y ∙ ap (label_of G) (glued_low n i b) ∙ low_glued i b
      ∙ sym (ap (λ k. label_of G (glued_name n k)) z ∙ ap (label_of G) (glued_low n (slice_index q i) (hq.stays i b)))))
      (All-append P (pairs (n + n) p) (seams n)
      (All-named P (λ i. n + n + i) (n + n) p hp (λ i b. ap (label_of G) (glued_high n i) ∙ high_glued i b ∙ sym (ap (label_of G) (glued_high n (slice_index p i)))))
      (All-map P (λ i. (n + n + i, n + n - 1 - i)) (range_with_len 0 n) (All-range (λ i. P (n + n + i, n + n - 1 - i)) 0 n (λ i x y.
      ap (label_of G) (glued_high n i ∙ glued_seam n i (omega (arith, y)) ∙ sym (glued_low n (n + n - 1 - i) (omega (arith, y))))))))

  glued_joined : (x y : ℕ) → label_of S x ≡ label_of S y → label_of G (glued_name n x) ≡ label_of G (glued_name n y)
  glued_joined x y e = keeps_Joined (λ z. label_of G (glued_name n z)) S kept (Joined-from_labels S x y e)

  -- and what is glued, the stack joins
  stacked_above : (i : ℕ) → i < n + n → label_of S (stacked_name n (above_name n i)) ≡ label_of S (n + n + i)
  stacked_above i b =
      ⊎_elim
      (λ t. let c : i < n = grind (arith, nat_tests, t) in
      ap (λ k. label_of S (stacked_name n k)) (glued_seam n i c) ∙ ap (label_of S) (stacked_low n (n + n - 1 - i) (omega (arith, c))) ∙ sym (seam_edge n p q hp hq i c))
      (λ f. let c : n ≤ i = grind (arith, nat_tests, f) in
      ap (λ k. label_of S (stacked_name n k)) (above_top n i c) ∙ ap (label_of S) (stacked_top n i c))
      (cases_Bool (nat_lt i n))

  stacked : All (λ e. label_of S (stacked_name n e.0) ≡ label_of S (stacked_name n e.1)) G
  stacked =
      let P : ℕ × ℕ → Type 0 = λ e. label_of S (stacked_name n e.0) ≡ label_of S (stacked_name n e.1) in
      All-append P (pairs 0 q) (named (above_name n) p)
      (All-named P (λ i. 0 + i) (n + n) q hq (λ i b.
      let y : 0 + i ≡ i = omega arith in let z : 0 + slice_index q i ≡ slice_index q i = omega arith in
      ap (λ k. label_of S (stacked_name n k)) y ∙ ap (label_of S) (stacked_low n i b) ∙ low_edge n p q hp hq i b
      ∙ sym (ap (λ k. label_of S (stacked_name n k)) z ∙ ap (label_of S) (stacked_low n (slice_index q i) (hq.stays i b)))))
      (All-named P (above_name n) (n + n) p hp (λ i b. stacked_above i b ∙ high_edge n p q hp hq i b ∙ sym (stacked_above (slice_index p i) (hp.stays i b))))

  stacked_glued : (x : ℕ) → x < n + n + (n + n) → label_of S (stacked_name n (glued_name n x)) ≡ label_of S x
  stacked_glued x b =
      ⊎_elim
      (λ t. let c : x < n + n = grind (arith, nat_tests, t) in ap (label_of S) (ap (stacked_name n) (glued_low n x c) ∙ stacked_low n x c))
      (λ f. let c : n + n ≤ x = grind (arith, nat_tests, f) in
      let z : n + n + (x - (n + n)) ≡ x = omega (arith, c) in
      ap (λ k. label_of S (stacked_name n (glued_name n k))) (sym z) ∙ ap (λ k. label_of S (stacked_name n k)) (glued_high n (x - (n + n)))
      ∙ stacked_above (x - (n + n)) (omega (arith, b, c)) ∙ ap (label_of S) z)
      (cases_Bool (nat_lt x (n + n)))

  stack_joined : (x y : ℕ) → x < n + n + (n + n) → y < n + n + (n + n) → label_of G (glued_name n x) ≡ label_of G (glued_name n y) → label_of S x ≡ label_of S y
  stack_joined x y a b e =
      sym (stacked_glued x a) ∙ keeps_Joined (λ z. label_of S (stacked_name n z)) G stacked (Joined-from_labels G (glued_name n x) (glued_name n y) e) ∙ stacked_glued y b

  same_told : (x y : ℕ) → x < n + n + (n + n) → y < n + n + (n + n) → (label_of G (glued_name n x) == label_of G (glued_name n y)) ≡ (label_of S x == label_of S y)
  same_told x y a b = eqb_from_iff (label_of G (glued_name n x)) (label_of G (glued_name n y)) (label_of S x) (label_of S y) (stack_joined x y a b) (glued_joined x y)

  -- ---- the ends and the names
  glued_among : AreAmong (below_names n ++ above_names n) G
  glued_among =
      let inside = is_member ◌==◌ (below_names n ++ above_names n) in
      EndsAre-append inside (pairs 0 q) (named (above_name n) p)
      (EndsAre-named inside (λ i. 0 + i) (n + n) q hq (λ i b.
      let m = is_member-append (below_names n) (above_names n) (0 + i) in let r = is_member-range 0 (n + n) (0 + i) (omega arith) (omega (arith, b)) in grind (arith, m, r)))
      (EndsAre-named inside (above_name n) (n + n) p hp (λ i b.
      let m = is_member-append (below_names n) (above_names n) (above_name n i) in let r = in_map (above_name n) (n + n) i b in grind (arith, m, r)))

  pub pairs_among : AreAmong (below_names n ++ above_names n) (glued_pairs n p q)
  pairs_among = subst (AreAmong (below_names n ++ above_names n)) (sym glued_is) glued_among

  left_inside : AllPass (is_member ◌==◌ (below_names n ++ above_names n)) (left_names n)
  left_inside =
      to_All (is_member ◌==◌ (below_names n ++ above_names n)) (left_names n)
      (λ x m. let t = out_map (λ i. glued_name n (outer n i)) (n + n) x (ap (λ xs. is_member ◌==◌ xs x) (sym (left_is n)) ∙ m) in
      ap (λ xs. is_member ◌==◌ xs x) (all_is n) ∙ ap (is_member ◌==◌ (map (glued_name n) (stack_names n))) t.1.1
      ∙ in_map (glued_name n) (n + n + (n + n)) (outer n t.0) (outer_below n t.0 t.1.0))

  left_once : AreOnce (left_names n)
  left_once i j a b e =
      let l = left_length n in
      let ci : i < n + n = omega (arith, l, a) in
      let cj : j < n + n = omega (arith, l, b) in
      left_apart n i j ci cj (sym (left_at n i ci) ∙ e ∙ left_at n j cj)

  is_paired : IsPairedLabels G (left_names n) (label_product n p q)
  is_paired =
      let own = IsPairingOf-product n p q hp hq in
      let tells = Matches-product n p q hp hq in
      let l = left_length n in
      let r = label_product n p q in
      record {
        whole = own.length_is ∙ sym l;
        is_pairing = (IsPairingOn-from_points n (label_product n p q) own).is_pairing;
        joined = λ i b.
            let c : i < n + n = omega (arith, l, b) in
            let d : slice_index (label_product n p q) i < n + n = own.stays i c in
            let t = tells.tells i (slice_index (label_product n p q) i) (is_below (n + n) i c) (is_below (n + n) _ d) in
            ap (label_of G) (left_at n (slice_index (label_product n p q) i) d)
            ∙ sym (glued_joined (outer n i) (outer n (slice_index (label_product n p q) i)) (eqb-true _ _ (t ∙ or_right (i == slice_index (label_product n p q) i) _ (eq-eqb _ _ refl))))
            ∙ sym (ap (label_of G) (left_at n i c));
        only = λ i j a b e d.
            let ci : i < n + n = omega (arith, l, a) in
            let cj : j < n + n = omega (arith, l, b) in
            let t = tells.tells i j (is_below (n + n) i ci) (is_below (n + n) j cj) in
            chosen i j (slice_index (label_product n p q) i)
            (sym t ∙ eq-eqb _ _ (stack_joined (outer n i) (outer n j) (outer_below n i ci) (outer_below n j cj) (sym (ap (label_of G) (left_at n i ci)) ∙ e ∙ ap (label_of G) (left_at n j cj)))) d;
      }

  -- THE PRODUCT IS THE GLUED PAIRING
  pub glued_partners : partners_of (below_names n ++ above_names n) (glued_pairs n p q) (left_names n) ≡ product n p q
  glued_partners =
      ap (λ es. partners_of (below_names n ++ above_names n) es (left_names n)) glued_is
      ∙ partners_of-labels (below_names n ++ above_names n) G glued_among (left_names n) left_inside
      ∙ label_partners-is G (left_names n) (label_product n p q) left_once is_paired
      ∙ sym (product-labels n p q hp hq)

  -- as many labels, at the new names
  counted : (xs : List ℕ) → ((x : ℕ) → is_member ◌==◌ xs x ≡ true → x < n + n + (n + n)) → label_count (label_of G) (map (glued_name n) xs) ≡ label_count (label_of S) xs
  counted xs h =
      ap (distinct_count ◌==◌) (map_map (label_of G) (glued_name n) xs)
      ∙ label_count-agree (λ x. nat_lt x (n + n + (n + n))) (λ x. label_of G (glued_name n x)) (label_of S) xs
      (λ u v a b. same_told u v (grind (arith, nat_tests, a)) (grind (arith, nat_tests, b))) (to_All (λ x. nat_lt x (n + n + (n + n))) xs (λ x m. is_below (n + n + (n + n)) x (h x m)))

  -- AND ITS LOOPS ARE THE CLOSED PARTS
  pub glued_loops : closed_parts (below_names n ++ above_names n) (glued_pairs n p q) (left_names n) ≡ product_loops n p q
  glued_loops =
      ap (λ es. closed_parts (below_names n ++ above_names n) es (left_names n)) glued_is
      ∙ closed_parts-labels (below_names n ++ above_names n) G glued_among (left_names n) left_inside
      ∙ ap₂ (λ a b. a - b)
      (ap (label_count (label_of G)) (all_is n) ∙ counted (stack_names n) (λ x m. let b = below_range 0 (n + n + (n + n)) x m in omega (arith, b)))
      (ap (label_count (label_of G)) (left_is n ∙ sym (map_map (glued_name n) (outer n) (range_with_len 0 (n + n))))
      ∙ counted (map (outer n) (range_with_len 0 (n + n))) (λ x m. let t = out_map (outer n) (n + n) x m in let b = outer_below n t.0 t.1.0 in let e = t.1.1 in omega (arith, b, e)))
      ∙ sym (product_loops-labels n p q hp hq)

pub glued_product : ProductByGluing
glued_product n p q hp hq =
    let a = IsPairingOf-from_points n p hp in
    let b = IsPairingOf-from_points n q hq in
    record { pairing = glued_partners n p q a b; loops = glued_loops n p q a b }

-- ---- closures
module _ (n : ℕ) (p : List ℕ) (hp : IsPairingOf (n + n) p) where
  abbrev D : List (ℕ × ℕ)
  D = pairs 0 p ++ pairs 0 (straight n)

  abbrev C : List (ℕ × ℕ)
  C = closed_edges n p

  abbrev all : List ℕ
  all = below_names n

  doubled_is : pair_edges all p ++ pair_edges all (straight n) ≡ D
  doubled_is = ap₂ (λ es fs. es ++ fs) (pair_edges-pairs 0 (n + n) p hp) (pair_edges-pairs 0 (n + n) (straight n) (IsPairingOf-straight n))

  doubled_pair : (i : ℕ) → i < n + n → label_of D i ≡ label_of D (slice_index p i)
  doubled_pair i b =
      labels-from_Joined D
      (along (Contains-append_left (pairs 0 p) (pairs 0 (straight n)) (i, slice_index p i)
      (Contains-pairs 0 p i (slice_index p i) (omega arith) (let s = hp.length_is in omega (arith, s, b)) (let z : i - 0 ≡ i = omega arith in rw z (omega arith)))))

  doubled_strand : (i : ℕ) → i < n + n → label_of D i ≡ label_of D (n + n - 1 - i)
  doubled_strand i b =
      labels-from_Joined D
      (along (Contains-append_right (pairs 0 p) (pairs 0 (straight n)) (i, n + n - 1 - i)
      (Contains-pairs 0 (straight n) i (n + n - 1 - i) (omega arith) (let s = (IsPairingOf-straight n).length_is in omega (arith, s, b)) (let z : i - 0 ≡ i = omega arith in rw z (let e = straight_at n i b in omega (arith, e))))))

  closed_strand : (i : ℕ) → i < n + n → label_of C i ≡ label_of C (n + n - 1 - i)
  closed_strand i b =
      ⊎_elim
      (λ t. closing_edge n p hp i (grind (arith, nat_tests, t)))
      (λ f. let c : n ≤ i = grind (arith, nat_tests, f) in
      let z : n + n - 1 - (n + n - 1 - i) ≡ i = omega arith in
      sym (closing_edge n p hp (n + n - 1 - i) (omega (arith, b, c)) ∙ ap (label_of C) z))
      (cases_Bool (nat_lt i n))

  doubled_kept : All (λ e. label_of C e.0 ≡ label_of C e.1) D
  doubled_kept =
      let P : ℕ × ℕ → Type 0 = λ e. label_of C e.0 ≡ label_of C e.1 in
      All-append P (pairs 0 p) (pairs 0 (straight n))
      (All-named P (λ i. 0 + i) (n + n) p hp (λ i b. rw (from_nothing i, from_nothing (slice_index p i)) (pair_edge n p hp i b)))
      (All-named P (λ i. 0 + i) (n + n) (straight n) (IsPairingOf-straight n) (λ i b. rw (from_nothing i, from_nothing (slice_index (straight n) i), straight_at n i b) (closed_strand i b)))
    where
      from_nothing : (i : ℕ) → 0 + i ≡ i
      from_nothing i = omega arith

  closed_kept : All (λ e. label_of D e.0 ≡ label_of D e.1) C
  closed_kept =
      let P : ℕ × ℕ → Type 0 = λ e. label_of D e.0 ≡ label_of D e.1 in
      All-append P (pairs 0 p) (map (λ i. (i, n + n - 1 - i)) (range_with_len 0 n))
      (All-named P (λ i. 0 + i) (n + n) p hp (λ i b. rw (from_nothing i, from_nothing (slice_index p i)) (doubled_pair i b)))
      (All-map P (λ i. (i, n + n - 1 - i)) (range_with_len 0 n) (All-range (λ i. P (i, n + n - 1 - i)) 0 n (λ i x y. doubled_strand i (omega (arith, y)))))
    where
      from_nothing : (i : ℕ) → 0 + i ≡ i
      from_nothing i = omega arith

  doubled_among : AreAmong (all ++ all) D
  doubled_among =
      let inside = is_member ◌==◌ (all ++ all) in
      let there : (i : ℕ) → i < n + n → inside (0 + i) ≡ true = λ i b. let m = is_member-append all all (0 + i) in let r = is_member-range 0 (n + n) (0 + i) (omega arith) (omega (arith, b)) in grind (arith, m, r) in
      EndsAre-append inside (pairs 0 p) (pairs 0 (straight n)) (EndsAre-named inside (λ i. 0 + i) (n + n) p hp there) (EndsAre-named inside (λ i. 0 + i) (n + n) (straight n) (IsPairingOf-straight n) there)

  twice_member : (x : ℕ) → is_member ◌==◌ (all ++ all) x ≡ is_member ◌==◌ all x
  twice_member x = let m = is_member-append all all x in grind (arith, m)

  -- THE CLOSURE IS A GLUING TO STRAIGHT STRANDS
  pub closed_gluing : closed_parts (all ++ all) (pair_edges all p ++ pair_edges all (straight n)) [] ≡ closure_loops n p
  closed_gluing =
      ap (λ es. closed_parts (all ++ all) es []) doubled_is
      ∙ (let z : part_count (all ++ all) D - 0 ≡ part_count (all ++ all) D = omega arith in z)
      ∙ part_count-labels (all ++ all) D doubled_among
      ∙ label_count-same_names (label_of D) (all ++ all) all twice_member
      ∙ label_count-agree (λ x. true) (label_of D) (label_of C) all
      (λ u v a b. eqb_from_iff (label_of D u) (label_of D v) (label_of C u) (label_of C v)
      (λ e. keeps_Joined (label_of C) D doubled_kept (Joined-from_labels D u v e))
      (λ e. keeps_Joined (label_of D) C closed_kept (Joined-from_labels C u v e)))
      (to_All (λ x. true) all (λ x m. refl))
      ∙ sym (closure_loops-labels n p hp)

pub glued_closure : ClosureByGluing
glued_closure n p hp = closed_gluing n p (IsPairingOf-from_points n p hp)
