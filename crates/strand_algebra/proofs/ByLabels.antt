-- Products, loops and closures by parts are those by labels, so what is proved by labels holds for the definitions.
use Rattle.std.proofs.Common.{◌≡◌, ◌≢◌, ℕ, ◌+◌, ◌-◌, ◌<◌, ◌≤◌, true, ◌||◌, ◌==◌, nat_lt, List, ◌++◌, map, length, length-append, slice_index, zip, refl, sym, ap, ◌∙◌, arith, ⊎_elim}
use Rattle.std.specs.List.{range_with_len, AllPass}
use Rattle.std.specs.Set.{is_member}
use Rattle.std.proofs.lemmas.Bool.{cases_Bool, eqb-true, eq-eqb, or_right}
use Rattle.std.proofs.lemmas.Bool.Decides.{nat_tests}
use Rattle.std.proofs.lemmas.List.{get_or_append_left, get_or-append_right, get_or-map, length-map}
use Rattle.std.proofs.lemmas.List.FromFn.{fill_by_all, length-map-range_with_len, get_or-map-range_with_len, length-range_with_len, get_or-range_with_len}
use Rattle.std.proofs.lemmas.Slice.Zip.{get_or-zip, length-zip}
use Rattle.list_lemmas.proofs.Ranges.{is_member-range}
use Rattle.graph_parts.specs.Ends.{AreAmong}
use Rattle.graph_parts.specs.Labels.{label_of, label_count}
use Rattle.graph_parts.specs.Patterns.{closed_parts}
use Rattle.graph_parts.proofs.Agreement.{to_All}
use Rattle.graph_parts.proofs.Ends.{EndsAre-append}
use Rattle.graph_parts.proofs.LeastNames.{part_count-labels}
use Rattle.graph_parts.proofs.PatternLabels.{closed_parts-labels}
use Rattle.arc_gluing.specs.Mates.{IsPairedLabels}
use Rattle.arc_gluing.specs.Pairings.{pair_edges, partners_of}
use Rattle.arc_gluing.proofs.ByParts.{partners_of-labels}
use Rattle.arc_gluing.proofs.Places.{AreOnce, label_partners-is}
use Rattle.strand_algebra.specs.StrandPairings.{IsPairingOn, seams, stack, stack_names, outer_names, product, product_loops, closure, closure_loops}
use Rattle.strand_algebra.proofs.LabelProducts.{IsPairingOf, pairs, label_stack, outer, label_product, label_loops, label_closed_loops, label_parts}
use Rattle.strand_algebra.proofs.Stacks.{is_below, Matches-product, IsPairingOf-product, inner, inner_outer}
use Rattle.strand_algebra.proofs.Contractions.{EndsAre-stack, EndsAre-named, EndsAre-range, out_map}

pub IsPairingOf-from_points : (n : ℕ) (p : List ℕ) → IsPairingOn n p → IsPairingOf (n + n) p
IsPairingOf-from_points n p h =
    let s = h.points in
    record {
      length_is = h.points;
      stays = λ i b. (let w = h.is_pairing.within i (omega (arith, s, b)) in omega (arith, s, w));
      turns = λ i b. h.is_pairing.back i (omega (arith, s, b));
      moves = λ i b. h.is_pairing.apart i (omega (arith, s, b));
    }

pub IsPairingOn-from_points : (n : ℕ) (p : List ℕ) → IsPairingOf (n + n) p → IsPairingOn n p
IsPairingOn-from_points n p h =
    let s = h.length_is in
    record {
      points = h.length_is;
      is_pairing = record {
        within = λ i b. (let w = h.stays i (omega (arith, s, b)) in omega (arith, s, w));
        apart = λ i b. h.moves i (omega (arith, s, b));
        back = λ i b. h.turns i (omega (arith, s, b));
      };
    }

-- ---- the same edges
pub pair_edges-pairs : (first size : ℕ) (p : List ℕ) → IsPairingOf size p → pair_edges (range_with_len first size) p ≡ pairs first p
pair_edges-pairs first size p h =
    let names = range_with_len first size in
    let partners = map (λ place. slice_index names place) p in
    let s = h.length_is in
    let l = length-range_with_len first size in
    let k = length-map p (λ place. slice_index names place) in
    fill_by_all (λ i. (first + i, first + slice_index p i)) (zip names partners) (length p) (0, 0) (length-zip names partners ∙ omega (arith, l, k, s))
    (λ i b. let c : i < size = omega (arith, s, b) in
    get_or-zip names partners i (0, 0) (omega (arith, l, c)) (omega (arith, k, b))
    ∙ (λ t. (get_or-range_with_len first size i 0 c t, (get_or-map (λ place. slice_index names place) p i 0 0 b ∙ get_or-range_with_len first size (slice_index p i) 0 (h.stays i c)) t)))

outer_names-outer : (n : ℕ) → outer_names n ≡ map (outer n) (range_with_len 0 (n + n))
outer_names-outer n =
    let low = range_with_len 0 n in
    let high = range_with_len (n + n + n) n in
    let l = length-range_with_len 0 n in
    let k = length-range_with_len (n + n + n) n in
    fill_by_all (outer n) (outer_names n) (n + n) 0 (length-append low high ∙ omega (arith, l, k))
    (λ i b. ⊎_elim
    (λ t. let c : i < n = grind (arith, nat_tests, t) in
    get_or_append_left low high 0 i (omega (arith, l, c)) ∙ get_or-range_with_len 0 n i 0 c ∙ grind (arith, nat_tests, t))
    (λ f. let c : n ≤ i = grind (arith, nat_tests, f) in
    get_or-append_right low high n i 0 l c ∙ get_or-range_with_len (n + n + n) n (i - n) 0 (omega (arith, b, c)) ∙ grind (arith, nat_tests, f, c))
    (cases_Bool (nat_lt i n)))

outer_at : (n i : ℕ) → i < n + n → slice_index (outer_names n) i ≡ outer n i
outer_at n i b = ap (λ xs. slice_index xs i) (outer_names-outer n) ∙ get_or-map-range_with_len (outer n) 0 (n + n) i i 0 b (omega arith)

outer_length : (n : ℕ) → length (outer_names n) ≡ n + n
outer_length n = ap length (outer_names-outer n) ∙ length-map-range_with_len (outer n) 0 (n + n)

outer_inside : (n : ℕ) → AllPass (is_member ◌==◌ (stack_names n)) (outer_names n)
outer_inside n =
    to_All (is_member ◌==◌ (stack_names n)) (outer_names n)
    (λ x m. let t = out_map (outer n) (n + n) x (ap (λ xs. is_member ◌==◌ xs x) (sym (outer_names-outer n)) ∙ m) in
    ap (is_member ◌==◌ (stack_names n)) t.1.1 ∙ is_member-range 0 (n + n + (n + n)) (outer n t.0) (omega arith) (let c = t.1.0 in grind (arith, nat_tests, c)))

outer_once : (n : ℕ) → AreOnce (outer_names n)
outer_once n i j a b e =
    let l = outer_length n in
    sym (inner_outer n i) ∙ ap (inner n) (sym (outer_at n i (omega (arith, l, a))) ∙ e ∙ outer_at n j (omega (arith, l, b))) ∙ inner_outer n j

pub chosen : (i j w : ℕ) → (i == j || w == j) ≡ true → j ≢ i → j ≡ w
chosen i j w h d = grind (arith, nat_tests, h, d)

told : (l k : ℕ) → l ≡ k → (l == k) ≡ true
told l k e = eq-eqb l k e

module _ (n : ℕ) (p q : List ℕ) (hp : IsPairingOf (n + n) p) (hq : IsPairingOf (n + n) q) where
  stack-labels : stack n p q ≡ label_stack n p q
  stack-labels =
      ap (λ es. es ++ (pair_edges (range_with_len (n + n) (n + n)) p ++ seams n)) (pair_edges-pairs 0 (n + n) q hq)
      ∙ ap (λ es. pairs 0 q ++ (es ++ seams n)) (pair_edges-pairs (n + n) (n + n) p hp)

  among : AreAmong (stack_names n) (label_stack n p q)
  among = EndsAre-stack n p q hp hq

  is_paired : IsPairedLabels (label_stack n p q) (outer_names n) (label_product n p q)
  is_paired =
      let own = IsPairingOf-product n p q hp hq in
      let label : ℕ → ℕ = label_of (label_stack n p q) in
      let tells = Matches-product n p q hp hq in
      let l = outer_length n in
      record {
        whole = own.length_is ∙ sym l;
        is_pairing = (IsPairingOn-from_points n (label_product n p q) own).is_pairing;
        joined = λ i b.
            let c : i < n + n = omega (arith, l, b) in
            let d : slice_index (label_product n p q) i < n + n = own.stays i c in
            let t = tells.tells i (slice_index (label_product n p q) i) (is_below (n + n) i c) (is_below (n + n) _ d) in
            ap label (outer_at n (slice_index (label_product n p q) i) d)
            ∙ sym (eqb-true (label (outer n i)) (label (outer n (slice_index (label_product n p q) i))) (t ∙ or_right (i == slice_index (label_product n p q) i) _ (eq-eqb _ _ refl)))
            ∙ sym (ap label (outer_at n i c));
        only = λ i j a b e d.
            let ci : i < n + n = omega (arith, l, a) in
            let cj : j < n + n = omega (arith, l, b) in
            let t = tells.tells i j (is_below (n + n) i ci) (is_below (n + n) j cj) in
            chosen i j (slice_index (label_product n p q) i) (sym t ∙ told (label (outer n i)) (label (outer n j)) (sym (ap label (outer_at n i ci)) ∙ e ∙ ap label (outer_at n j cj))) d;
      }

  -- THE PRODUCT
  pub product-labels : product n p q ≡ label_product n p q
  product-labels =
      ap (λ es. partners_of (stack_names n) es (outer_names n)) stack-labels
      ∙ partners_of-labels (stack_names n) (label_stack n p q) among (outer_names n) (outer_inside n)
      ∙ label_partners-is (label_stack n p q) (outer_names n) (label_product n p q) (outer_once n) is_paired

  -- ITS LOOPS
  pub product_loops-labels : product_loops n p q ≡ label_loops n p q
  product_loops-labels =
      ap (λ es. closed_parts (stack_names n) es (outer_names n)) stack-labels
      ∙ closed_parts-labels (stack_names n) (label_stack n p q) among (outer_names n) (outer_inside n)
      ∙ ap (λ xs. label_count (label_of (label_stack n p q)) (stack_names n) - label_count (label_of (label_stack n p q)) xs) (outer_names-outer n)

-- THE CLOSURE
pub closure_loops-labels : (n : ℕ) (p : List ℕ) → IsPairingOf (n + n) p → closure_loops n p ≡ label_closed_loops n p
closure_loops-labels n p hp =
    let names = range_with_len 0 (n + n) in
    let inside = is_member ◌==◌ names in
    part_count-labels names (closure n p)
    (EndsAre-append inside (pair_edges names p) (map (λ i. (i, n + n - 1 - i)) (range_with_len 0 n))
    (let e = EndsAre-named inside (λ i. 0 + i) (n + n) p hp (λ i b. is_member-range 0 (n + n) (0 + i) (omega arith) (omega arith)) in rw (← pair_edges-pairs 0 (n + n) p hp) at e)
    (EndsAre-range inside (λ i. i) (λ i. n + n - 1 - i) 0 n (λ i x y. is_member-range 0 (n + n) i (omega arith) (omega arith)) (λ i x y. is_member-range 0 (n + n) (n + n - 1 - i) (omega arith) (omega arith))))
    ∙ ap (λ es. label_parts (es ++ map (λ i. (i, n + n - 1 - i)) (range_with_len 0 n)) names) (pair_edges-pairs 0 (n + n) p hp)
