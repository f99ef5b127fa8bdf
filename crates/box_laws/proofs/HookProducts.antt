-- A hook above a pairing: its product hooks two of the pairing's tops, and closes a loop where these are partners.
use Rattle.std.proofs.Common.{◌≡◌, ◌≢◌, ℕ, ◌+◌, ◌-◌, ◌<◌, ◌≤◌, Bool, true, false, cond, ◌==◌, ◌||◌, nat_lt, List, ◌∷◌, ◌++◌, map, slice_index, refl, sym, ap, ◌∙◌, arith, All, ⊎_elim, ◌⊎◌, inl, inr}
use Rattle.std.specs.List.{range_with_len}
use Rattle.std.specs.Set.{is_member, distinct_count}
use Rattle.std.proofs.lemmas.Bool.{cases_Bool, eq-eqb, eqb-true, or_cases, cases_eq}
use Rattle.std.proofs.lemmas.Bool.Decides.{nat_tests}
use Rattle.std.proofs.lemmas.List.Elements.{All-append, All-map}
use Rattle.std.proofs.lemmas.List.FromFn.{length-map-range_with_len, get_or-map-range_with_len}
use Rattle.graph_parts.specs.Labels.{label_of}
use Rattle.graph_parts.proofs.Agreement.{to_All}
use Rattle.graph_parts.proofs.Counting.{is_member-map, distinct_count-cons}
use Rattle.graph_parts.proofs.Distinct.{distinct_count-le_from_within}
use Rattle.graph_parts.proofs.Walks.{Joined-from_labels}
use Rattle.strand_algebra.specs.StrandPairings.{seams}
use Rattle.strand_algebra.proofs.Contractions.{below_range}
use Rattle.strand_algebra.proofs.HookRelations.{hooked_at, IsPairingOf-hooked}
use Rattle.strand_algebra.proofs.LabelProducts.{pairs, label_stack, outer, label_product, label_loops, IsPairingOf, hooked_behind, hooked_behind_point}
use Rattle.strand_algebra.proofs.Stacks.{is_below, All-pairs, outer_below}
use Rattle.strand_algebra.proofs.StraightStrands.{product_is, loops_none, low_edge, high_edge, seam_edge}
use Rattle.list_lemmas.proofs.Ranges.{is_member-range, All-range}
use Rattle.strand_words.specs.Matings.{IsMating, hooked}
use Rattle.strand_words.proofs.Hooks.{hooked-IsMating}
use Rattle.word_networks.specs.Strands.{strand_of, standing}
use Rattle.word_networks.proofs.Strands.{standing-IsMating, strand_standing, halves}
use Rattle.graph_parts.proofs.Through.{keeps_Joined}
use Rattle.piece_laws.proofs.NameCounts.{member_mapped}

-- ---- a pairing of so many points as a mating of all numbers: the others stand
abbrev pub mate_in : ℕ → List ℕ → ℕ → ℕ
mate_in n q z = cond (nat_lt z (n + n)) (slice_index q z) (standing z)

standing_high : (n z : ℕ) → nat_lt z (n + n) ≡ false → nat_lt (standing z) (n + n) ≡ false
standing_high n z h =
    let a : n + n ≤ z = grind (arith, nat_tests, h) in
    let e = strand_standing z in
    let b : n + n ≤ standing z = plain n z (standing z) (strand_of z) (strand_of (standing z)) a e (halves z) (halves (standing z)) in
    grind (arith, nat_tests, b)
  where
    plain : (n z w s t : ℕ) → n + n ≤ z → t ≡ s → (z ≡ s + s) ⊎ (z ≡ s + s + 1) → (w ≡ t + t) ⊎ (w ≡ t + t + 1) → n + n ≤ w
    plain n z w s t a e (inl p) (inl q) = omega (arith, a, e, p, q)
    plain n z w s t a e (inl p) (inr q) = omega (arith, a, e, p, q)
    plain n z w s t a e (inr p) (inl q) = omega (arith, a, e, p, q)
    plain n z w s t a e (inr p) (inr q) = omega (arith, a, e, p, q)

pub mate_in-low : (n : ℕ) (q : List ℕ) (z : ℕ) → z < n + n → mate_in n q z ≡ slice_index q z
mate_in-low n q z h = ap (λ b. cond b (slice_index q z) (standing z)) (is_below (n + n) z h)

pub mate_in-IsMating : (n : ℕ) (q : List ℕ) → IsPairingOf (n + n) q → IsMating (mate_in n q)
mate_in-IsMating n q hq = record {
  apart = λ z.
      ⊎_elim (λ t e. (let l : z < n + n = grind (arith, nat_tests, t) in hq.moves z l (sym (mate_in-low n q z l) ∙ e)))
      (λ f e. standing-IsMating.apart z (sym (ap (λ b. cond b (slice_index q z) (standing z)) f) ∙ e)) (cases_Bool (nat_lt z (n + n)));
  back = λ z.
      ⊎_elim
      (λ t. (let l : z < n + n = grind (arith, nat_tests, t) in ap (mate_in n q) (mate_in-low n q z l) ∙ mate_in-low n q (slice_index q z) (hq.stays z l) ∙ hq.turns z l))
      (λ f. ap (mate_in n q) (ap (λ b. cond b (slice_index q z) (standing z)) f) ∙ ap (λ b. cond b (slice_index q (standing z)) (standing (standing z))) (standing_high n z f) ∙ standing-IsMating.back z)
      (cases_Bool (nat_lt z (n + n)));
}

high_plain : (n i j : ℕ) → i + 1 < n → j < n + n →
    (n + n + j == n + n - 1 - i || (n + n + j == n + n - 1 - (i + 1) || (n + n + j == n + n + i || n + n + j == n + n + (i + 1))))
    ≡ (n + n + hooked_behind_point n i j == n + n - 1 - i || (n + n + hooked_behind_point n i j == n + n - 1 - (i + 1) || (n + n + hooked_behind_point n i j == n + n + i || n + n + hooked_behind_point n i j == n + n + (i + 1))))
high_plain n i j b l = grind (arith, nat_tests, b, l)

seam_plain : (n i a : ℕ) → i + 1 < n → a < n →
    (n + n + a == n + n - 1 - i || (n + n + a == n + n - 1 - (i + 1) || (n + n + a == n + n + i || n + n + a == n + n + (i + 1))))
    ≡ (n + n - 1 - a == n + n - 1 - i || (n + n - 1 - a == n + n - 1 - (i + 1) || (n + n - 1 - a == n + n + i || n + n - 1 - a == n + n + (i + 1))))
seam_plain n i a b l = grind (arith, nat_tests, b, l)

outer_plain : (n i j : ℕ) → i + 1 < n → j < n + n →
    (outer n j == n + n - 1 - i || (outer n j == n + n - 1 - (i + 1) || (outer n j == n + n + i || outer n j == n + n + (i + 1)))) ≡ false
outer_plain n i j b l = grind (arith, nat_tests, b, l)

not_there : (w : ℕ) (xs : List ℕ) → ((v : ℕ) → is_member ◌==◌ xs v ≡ true → w ≢ v) → is_member ◌==◌ xs w ≡ false
not_there w xs h = ⊎_elim (λ t. absurd (h w t refl)) (λ f. f) (cases_Bool (is_member ◌==◌ xs w))

module _ (n i : ℕ) (q : List ℕ) (hq : IsPairingOf (n + n) q) (b : i + 1 < n) where
  -- the two tops
  abbrev pub x : ℕ
  x = n + n - 1 - i

  abbrev pub y : ℕ
  y = n + n - 1 - (i + 1)

  abbrev h : List ℕ
  h = hooked_behind n i

  abbrev hh : IsPairingOf (n + n) h
  hh = IsPairingOf-hooked n i b

  abbrev Q : ℕ → ℕ
  Q = mate_in n q

  abbrev pub hooked_list : List ℕ
  hooked_list = map (hooked x y (mate_in n q)) (range_with_len 0 (n + n))

  abbrev label : ℕ → ℕ
  label = label_of (label_stack n h q)

  QM : IsMating Q
  QM = mate_in-IsMating n q hq

  xy : x ≢ y
  xy e = omega (arith, e, b)

  pub list_at : (j : ℕ) → j < n + n → slice_index hooked_list j ≡ hooked x y Q j
  list_at j l = get_or-map-range_with_len (hooked x y Q) 0 (n + n) j j 0 l (omega arith)

  pub Q_below : (j : ℕ) → j < n + n → Q j < n + n
  Q_below j l = let e = mate_in-low n q j l in let s = hq.stays j l in omega (arith, e, s)

  hooked_below : (j : ℕ) → j < n + n → hooked x y Q j < n + n
  hooked_below j l =
      let a : x < n + n = omega (arith, b) in let c : y < n + n = omega (arith, b) in
      plain (n + n) x y j (Q x) (Q y) (Q j) a c (Q_below x a) (Q_below y c) (Q_below j l)
    where
      plain : (k x y j qx qy qj : ℕ) → x < k → y < k → qx < k → qy < k → qj < k → cond (j == x) y (cond (j == y) x (cond (j == qx) qy (cond (j == qy) qx qj))) < k
      plain k x y j qx qy qj a b c d e = grind (arith, nat_tests, a, b, c, d, e)

  pub IsPairingOf-hooked_list : IsPairingOf (n + n) hooked_list
  IsPairingOf-hooked_list =
      let is = hooked-IsMating x y Q QM xy in
      record {
        length_is = length-map-range_with_len (hooked x y Q) 0 (n + n);
        stays = λ j l. (let e = list_at j l in let s = hooked_below j l in omega (arith, e, s));
        turns = λ j l. ap (slice_index hooked_list) (list_at j l) ∙ list_at (hooked x y Q j) (hooked_below j l) ∙ is.back j;
        moves = λ j l e. is.apart j (sym (list_at j l) ∙ e);
      }

  -- ---- what the stack joins
  hook_at_x : slice_index h x ≡ y
  hook_at_x = hooked_at n i x (omega (arith, b)) ∙ grind (arith, nat_tests, b)

  hook_at_i : slice_index h i ≡ i + 1
  hook_at_i = hooked_at n i i (omega (arith, b)) ∙ grind (arith, nat_tests, b)

  hook_at_top : (j : ℕ) → n ≤ j → j < n + n → j ≢ x → j ≢ y → slice_index h j ≡ n + n - 1 - j
  hook_at_top j lo hi d e = hooked_at n i j hi ∙ grind (arith, nat_tests, b, lo, hi, d, e)

  tops_joined : label x ≡ label y
  tops_joined =
      sym (seam_edge n h q hh hq i (omega (arith, b)))
      ∙ high_edge n h q hh hq i (omega (arith, b)) ∙ ap (λ k. label (n + n + k)) hook_at_i
      ∙ seam_edge n h q hh hq (i + 1) b

  pairs_joined : (j : ℕ) → j < n + n → label j ≡ label (Q j)
  pairs_joined j l = low_edge n h q hh hq j l ∙ ap label (sym (mate_in-low n q j l))

  outer_low : (j : ℕ) → j < n → outer n j ≡ j
  outer_low j l = grind (arith, nat_tests, l)

  outer_high : (j : ℕ) → n ≤ j → outer n j ≡ n + n + j
  outer_high j l = grind (arith, nat_tests, l)

  outer_joined : (j : ℕ) → j < n + n → j ≢ x → j ≢ y → label (outer n j) ≡ label j
  outer_joined j l d e =
      ⊎_elim (λ t. ap label (outer_low j (grind (arith, nat_tests, t))))
      (λ f.
      (let lo : n ≤ j = grind (arith, nat_tests, f) in
      ap label (outer_high j lo) ∙ high_edge n h q hh hq j l ∙ ap (λ k. label (n + n + k)) (hook_at_top j lo l d e)
      ∙ seam_edge n h q hh hq (n + n - 1 - j) (omega (arith, lo, l)) ∙ ap label (let z : n + n - 1 - (n + n - 1 - j) ≡ j = omega (arith, lo, l) in z)))
      (cases_Bool (nat_lt j n))

  new_pair : label (outer n x) ≡ label (outer n y)
  new_pair =
      ap label (outer_high x (omega (arith, b))) ∙ high_edge n h q hh hq x (omega (arith, b)) ∙ ap (λ k. label (n + n + k)) hook_at_x ∙ sym (ap label (outer_high y (omega (arith, b))))

  -- ---- the product
  other_top : (j : ℕ) → j ≡ Q x → j ≢ x → j ≢ y → (Q y ≢ x) × (Q y ≢ y)
  other_top j e d f = ((λ t. f (e ∙ ap Q (sym t) ∙ QM.back y)), QM.apart y)

  first_top : (j : ℕ) → j ≡ Q y → j ≢ x → j ≢ y → (Q x ≢ x) × (Q x ≢ y)
  first_top j e d f = (QM.apart x, (λ t. d (e ∙ ap Q (sym t) ∙ QM.back x)))

  pub x_below : x < n + n
  x_below = omega (arith, b)

  pub y_below : y < n + n
  y_below = omega (arith, b)

  listed : (j k : ℕ) → j < n + n → hooked x y Q j ≡ k → label (outer n j) ≡ label (outer n k) → label (outer n j) ≡ label (outer n (slice_index hooked_list j))
  listed j k l e f = f ∙ ap (λ m. label (outer n m)) (sym (list_at j l ∙ e))

  at_x : (j x y qx qy qj : ℕ) → j ≡ x → cond (j == x) y (cond (j == y) x (cond (j == qx) qy (cond (j == qy) qx qj))) ≡ y
  at_x j x y qx qy qj e = grind (arith, nat_tests, e)

  at_y : (j x y qx qy qj : ℕ) → j ≢ x → j ≡ y → cond (j == x) y (cond (j == y) x (cond (j == qx) qy (cond (j == qy) qx qj))) ≡ x
  at_y j x y qx qy qj d e = grind (arith, nat_tests, d, e)

  at_qx : (j x y qx qy qj : ℕ) → j ≢ x → j ≢ y → j ≡ qx → cond (j == x) y (cond (j == y) x (cond (j == qx) qy (cond (j == qy) qx qj))) ≡ qy
  at_qx j x y qx qy qj c d e = grind (arith, nat_tests, c, d, e)

  at_qy : (j x y qx qy qj : ℕ) → j ≢ x → j ≢ y → j ≢ qx → j ≡ qy → cond (j == x) y (cond (j == y) x (cond (j == qx) qy (cond (j == qy) qx qj))) ≡ qx
  at_qy j x y qx qy qj b c d e = grind (arith, nat_tests, b, c, d, e)

  at_others : (j x y qx qy qj : ℕ) → j ≢ x → j ≢ y → j ≢ qx → j ≢ qy → cond (j == x) y (cond (j == y) x (cond (j == qx) qy (cond (j == qy) qx qj))) ≡ qj
  at_others j x y qx qy qj b c d e = grind (arith, nat_tests, b, c, d, e)

  joined_as : (j : ℕ) → j < n + n → label (outer n j) ≡ label (outer n (slice_index hooked_list j))
  joined_as j l =
      ⊎_elim (λ e. listed j y l (at_x j x y (Q x) (Q y) (Q j) e) (ap (λ k. label (outer n k)) e ∙ new_pair))
      (λ d.
      ⊎_elim (λ e. listed j x l (at_y j x y (Q x) (Q y) (Q j) d e) (ap (λ k. label (outer n k)) e ∙ sym new_pair))
      (λ f.
      ⊎_elim
      (λ e. (let o = other_top j e d f in
      listed j (Q y) l (at_qx j x y (Q x) (Q y) (Q j) d f e)
      (outer_joined j l d f ∙ ap label e ∙ sym (pairs_joined x x_below) ∙ tops_joined ∙ pairs_joined y y_below ∙ sym (outer_joined (Q y) (Q_below y y_below) o.0 o.1))))
      (λ g.
      ⊎_elim
      (λ e. (let o = first_top j e d f in
      listed j (Q x) l (at_qy j x y (Q x) (Q y) (Q j) d f g e)
      (outer_joined j l d f ∙ ap label e ∙ sym (pairs_joined y y_below) ∙ sym tops_joined ∙ pairs_joined x x_below ∙ sym (outer_joined (Q x) (Q_below x x_below) o.0 o.1))))
      (λ k.
      listed j (Q j) l (at_others j x y (Q x) (Q y) (Q j) d f g k)
      (outer_joined j l d f ∙ pairs_joined j l
      ∙ sym (outer_joined (Q j) (Q_below j l) (λ t. g (sym (QM.back j) ∙ ap Q t)) (λ t. k (sym (QM.back j) ∙ ap Q t)))))
      (cases_eq j (Q y)))
      (cases_eq j (Q x)))
      (cases_eq j y))
      (cases_eq j x)

  -- THE PRODUCT
  pub hook_product : label_product n h q ≡ hooked_list
  hook_product = product_is n h q hh hq hooked_list IsPairingOf-hooked_list joined_as

  -- ---- its loops
  Reached : ℕ → Type 0
  Reached z = (label z ≡ label x) ⊎ ((j : ℕ) × (j < n + n) × (label z ≡ label (outer n j)))

  reach_low : (z : ℕ) → z < n + n → Reached z
  unfolding Reached
  reach_low z l =
      ⊎_elim (λ e. inl (ap label e)) (λ d. ⊎_elim (λ e. inl (ap label e ∙ sym tops_joined)) (λ f. inr (z, l, sym (outer_joined z l d f))) (cases_eq z y)) (cases_eq z x)

  reach : (z : ℕ) → z < n + n + (n + n) → Reached z
  unfolding Reached
  reach z l =
      ⊎_elim (λ t. reach_low z (grind (arith, nat_tests, t)))
      (λ f.
      (let lo : n + n ≤ z = grind (arith, nat_tests, f) in
      let j = z - (n + n) in
      let e : z ≡ n + n + j = omega (arith, lo) in
      ⊎_elim
      (λ t.
      (let low : j < n = grind (arith, nat_tests, t) in
      let s = ap label e ∙ seam_edge n h q hh hq j low in
      ⊎_elim (λ r. inl (s ∙ r)) (λ r. inr (r.0, r.1, s ∙ r.2)) (reach_low (n + n - 1 - j) (omega (arith, low)))))
      (λ g. (let high : n ≤ j = grind (arith, nat_tests, g) in inr (j, omega (arith, l, lo), ap label (e ∙ sym (outer_high j high)))))
      (cases_Bool (nat_lt j n))))
      (cases_Bool (nat_lt z (n + n)))

  -- where the tops are not partners, each part has an outer point
  no_loops : Q x ≢ y → label_loops n h q ≡ 0
  unfolding Reached
  no_loops d =
      loops_none n h q hh hq
      (λ z l.
      ⊎_elim (λ e. (Q x, (Q_below x x_below, e ∙ pairs_joined x x_below ∙ sym (outer_joined (Q x) (Q_below x x_below) (QM.apart x) d)))) (λ r. (r.0, (r.1, r.2))) (reach z l))

  -- where they are, the part of the two tops has none
  abbrev is_inner : ℕ → Bool
  is_inner z = z == x || (z == y || (z == n + n + i || z == n + n + (i + 1)))

  abbrev inner : ℕ → ℕ
  inner z = cond (is_inner z) 1 0

  abbrev pub one_zero : Bool → ℕ
  one_zero t = cond t 1 0

  inner_low : Q x ≡ y → (j : ℕ) → j < n + n → is_inner j ≡ is_inner (Q j)
  inner_low e j l =
      let qb = Q_below j l in
      let bx = QM.back x in let bj = QM.back j in
      let back : Q y ≡ x = ap Q (sym e) ∙ bx in
      plain j (Q j) x y (n + n + i) (n + n + (i + 1)) (λ t. ap Q t ∙ e) (λ t. ap Q t ∙ back) (λ t. sym bj ∙ ap Q t ∙ e) (λ t. sym bj ∙ ap Q t ∙ back)
      (λ t. omega (arith, t, l)) (λ t. omega (arith, t, l)) (λ t. omega (arith, t, qb)) (λ t. omega (arith, t, qb))
    where
      plain : (j qj k m u v : ℕ) → (j ≡ k → qj ≡ m) → (j ≡ m → qj ≡ k) → (qj ≡ k → j ≡ m) → (qj ≡ m → j ≡ k) → j ≢ u → j ≢ v → qj ≢ u → qj ≢ v →
          (j == k || (j == m || (j == u || j == v))) ≡ (qj == k || (qj == m || (qj == u || qj == v)))
      plain j qj k m u v a c d e f g o r = grind (arith, nat_tests, a, c, d, e, f, g, o, r)

  inner_high : (j : ℕ) → j < n + n → is_inner (n + n + j) ≡ is_inner (n + n + slice_index h j)
  inner_high j l = high_plain n i j b l ∙ ap (λ k. is_inner (n + n + k)) (sym (hooked_at n i j l))

  inner_seam : (a : ℕ) → a < n → is_inner (n + n + a) ≡ is_inner (n + n - 1 - a)
  inner_seam a l = seam_plain n i a b l

  kept : Q x ≡ y → All (λ e. inner e.0 ≡ inner e.1) (label_stack n h q)
  kept e =
      let P : ℕ × ℕ → Type 0 = λ u. inner u.0 ≡ inner u.1 in
      All-append P (pairs 0 q) (pairs (n + n) h ++ seams n)
      (All-pairs P 0 q (λ j l.
      (let s = hq.length_is in let low : j < n + n = omega (arith, s, l) in
      ap inner (let z : 0 + j ≡ j = omega arith in z) ∙ ap (λ t. cond t 1 0) (inner_low e j low ∙ ap is_inner (mate_in-low n q j low)) ∙ ap inner (let z : slice_index q j ≡ 0 + slice_index q j = omega arith in z))))
      (All-append P (pairs (n + n) h) (seams n)
      (All-pairs P (n + n) h (λ j l. (let s = hh.length_is in ap (λ t. cond t 1 0) (inner_high j (omega (arith, s, l))))))
      (All-map P (λ a. (n + n + a, n + n - 1 - a)) (range_with_len 0 n) (All-range (λ a. P (n + n + a, n + n - 1 - a)) 0 n (λ a lo hi. ap (λ t. cond t 1 0) (inner_seam a (omega (arith, hi)))))))

  not_outer : (j : ℕ) → j < n + n → is_inner (outer n j) ≡ false
  not_outer j l = outer_plain n i j b l

  apart_outer : Q x ≡ y → (j : ℕ) → j < n + n → label x ≢ label (outer n j)
  apart_outer e j l t =
      let k : inner x ≡ inner (outer n j) = keeps_Joined inner (label_stack n h q) (kept e) (Joined-from_labels (label_stack n h q) x (outer n j) t) in
      clash (is_inner x) (is_inner (outer n j)) (grind (arith, nat_tests)) (not_outer j l) k
    where
      clash : (s t : Bool) → s ≡ true → t ≡ false → one_zero s ≡ one_zero t → ⊥
      clash s t p q r = grind (arith, p, q, r)

  -- as many labels as outer points have, and one more
  one_loop : Q x ≡ y → label_loops n h q ≡ 1
  unfolding Reached
  one_loop e =
      let size = n + n + (n + n) in
      let all = map label (range_with_len 0 size) in
      let out = map label (map (outer n) (range_with_len 0 (n + n))) in
      let in_out : (j : ℕ) → j < n + n → is_member ◌==◌ out (label (outer n j)) ≡ true =
      λ j l. is_member-map label (map (outer n) (range_with_len 0 (n + n))) (outer n j) (is_member-map (outer n) (range_with_len 0 (n + n)) j (is_member-range 0 (n + n) j (omega arith) (omega (arith, l)))) in
      let reached : (z : ℕ) → z < size → is_member ◌==◌ (label x ∷ out) (label z) ≡ true =
      λ z l.
      ⊎_elim (λ t. (let u = eq-eqb (label z) (label x) t in grind (arith, u)))
      (λ r. (let u = ap (is_member ◌==◌ out) r.2 ∙ in_out r.0 r.1 in grind (arith, u))) (reach z l) in
      let none : is_member ◌==◌ out (label x) ≡ false =
      not_there (label x) out
      (λ w m. (let t = member_mapped label (map (outer n) (range_with_len 0 (n + n))) w m in
      let u = member_mapped (outer n) (range_with_len 0 (n + n)) t.0 t.1 in
      let bound = below_range 0 (n + n) u.0 u.1 in
      λ k. apart_outer e u.0 (omega (arith, bound)) (k ∙ t.2 ∙ ap label u.2))) in
      let below : distinct_count ◌==◌ all ≤ distinct_count ◌==◌ (label x ∷ out) =
      distinct_count-le_from_within all (label x ∷ out)
      (to_All (is_member ◌==◌ (label x ∷ out)) all (λ w m.
      (let t = member_mapped label (range_with_len 0 size) w m in let bound = below_range 0 size t.0 t.1 in ap (is_member ◌==◌ (label x ∷ out)) t.2 ∙ reached t.0 (omega (arith, bound))))) in
      let above : distinct_count ◌==◌ (label x ∷ out) ≤ distinct_count ◌==◌ all =
      distinct_count-le_from_within (label x ∷ out) all
      (to_All (is_member ◌==◌ all) (label x ∷ out) (λ w m.
      ⊎_elim
      (λ s. ap (is_member ◌==◌ all) (eqb-true w (label x) s) ∙ is_member-map label (range_with_len 0 size) x (is_member-range 0 size x (omega arith) (omega (arith, b))))
      (λ s.
      (let t = member_mapped label (map (outer n) (range_with_len 0 (n + n))) w s in
      let u = member_mapped (outer n) (range_with_len 0 (n + n)) t.0 t.1 in
      let bound = below_range 0 (n + n) u.0 u.1 in
      let o = outer_below n u.0 (omega (arith, bound)) in
      ap (is_member ◌==◌ all) (t.2 ∙ ap label u.2) ∙ is_member-map label (range_with_len 0 size) (outer n u.0) (is_member-range 0 size (outer n u.0) (omega arith) (omega (arith, o)))))
      (or_cases (w == label x) (is_member ◌==◌ out w) m))) in
      let c = distinct_count-cons (label x) out in
      counted (distinct_count ◌==◌ all) (distinct_count ◌==◌ (label x ∷ out)) (distinct_count ◌==◌ out) (is_member ◌==◌ out (label x)) below above c none
    where
      counted : (a l o : ℕ) (t : Bool) → a ≤ l → l ≤ a → l ≡ cond t 0 1 + o → t ≡ false → a - o ≡ 1
      counted a l o t p q r s = grind (arith, p, q, r, s)

  -- THE LOOPS
  pub hook_loops : label_loops n h q ≡ one_zero (Q x == y)
  hook_loops = ⊎_elim (λ e. one_loop e ∙ sym (told (Q x) y e)) (λ d. no_loops d ∙ sym (untold (Q x) y d)) (cases_eq (Q x) y)
    where
      told : (u v : ℕ) → u ≡ v → one_zero (u == v) ≡ 1
      told u v e = grind (arith, nat_tests, e)

      untold : (u v : ℕ) → u ≢ v → one_zero (u == v) ≡ 0
      untold u v d = grind (arith, nat_tests, d)
